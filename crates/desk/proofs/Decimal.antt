-- A number in decimal has at most 20 digits, and those that std prints.
use Rattle.std.proofs.Common.{◌≡◌, sym, ◌∙◌, Bool, true, false, List, [], ◌∷◌, ℕ, zero, suc, ◌+◌, ◌/◌, ◌%◌, ◌^◌, ◌≤◌, ◌<◌, ◌==◌, if◌then◌else◌, arith, length, append-nil}
use Rattle.std.specs.Fmt as Fmt
use Rattle.std.specs.Fmt.{digits_onto, digit_glyph}
use Rattle.std.proofs.lemmas.Fmt.{PrependsLastDigit, decimal_from_prepends, length-decimal-le}
use Rattle.std.proofs.lemmas.Bool.Decides.{nat_tests}
use Rattle.desk.specs.Lines.{decimal}

digits_few : (k n : ℕ) (acc : List ℕ) → length (digits_onto k 10 false n acc) ≤ k + length acc
digits_few zero n acc = omega arith
digits_few (suc k) n acc = go (n / 10 == 0) (digits_few k (n / 10) (digit_glyph false (n % 10) ∷ acc))
  where
    more : List ℕ
    more = digits_onto k 10 false (n / 10) (digit_glyph false (n % 10) ∷ acc)

    go : (t : Bool) → length more ≤ k + suc (length acc) → length (if t then digit_glyph false (n % 10) ∷ acc else more) ≤ suc k + length acc
    go true h = omega arith
    go false h = omega arith

pub decimal_short : (n : ℕ) → length (decimal n) ≤ 20
unfolding decimal
decimal_short n = omega (arith, digits_few 20 n [])

prepends : PrependsLastDigit (λ k n acc. digits_onto k 10 false n acc)
prepends = record { one = λ k n acc h. grind (arith, nat_tests); more = λ k n acc h. grind (arith, nat_tests) }

-- 20 digits hold a number of 64 bits
pub decimal_is : (n : ℕ) → n < 2 ^ 64 → Fmt.decimal n ≡ decimal n
unfolding decimal
decimal_is n small = sym (decimal_from_prepends (λ k n acc. digits_onto k 10 false n acc) prepends 20 n [] small (length-decimal-le 20 n (omega arith) (omega arith) small) ∙ append-nil (Fmt.decimal n))
