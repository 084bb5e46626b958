-- A number, digit by digit: what is left of a word behind the digits read so far.
use mathlib.Core.Path.{◌≡◌, refl}
use mathlib.Core.Bool.{true, false, cond, ◌&&◌}
use mathlib.Core.List.{List, [], ◌∷◌}
use mathlib.Core.Logic.{◌≢◌}
use Prim.Native.Nat.{ℕ, ◌+◌, ◌-◌, ◌*◌, ◌^◌, ◌<◌, ◌≤◌}
use native.Mathlib.Omega.{arith}
use borrow.Author.Tests.{lt-ltb, ne_eqb}
use lib.Dec.{ltb}
use lib.ListN.{length, drop, get_or}
use Rattle.std.proofs.lemmas.List.{drop_more, drop_all}
use Rattle.std.specs.Prelude.{Option, Some, None}
use Rattle.std.specs.Char.{is_ascii_digit}
use Rattle.std.specs.List.{list_all}
use Rattle.arguments.specs.Numbers.{value_from, number_of}

-- digits with the value n were read, and w is left
unfoldable pub number_from : ℕ → List ℕ → Option ℕ
number_from n w = cond (list_all is_ascii_digit w && ltb (value_from n w) (2 ^ 32)) (Some (value_from n w)) None

pub at_first : (w : List ℕ) → length w ≢ 0 → number_from 0 w ≡ number_of w
unfolding number_from
at_first w some = rw (ne_eqb (length w) 0 some) refl

pub no_digit : (w : List ℕ) (i n : ℕ) → i < length w → is_ascii_digit (get_or w i 0) ≡ false → number_from n (drop i w) ≡ None
unfolding number_from
no_digit w i n l e = rw (drop_more w i 0 l, e) refl

pub one_digit : (w : List ℕ) (i n : ℕ) → i < length w → is_ascii_digit (get_or w i 0) ≡ true → number_from n (drop i w) ≡ number_from (n * 10 + (get_or w i 0 - 48)) (drop (i + 1) w)
unfolding number_from
one_digit w i n l e = rw (drop_more w i 0 l, e) refl

grows : (w : List ℕ) (n : ℕ) → n ≤ value_from n w
grows [] n = omega arith
grows (byte ∷ w) n = omega (arith, grows w (n * 10 + (byte - 48)))

-- too large a value stays so whatever follows
pub too_large : (n : ℕ) (w : List ℕ) → 2 ^ 32 ≤ n → number_from n w ≡ None
unfolding number_from
too_large n w l = grind (arith, grows)

pub at_end_lem : (w : List ℕ) (i n : ℕ) → length w ≤ i → n < 2 ^ 32 → number_from n (drop i w) ≡ Some n
unfolding number_from
at_end_lem w i n l small = rw (drop_all i w l, lt-ltb n (2 ^ 32) small) refl

pub ruleset digits = (at_first, no_digit, one_digit, too_large, at_end_lem)
