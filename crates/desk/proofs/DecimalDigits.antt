-- A number in decimal is its last digits, as many as it has, at most 20: another spelling of `decimal`, which says the same for every number.
use Rattle.std.proofs.Common.{◌≡◌, refl, sym, ◌∙◌, ap, false, cond, List, [], ◌∷◌, ◌++◌, ℕ, zero, suc, ◌+◌, ◌/◌, ◌%◌, ◌^◌, ◌≤◌, ◌<◌, ◌⊎◌, inl, inr, ltb, nat_lt, arith, append-nil}
use Rattle.std.specs.Fmt.{digits_onto}
use Rattle.std.proofs.Math.Nat.{pow-suc}
use Rattle.std.proofs.lemmas.Bool.{cases_lt}
use Rattle.std.proofs.lemmas.Bool.Decides.{nat_tests}
use Rattle.std.proofs.lemmas.List.{append_assoc}
use Rattle.desk.specs.Lines.{decimal}

-- the ASCII code of a digit below 16: `0` to `9`, then `a` to `f`
abbrev pub digit_ascii : ℕ → ℕ
digit_ascii d = cond (nat_lt d 10) (48 + d) (87 + d)

-- the last k digits of n in base b, the most significant first
abbrev pub last_digits : ℕ → ℕ → ℕ → List ℕ
last_digits b zero n = []
last_digits b (suc k) n = last_digits b k (n / b) ++ (digit_ascii (n % b) ∷ [])

-- how many decimal digits n has, if these are at most m + 1: one more than the largest k up to m with 10 ^ k ≤ n
unfoldable pub places_to : ℕ → ℕ → ℕ
places_to zero n = 1
places_to (suc m) n = cond (ltb n (10 ^ suc m)) (places_to m n) (suc (suc m))

ten_le : (m : ℕ) → 10 ≤ 10 ^ suc m
ten_le zero = omega arith
ten_le (suc m) = let h = ten_le m in omega (arith, pow-suc 10 (suc m))

one_place : (m n : ℕ) → n < 10 → places_to m n ≡ 1
unfolding places_to
one_place zero n h = refl
one_place (suc m) n h = let e = one_place m n h in let t = ten_le m in grind (arith, nat_tests)

place_more : (m n : ℕ) → 10 ≤ n → places_to (suc m) n ≡ suc (places_to m (n / 10))
unfolding places_to
place_more zero n h = grind (arith, nat_tests)
place_more (suc m) n h = let e = place_more m n h in let t = pow-suc 10 (suc m) in grind (arith, nat_tests)

onto_one : (k n : ℕ) (acc : List ℕ) → n < 10 → digits_onto (suc k) 10 false n acc ≡ digit_ascii (n % 10) ∷ acc
onto_one k n acc h = grind (arith, nat_tests)

onto_more : (k n : ℕ) (acc : List ℕ) → 10 ≤ n → digits_onto (suc k) 10 false n acc ≡ digits_onto k 10 false (n / 10) (digit_ascii (n % 10) ∷ acc)
onto_more k n acc h = grind (arith, nat_tests)

onto_last : (k n : ℕ) (acc : List ℕ) → last_digits 10 k (n / 10) ++ (digit_ascii (n % 10) ∷ acc) ≡ last_digits 10 (suc k) n ++ acc
onto_last k n acc = sym (append_assoc (last_digits 10 k (n / 10)) (digit_ascii (n % 10) ∷ []) acc)

with_one : (m n : ℕ) (acc : List ℕ) → n < 10 → last_digits 10 (places_to m n) n ++ acc ≡ digit_ascii (n % 10) ∷ acc
with_one m n acc h = ap (λ k. last_digits 10 k n ++ acc) (one_place m n h)

digits_are : (m n : ℕ) (acc : List ℕ) → digits_onto (suc m) 10 false n acc ≡ last_digits 10 (places_to m n) n ++ acc
unfolding places_to
digits_are zero n acc = grind (arith, nat_tests)
digits_are (suc m) n acc = go (cases_lt n 10) (digits_are m (n / 10) (digit_ascii (n % 10) ∷ acc))
  where
    front : List ℕ
    front = last_digits 10 (places_to m (n / 10)) (n / 10)

    go : (n < 10) ⊎ (10 ≤ n) → digits_onto (suc m) 10 false (n / 10) (digit_ascii (n % 10) ∷ acc) ≡ front ++ (digit_ascii (n % 10) ∷ acc) → digits_onto (suc (suc m)) 10 false n acc ≡ last_digits 10 (places_to (suc m) n) n ++ acc
    go (inl h) rest = onto_one (suc m) n acc h ∙ sym (with_one (suc m) n acc h)
    go (inr h) rest =
        onto_more (suc m) n acc h
        ∙ rest
        ∙ onto_last (places_to m (n / 10)) n acc
        ∙ ap (λ k. last_digits 10 k n ++ acc) (sym (place_more m n h))

pub decimal_digits : (n : ℕ) → decimal n ≡ last_digits 10 (places_to 19 n) n
unfolding decimal
decimal_digits n = digits_are 19 n [] ∙ append-nil (last_digits 10 (places_to 19 n) n)
