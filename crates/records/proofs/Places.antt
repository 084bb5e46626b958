-- Sets of places: which places a set has, and what one place more, one place less and a set that contains another are by that.
use Prim.Native.Nat.{ℕ, zero, suc, ◌+◌, ◌-◌, ◌*◌, ◌/◌, ◌%◌, ◌^◌, ◌≤◌, ◌<◌, min, max}
use mathlib.Core.Path.{◌≡◌, refl, sym, ap, ◌∙◌}
use mathlib.Core.Bool.{Bool, true, false, cond, not, ◌&&◌, ◌||◌, or-false, or_comm}
use native.Mathlib.Omega.{arith}
use native.Mathlib.Nat.{pow-suc, pow-succ', div-one, div-div-eq-div-mul, mul-mod_left, div-eq_of_lt, div_self, mul-div_cancel_left, zero-div, one-mul, mod-eq_of_lt, lt_of_lt_of_le}
use native.Mathlib.Decide.{ℕ_discrete, dec_le}
use lib.Dec.{eqb, ltb}
use lib.Pow.{pow_pos, pow-lt, pow_mono, pow-add}
use lib.Bits.{bit_and, bit_or, and_step, or_step, and_le_l, or_shr, and_shr, and_self}
use borrow.Author.Tests.{eqb-true, eqb-false, eq-eqb, ne_eqb, lt-ltb, le-ltb}
use Rattle.label.specs.Labels.{contains}
use Rattle.records.specs.Places.{has, with, without, only}

-- ---- bit q of a number
abbrev bit : ℕ → ℕ → ℕ
bit n q = n / 2 ^ q % 2

or_bit : (a b q : ℕ) → bit (bit_or a b) q ≡ max (bit a q) (bit b q)
or_bit a b q = rw or_shr (omega (arith, or_step (a / 2 ^ q) (b / 2 ^ q)))

and_bit : (a b q : ℕ) → bit (bit_and a b) q ≡ min (bit a q) (bit b q)
and_bit a b q = rw and_shr (omega (arith, and_step (a / 2 ^ q) (b / 2 ^ q)))

less_shr : (q a b : ℕ) → (a - bit_and a b) / 2 ^ q ≡ a / 2 ^ q - bit_and (a / 2 ^ q) (b / 2 ^ q)
less_shr zero a b = simp div-one
less_shr (suc q) a b =
    let e : (a - bit_and a b) / 2 ≡ a / 2 - bit_and (a / 2) (b / 2) = omega (arith, and_step a b, and_le_l (a / 2) (b / 2)) in
    rw (pow-succ' 2 q, ← div-div-eq-div-mul (a - bit_and a b) 2 (2 ^ q), ← div-div-eq-div-mul a 2 (2 ^ q), ← div-div-eq-div-mul b 2 (2 ^ q), e) (less_shr q (a / 2) (b / 2))

less_bit : (a b q : ℕ) → bit (a - bit_and a b) q ≡ bit a q - min (bit a q) (bit b q)
less_bit a b q = rw less_shr (omega (arith, and_step (a / 2 ^ q) (b / 2 ^ q), and_le_l (a / 2 ^ q / 2) (b / 2 ^ q / 2)))

-- a power has its own bit and no other
power_above : (q k : ℕ) → bit (2 ^ (q + suc k)) q ≡ 0
power_above q k = rw (pow-add 2 q (suc k), mul-div_cancel_left (2 ^ suc k) (pow_pos q), pow-suc 2 k) (mul-mod_left (2 ^ k) 2)

power_bit : (p q : ℕ) → bit (2 ^ p) q ≡ cond (eqb p q) 1 0
power_bit p q = go (ℕ_discrete p q) (dec_le q p)
  where
    go : Dec (p ≡ q) → Dec (q ≤ p) → bit (2 ^ p) q ≡ cond (eqb p q) 1 0
    go (yes e) d = rw (e, eq-eqb q q refl, div_self (pow_pos q))
    go (no n) (yes h) =
        let e : p ≡ q + suc (p - suc q) = omega arith in
        rw (ne_eqb p q n, e) (power_above q (p - suc q))
    go (no n) (no h) = rw (ne_eqb p q n, div-eq_of_lt (pow-lt {i = p} {j = q} (omega arith)))

-- ---- sets by their places
bit_has : (s q : ℕ) → bit s q ≡ cond (has s q) 1 0
unfolding has
bit_has s q = go (eqb (bit s q) 1) refl
  where
    go : (b : Bool) → eqb (bit s q) 1 ≡ b → bit s q ≡ cond b 1 0
    go true e = eqb-true (bit s q) 1 e
    go false e = omega (arith, eqb-false (bit s q) 1 e)

bits_same : (n a b : ℕ) → a ≤ n → b ≤ n → ((q : ℕ) → bit a q ≡ bit b q) → a ≡ b
bits_same zero a b l m f = omega arith
bits_same (suc n) a b l m f =
    let h : a / 2 ≡ b / 2 = bits_same n (a / 2) (b / 2) (omega arith) (omega arith) (λ q. rw (div-div-eq-div-mul a 2 (2 ^ q), div-div-eq-div-mul b 2 (2 ^ q), ← pow-succ' 2 q) (f (suc q))) in
    omega (arith, f 0)

-- sets with the same places are the same
pub has_same : (s t : ℕ) → ((q : ℕ) → has s q ≡ has t q) → s ≡ t
has_same s t f = bits_same (s + t) s t (omega arith) (omega arith) (λ q. rw (bit_has s q, bit_has t q, f q))

-- a place of a set that is not empty: the lowest, or one of the halved set
pub record Some (s : ℕ) : Type 0 where
  pub place : ℕ
  pub there : has s place ≡ true

has_lowest : (s : ℕ) → has s 0 ≡ eqb (s % 2) 1
unfolding has
has_lowest s = rw (div-one s)

has_halved : (s q : ℕ) → has s (suc q) ≡ has (s / 2) q
unfolding has
has_halved s q = rw (pow-succ' 2 q, ← div-div-eq-div-mul s 2 (2 ^ q))

some_below : (n s : ℕ) → s ≤ n → (s ≡ 0 → ⊥) → Some s
some_below zero s l k = absurd (k (omega arith))
some_below (suc n) s l k = go (some_below n (s / 2)) (ℕ_discrete (s % 2) 1)
  where
    go : (s / 2 ≤ n → (s / 2 ≡ 0 → ⊥) → Some (s / 2)) → Dec (s % 2 ≡ 1) → Some s
    go rest (yes e) = record { place = 0; there = has_lowest s ∙ eq-eqb (s % 2) 1 e }
    go rest (no m) =
        let r = rest (omega arith) (λ e. k (omega arith)) in
        record { place = suc r.place; there = has_halved s r.place ∙ r.there }

pub some_place : (s : ℕ) → (s ≡ 0 → ⊥) → Some s
some_place s k = some_below s s (omega arith) k

pub has_none : (q : ℕ) → has 0 q ≡ false
unfolding has
has_none q = rw (zero-div (2 ^ q))

-- no place over 31 is in a set of 32 bits
pub has_over : (s q : ℕ) → s < 2 ^ 32 → 31 < q → has s q ≡ false
unfolding has
has_over s q h l = rw (div-eq_of_lt (lt_of_lt_of_le h (pow_mono {i = 32} {j = q} l)))

-- a place is in a set as its bit says
has_by : (s q : ℕ) (b : Bool) → bit s q ≡ cond b 1 0 → has s q ≡ b
unfolding has
has_by s q b e = rw e (go b)
  where
    go : (b : Bool) → eqb (cond b 1 0) 1 ≡ b
    go true = refl
    go false = refl

power_has : (p q : ℕ) → has (2 ^ p) q ≡ eqb p q
power_has p q = has_by (2 ^ p) q (eqb p q) (power_bit p q)

-- the places of one of two sets, of both, and of the first alone
module _ (s t q : ℕ) where
  pub has_or : has (bit_or s t) q ≡ (has s q || has t q)
  has_or = has_by (bit_or s t) q (has s q || has t q) (or_bit s t q ∙ rw (bit_has s q, bit_has t q) (go (has s q) (has t q)))
    where
      go : (a b : Bool) → max (cond a 1 0) (cond b 1 0) ≡ cond (a || b) 1 0
      go true true = refl
      go true false = refl
      go false true = refl
      go false false = refl

  pub has_and : has (bit_and s t) q ≡ (has s q && has t q)
  has_and = has_by (bit_and s t) q (has s q && has t q) (and_bit s t q ∙ rw (bit_has s q, bit_has t q) (go (has s q) (has t q)))
    where
      go : (a b : Bool) → min (cond a 1 0) (cond b 1 0) ≡ cond (a && b) 1 0
      go true true = refl
      go true false = refl
      go false true = refl
      go false false = refl

  pub has_less : has (s - bit_and s t) q ≡ (has s q && not (has t q))
  has_less = has_by (s - bit_and s t) q (has s q && not (has t q)) (less_bit s t q ∙ rw (bit_has s q, bit_has t q) (go (has s q) (has t q)))
    where
      go : (a b : Bool) → cond a 1 0 - min (cond a 1 0) (cond b 1 0) ≡ cond (a && not b) 1 0
      go true true = refl
      go true false = refl
      go false true = refl
      go false false = refl

-- one shifted by a place, in 32 bits
pub shifted : (p : ℕ) → p ≤ 31 → 1 * 2 ^ p % 2 ^ 32 ≡ 2 ^ p
shifted p h = rw (one-mul (2 ^ p), mod-eq_of_lt (pow-lt {i = p} {j = 32} (omega arith)))

-- ---- one place more, one place less
module _ (s p : ℕ) where
  pub with_in : p ≤ 31 → with s p ≡ bit_or s (2 ^ p)
  unfolding with
  with_in h = rw (le-ltb 31 p h)

  pub without_in : p ≤ 31 → without s p ≡ s - bit_and s (2 ^ p)
  unfolding without
  without_in h = rw (le-ltb 31 p h)

  pub with_over : 31 < p → with s p ≡ s
  unfolding with
  with_over h = rw (lt-ltb 31 p h)

  pub without_over : 31 < p → without s p ≡ s
  unfolding without
  without_over h = rw (lt-ltb 31 p h)

  pub has_with : p ≤ 31 → (q : ℕ) → has (with s p) q ≡ (eqb p q || has s q)
  has_with h q = rw (with_in h, has_or s (2 ^ p) q, power_has p q) (or_comm (has s q) (eqb p q))

  pub has_without : p ≤ 31 → (q : ℕ) → has (without s p) q ≡ (has s q && not (eqb p q))
  has_without h q = rw (without_in h, has_less s (2 ^ p) q, power_has p q)

pub has_only : (p : ℕ) → p ≤ 31 → (q : ℕ) → has (only p) q ≡ eqb p q
has_only p h q = has_with 0 p h q ∙ rw (has_none q) (or-false (eqb p q))

-- ---- sets that one place less leaves empty
pub without_zero : (p : ℕ) → without 0 p ≡ 0
unfolding without
without_zero p = go (ltb 31 p)
  where
    go : (b : Bool) → cond b 0 (0 - bit_and 0 (2 ^ p)) ≡ 0
    go true = refl
    go false = omega arith

pub without_only : (p : ℕ) → without (only p) p ≡ 0
unfolding without with
without_only p = go (ltb 31 p)
  where
    go : (b : Bool) → cond b (cond b 0 (2 ^ p)) (cond b 0 (2 ^ p) - bit_and (cond b 0 (2 ^ p)) (2 ^ p)) ≡ 0
    go true = refl
    go false = omega (arith, and_self (2 ^ p))

-- ---- a set that contains another
module _ (s t : ℕ) where
  pub contains_has : contains s t ≡ true → (q : ℕ) → has t q ≡ true → has s q ≡ true
  contains_has w q = go (has s q) (has t q) (sym (has_and s t q) ∙ ap (λ (x : ℕ). has x q) (eqb-true (bit_and s t) t w))
    where
      go : (a b : Bool) → (a && b) ≡ b → b ≡ true → a ≡ true
      go true b e h = refl
      go false b e h = e ∙ h

  pub has_contains : ((q : ℕ) → has t q ≡ true → has s q ≡ true) → contains s t ≡ true
  has_contains f = eq-eqb (bit_and s t) t (has_same (bit_and s t) t (λ q. has_and s t q ∙ go (has s q) (has t q) (f q)))
    where
      go : (a b : Bool) → (b ≡ true → a ≡ true) → (a && b) ≡ b
      go true b f = refl
      go false false f = refl
      go false true f = f refl
