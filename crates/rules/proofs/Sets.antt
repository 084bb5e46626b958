-- Sets of places as facts about their places.
use Prim.Native.Nat.{ℕ, zero, suc, ◌+◌, ◌^◌, ◌≤◌, ◌<◌}
use mathlib.Core.List.{List, [], ◌∷◌}
use mathlib.Core.Path.{◌≡◌, refl, sym, ◌∙◌}
use mathlib.Core.Bool.{Bool, true, false}
use native.Mathlib.Omega.{arith}
use native.Mathlib.Decide.{ℕ_discrete, dec_le}
use native.Mathlib.Nat.{div-eq_of_lt}
use lib.Dec.{eqb}
use lib.Pow.{pow_mono}
use Rattle.std.proofs.Math.Bool.{and-true, and-false}
use Rattle.std.proofs.lemmas.Bool.{or_right, eqb-true, eq-eqb, ne_eqb}
use Rattle.label.specs.Labels.{contains}
use Rattle.records.specs.Places.{has, with, without, only, room_numbers}
use Rattle.records.specs.Lists.{any, all}
use Rattle.records.proofs.Places.{has_same, has_none, has_with, has_without, has_only, without_only, contains_has, has_contains}
use Rattle.rules.specs.Lists.{Each}
use Rattle.rules.specs.Facts.{Is, Among, RoomNumber, SomeRoom}
use Rattle.rules.proofs.Bools.{clash, said, itself}
use Rattle.rules.proofs.Lists.{each_is, any_one, any_none}

pub among : (s t : ℕ) → Is (contains t s) (Among s t)
among s t = record { says = contains_has t s; shown = has_contains t s }

pub some : (s p : ℕ) → has s p ≡ true → s ≡ 0 → ⊥
some s p h e = clash h (rw e (has_none p))

-- ---- one place more: p itself, whatever was there, and nothing else
module _ (s p : ℕ) (small : p ≤ 31) where
  pub with_new : has (with s p) p ≡ true
  with_new = rw (has_with s p small p, eq-eqb p p refl)

  pub with_old : Among s (with s p)
  with_old q h = has_with s p small q ∙ or_right (eqb p q) (has s q) h

  pub with_other : (q : ℕ) → (q ≡ p → ⊥) → has (with s p) q ≡ has s q
  with_other q n = rw (has_with s p small q, ne_eqb p q (λ e. n (sym e)))

  pub with_among : (t : ℕ) → has t p ≡ true → Among s t → Among (with s p) t
  with_among t h f q k = go (ℕ_discrete q p)
    where
      go : Dec (q ≡ p) → has t q ≡ true
      go (yes e) = rw e h
      go (no n) = f q (sym (with_other q n) ∙ k)

  -- ---- one place less
  pub without_other : (q : ℕ) → (q ≡ p → ⊥) → has (without s p) q ≡ has s q
  without_other q n = rw (has_without s p small q, ne_eqb p q (λ e. n (sym e))) (and-true (has s q))

  pub without_old : (q : ℕ) → has (without s p) q ≡ true → q ≡ p → ⊥
  without_old q h e = clash h (has_without s p small q ∙ rw (eq-eqb p q (sym e)) (and-false (has s q)))

  pub without_among : Among (without s p) s
  without_among q h = sym (without_other q (without_old q h)) ∙ h

-- where each of s is one of t, and p is taken from both
pub both_without : (s t p : ℕ) → p ≤ 31 → Among s t → Among (without s p) (without t p)
both_without s t p small f q k = without_other t p small q (without_old s p small q k) ∙ f q (without_among s p small q k)

-- ---- one place only
pub only_itself : (p : ℕ) → p ≤ 31 → has (only p) p ≡ true
only_itself p small = has_only p small p ∙ eq-eqb p p refl

pub only_one : (p q : ℕ) → p ≤ 31 → has (only p) q ≡ true → q ≡ p
only_one p q small h = sym (eqb-true p q (sym (has_only p small q) ∙ h))

-- a set of one place, from which taking p leaves a place, stays
pub without_from_only : (s r p : ℕ) → r ≤ 31 → p ≤ 31 → s ≡ only r → (without s p ≡ 0 → ⊥) → without s p ≡ s
without_from_only s r p small smaller e n = go (ℕ_discrete r p)
  where
    go : Dec (r ≡ p) → without s p ≡ s
    go (yes q) = absurd (n (rw (e, q) (without_only p)))
    go (no k) = has_same (without s p) s (λ q. at q (ℕ_discrete q p))
      where
        at : (q : ℕ) → Dec (q ≡ p) → has (without s p) q ≡ has s q
        at q (no m) = without_other s p smaller q m
        at q (yes m) = nobody (has (without s p) q) refl ∙ sym missing
          where
            missing : has s q ≡ false
            missing = rw e (has_only r small q ∙ ne_eqb r q (λ z. k (z ∙ m)))

            nobody : (b : Bool) → has (without s p) q ≡ b → has (without s p) q ≡ false
            nobody true z = absurd (without_old s p smaller q z m)
            nobody false z = z

-- ---- "Rooms 1..16."
no_house : has 0x1FFFE 0 ≡ false
unfolding has
no_house = refl

none_above : (r : ℕ) → 16 < r → has 0x1FFFE r ≡ false
unfolding has
none_above r h =
    let k : 0x1FFFE < 2 ^ r = omega (arith, pow_mono {i = 17} {j = r} h) in
    rw (div-eq_of_lt k)

-- one of the set 1..16 is a room number
pub room_number : (r : ℕ) → has 0x1FFFE r ≡ true → RoomNumber r
room_number r h = record { low = low (ℕ_discrete r 0); high = high (dec_le r 16) }
  where
    low : Dec (r ≡ 0) → 1 ≤ r
    low (yes e) = clash (rw e at h) no_house
    low (no n) = omega arith

    high : Dec (r ≤ 16) → r ≤ 16
    high (yes k) = k
    high (no n) = clash h (none_above r (omega arith))

-- k numbers from n on
abbrev up_from : ℕ → ℕ → List ℕ
up_from n zero = []
up_from n (suc k) = n ∷ up_from (suc n) k

module _ (P : ℕ → Type 0) where
  up_each : (n k : ℕ) → ((r : ℕ) → n ≤ r → r < n + k → P r) → Each P (up_from n k)
  up_each n zero f = tt
  up_each n (suc k) f = (f n (omega arith) (omega arith), up_each (suc n) k (λ r l m. f r (omega arith) (omega arith)))

  each_up : (n k : ℕ) → Each P (up_from n k) → (r : ℕ) → n ≤ r → r < n + k → P r
  each_up n zero e r l m = absurd (omega arith)
  each_up n (suc k) e r l m = go (each_up (suc n) k e.1 r) (ℕ_discrete r n)
    where
      go : (suc n ≤ r → r < suc n + k → P r) → Dec (r ≡ n) → P r
      go f (yes q) = rw q e.0
      go f (no q) = f (omega arith) (omega arith)

-- a rule of every room number, and of one of them
pub rooms_all : (t : ℕ → Bool) (P : ℕ → Type 0) → ((r : ℕ) → Is (t r) (P r)) → Is (all t room_numbers) ((r : ℕ) → RoomNumber r → P r)
rooms_all t P s = said (each_is t P s room_numbers)
    (λ e r n. each_up P 1 16 e r n.low (omega (arith, n.high)))
    (λ f. up_each P 1 16 (λ r l m. f r (record { low = l; high = omega arith })))

pub rooms_any : (t : ℕ → Bool) (P : ℕ → Type 0) → ((r : ℕ) → Is (t r) (P r)) → Is (any t room_numbers) (SomeRoom P)
rooms_any t P s = record { says = found; shown = λ e. go (any t room_numbers) refl e }
  where
    found : any t room_numbers ≡ true → SomeRoom P
    found h =
        let o = any_one RoomNumber t room_numbers h (up_each RoomNumber 1 16 (λ r l m. record { low = l; high = omega arith })) in
        record { room = o.it; number = o.rule; rule = (s o.it).says o.holds }

    go : (b : Bool) → any t room_numbers ≡ b → SomeRoom P → any t room_numbers ≡ true
    go true q e = q
    go false q e = clash ((s e.room).shown e.rule)
        (each_up (λ r. t r ≡ false) 1 16 (any_none t room_numbers q) e.room e.number.low (omega (arith, e.number.high)))

pub number_room : (r : ℕ) → RoomNumber r → has 0x1FFFE r ≡ true
unfolding has
number_room = (rooms_all (has 0x1FFFE) (λ r. has 0x1FFFE r ≡ true) (λ r. itself)).says refl
