-- Sets of categories as bits of any numbers: containment orders them, and whatever contains two sets contains their union, which contains both.
-- What `lib.Bits` does not have is shown by induction: the lowest bit, then the halved numbers.
use mathlib.Core.Path.{◌≡◌, sym, ◌∙◌}
use Prim.Native.Nat.{ℕ, ◌/◌, ◌%◌, ◌^◌, ◌≤◌, ◌<◌, max}
use native.Mathlib.Omega.{arith}
use lib.Arith.{bin_ind}
use lib.Bits.{bit_and, bit_or, and_step, or_step, and_comm, or_comm, and_self, and_zero_r, or_lt}

-- the set c contains the set d
abbrev pub Contains : ℕ → ℕ → Type 0
Contains c d = bit_and c d ≡ d

-- c contains d bit by bit
record Bitwise (c d : ℕ) : Type 0 where
  halves : Contains (c / 2) (d / 2)
  lowest : d % 2 ≤ c % 2

split : (c d : ℕ) → Contains c d → Bitwise c d
split c d h = record { halves = omega (arith, and_step c d); lowest = omega (arith, and_step c d) }

merge : (c d : ℕ) → Bitwise c d → Contains c d
merge c d b = omega (arith, and_step c d)

union_halves : (c d : ℕ) → bit_or c d / 2 ≡ bit_or (c / 2) (d / 2)
union_halves c d = omega (arith, or_step c d)

union_lowest : (c d : ℕ) → bit_or c d % 2 ≡ max (c % 2) (d % 2)
union_lowest c d = omega (arith, or_step c d)

-- a set contains itself
pub contains_refl : (c : ℕ) → Contains c c
contains_refl = and_self

-- two sets that contain each other are one
pub contains_antisym : (c d : ℕ) → Contains c d → Contains d c → c ≡ d
contains_antisym c d over under = sym under ∙ and_comm d c ∙ over

-- a set contains what a set that it contains contains
pub contains_trans : (c d e : ℕ) → Contains c d → Contains d e → Contains c e
contains_trans =
    bin_ind (λ (c : ℕ). (d e : ℕ) → Contains c d → Contains d e → Contains c e)
    (λ d e h k. rw (← h) at k)
    (λ c halved d e h k.
    let x = split c d h in
    let y = split d e k in
    merge c e (record { halves = halved (d / 2) (e / 2) x.halves y.halves; lowest = omega arith }))

-- the union contains both
pub union_left : (c d : ℕ) → Contains (bit_or c d) c
union_left =
    bin_ind (λ (c : ℕ). (d : ℕ) → Contains (bit_or c d) c)
    and_zero_r
    (λ c halved d.
    merge (bit_or c d) c
    (record { halves = rw (union_halves c d) (halved (d / 2)); lowest = omega (arith, union_lowest c d) }))

pub union_right : (c d : ℕ) → Contains (bit_or c d) d
union_right c d = rw (or_comm c d) (union_left d c)

-- whatever contains both contains the union
pub union_least : (c d e : ℕ) → Contains e c → Contains e d → Contains e (bit_or c d)
union_least =
    bin_ind (λ (c : ℕ). (d e : ℕ) → Contains e c → Contains e d → Contains e (bit_or c d))
    (λ d e h k. k)
    (λ c halved d e h k.
    let x = split e c h in
    let y = split e d k in
    merge e (bit_or c d)
    (record {
      halves = rw (union_halves c d) (halved (d / 2) (e / 2) x.halves y.halves);
      lowest = omega (arith, union_lowest c d);
    }))

-- the union of sets of k categories is a set of k categories
pub union_below : (k c d : ℕ) → c < 2 ^ k → d < 2 ^ k → bit_or c d < 2 ^ k
union_below = or_lt
