-- Sets of rooms and places. 01: "a set of rooms or places 32 bits, with place p as bit p".
use Rattle.std.specs.Prelude.{ℕ, ◌-◌, ◌/◌, ◌%◌, ◌^◌, Bool, cond, List, [], ◌∷◌, eqb, ltb}
use Rattle.std.specs.Int.Bits.{bit_and, bit_or}

-- p is one of the set
unfoldable pub has : ℕ → ℕ → Bool
has s p = eqb (s / 2 ^ p % 2) 1

-- the set with p, and without it; a place over 31 is no bit, and leaves the set as it is
unfoldable pub with : ℕ → ℕ → ℕ
with s p = cond (ltb 31 p) s (bit_or s (2 ^ p))

unfoldable pub without : ℕ → ℕ → ℕ
without s p = cond (ltb 31 p) s (s - bit_and s (2 ^ p))

-- p and no other
abbrev pub only : ℕ → ℕ
only p = with 0 p

-- "Rooms 1..16."
abbrev pub room_numbers : List ℕ
room_numbers = 1 ∷ 2 ∷ 3 ∷ 4 ∷ 5 ∷ 6 ∷ 7 ∷ 8 ∷ 9 ∷ 10 ∷ 11 ∷ 12 ∷ 13 ∷ 14 ∷ 15 ∷ 16 ∷ []
