-- Labels: dominance by its parts, the join, good labels, and labels as 32-bit numbers. Each definition stands under the sentence that it says.
use Rattle.std.specs.Prelude.{Bool, true, false, not, cond, ◌&&◌, ◌||◌, ℕ, ◌+◌, ◌*◌, ◌/◌, ◌%◌, ◌^◌, max, T, eqb, leb, ltb, Option, Some, None}
use Rattle.std.specs.Int.Bits.{bit_and, bit_or}
use Rattle.label.specs.declared.Label.{Label}
use Rattle.label.specs.declared.Label.TheVariants.{High, Low, At}
use Rattle.label.specs.declared.Parts.{Parts}

-- "A label is (level, categories, place), or SysHigh, or SysLow." `At p l c` has place p, level l and categories c, `High` is SysHigh and `Low` SysLow.

abbrev pub is_high : Label → Bool
is_high High = true
is_high Low = false
is_high (At p l c) = false

abbrev pub is_low : Label → Bool
is_low High = false
is_low Low = true
is_low (At p l c) = false

-- "Categories: 16 bits, any set." The set c contains the set d.
abbrev pub contains : ℕ → ℕ → Bool
contains c d = eqb (bit_and c d) d

-- 02, L1: "Dominance between labels should answer which parts fail, level, categories, place, rather than yes or no". Of each part, whether it fails.
abbrev pub parts : Bool → Bool → Bool → Parts
parts level categories place = record { level = level; categories = categories; place = place }

abbrev pub none : Parts
none = parts false false false

abbrev pub every : Parts
every = parts true true true

abbrev pub either : Parts → Parts → Parts
either f g = parts (f.level || g.level) (f.categories || g.categories) (f.place || g.place)

abbrev pub nothing : Parts → Bool
nothing f = not (f.level || f.categories || f.place)

-- "the places are equal, A's level is at least B's and A's categories contain B's": of two labels at places each part fails for itself. It is asked of these alone.
abbrev pub each_part : Label → Label → Parts
each_part High b = none
each_part Low b = none
each_part (At p l c) High = none
each_part (At p l c) Low = none
each_part (At p l c) (At q m d) = parts (ltb l m) (not (contains c d)) (not (eqb p q))

-- "A dominates B when A is SysHigh, or B is SysLow, or .." L1: "Where it fails and A is SysLow or B SysHigh, all three fail."
abbrev pub dominates : Label → Label → Parts
dominates a b = cond (is_high a || is_low b) none (cond (is_low a || is_high b) every (each_part a b))

-- "A dominates B": nothing fails
abbrev pub Dominates : Label → Label → Type 0
Dominates a b = T (nothing (dominates a b))

-- 02, L4: "not covered by the new label": of labels at one place, the first dominates the second
abbrev pub covers : ℕ → ℕ → ℕ → ℕ → Bool
covers level c level' c' = nothing (dominates (At 0 level c) (At 0 level' c'))

-- A and B differ in the parts that fail one way or the other
abbrev pub differs : Label → Label → Parts
differs a b = either (dominates a b) (dominates b a)

-- "The join: same place gives the larger level and the union; different places give SysHigh; SysHigh absorbs; SysLow gives the other."
abbrev pub join : Label → Label → Label
join High b = High
join Low b = b
join (At p l c) High = High
join (At p l c) Low = At p l c
join (At p l c) (At q m d) = cond (eqb p q) (At p (max l m) (bit_or c d)) High

-- "Rooms 1..16. Place 0 is the house." "Levels 0..7. Categories: 16 bits, any set."
abbrev pub good : Label → Bool
good High = true
good Low = true
good (At p l c) = leb p 16 && leb l 7 && leb c 0xFFFF

-- "As a 32-bit number: place byte, level byte, two category bytes, most significant first. SysHigh is FF000000, SysLow FE000000."
abbrev pub pack : Label → ℕ
pack High = 0xFF00_0000
pack Low = 0xFE00_0000
pack (At p l c) = p * 2 ^ 24 + l * 2 ^ 16 + c

abbrev pub place_of : ℕ → ℕ
place_of n = n / 2 ^ 24

abbrev pub level_of : ℕ → ℕ
level_of n = n / 2 ^ 16 % 2 ^ 8

abbrev pub categories_of : ℕ → ℕ
categories_of n = n % 2 ^ 16

-- "Any other number with a place over 16 or a level over 7 is a bad label." So FF000001 and FE000001 are bad: their place bytes are FF and FE.
unfoldable pub unpack : ℕ → Option Label
unpack n =
    cond (eqb n 0xFF00_0000) (Some High)
    (cond (eqb n 0xFE00_0000) (Some Low)
    (cond (ltb 16 (place_of n) || ltb 7 (level_of n)) None
    (Some (At (place_of n) (level_of n) (categories_of n)))))
