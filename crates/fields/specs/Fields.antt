-- The facts that 01's refusal table asks of a request's own fields. The quoted words are the table's.
use Rattle.std.specs.Prelude.{ℕ, Bool, not, ◌||◌, eqb, leb}
use Rattle.records.specs.House.{staff, outsider}

-- ---- 3
-- "user, script, session over 63"
abbrev pub is_id : ℕ → Bool
is_id n = leb n 63

-- "room not 1..16": over 16, and 0
abbrev pub to_sixteen : ℕ → Bool
to_sixteen room = leb room 16

abbrev pub from_one : ℕ → Bool
from_one room = leb 1 room

-- "level over 7"
abbrev pub is_level : ℕ → Bool
is_level level = leb level 7

-- "sort not 0 or 2"
abbrev pub is_sort : ℕ → Bool
is_sort sort = eqb sort staff || eqb sort outsider

-- "admin not 0 or 1"
abbrev pub is_yes_no : ℕ → Bool
is_yes_no admin = leb admin 1

-- "sort 2 with level, categories or admin not zero": of one of the three
abbrev pub is_plain : ℕ → ℕ → Bool
is_plain sort field = not (eqb sort outsider) || eqb field 0

-- ---- 6: "On a desk without users, Enrol .. is granted only with u = new, sort 0 and admin 1": of one of the three
abbrev pub is_first : Bool → ℕ → ℕ → Bool
is_first empty field wanted = not empty || eqb field wanted
