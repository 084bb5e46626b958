-- A number in a word: "A number is decimal digits, below 2 ^ 32 (leading zeros are allowed, signs are not)."
use Rattle.std.specs.Prelude.{ℕ, ◌+◌, ◌-◌, ◌*◌, ◌^◌, not, ◌&&◌, List, [], ◌∷◌, eqb, ltb, length, Option, Some, None, if◌then◌else◌}
use Rattle.std.specs.Char.{is_ascii_digit}
use Rattle.std.specs.List.{list_all}

-- the value of digits behind those of n
abbrev pub value_from : ℕ → List ℕ → ℕ
value_from n [] = n
value_from n (byte ∷ word) = value_from (n * 10 + (byte - 48)) word

-- an empty word is no number
abbrev pub number_of : List ℕ → Option ℕ
number_of word =
    if not (eqb (length word) 0) && (list_all is_ascii_digit word && ltb (value_from 0 word) (2 ^ 32)) then Some (value_from 0 word) else None
