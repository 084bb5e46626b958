-- The line that is printed for an answer. 01: "ordinal (decimal), kind and answer byte (two hex digits), draft number (decimal) or a dash, one space between".
-- Where the reasons are asked for: "The line of 01, then five parts more: the refusal's number (decimal, 0 for a grant), the record's kind (two hex digits), its id
-- or number, the first value, the second value (decimal), one space between."
use Rattle.std.specs.Prelude.{ℕ, ◌+◌, ◌/◌, ◌%◌, ◌≡◌, ◌≤◌, Bool, false, cond, List, [], ◌∷◌, ◌++◌, ltb, length, take}
use Rattle.std.specs.Fmt.{digits_onto}
use Rattle.history.specs.Desk.{answer_byte}
use Rattle.history.specs.declared.Answer.{Answer}
use Rattle.history.specs.declared.Answer.TheVariants.{Granted, Numbered, Refused}
use Rattle.reasons.specs.declared.Reason.{Reason}
use Rattle.desk.specs.declared.lines.Text.{Text}

-- a number of 64 bits in decimal: at most 20 digits, no zero in front
unfoldable pub decimal : ℕ → List ℕ
decimal n = digits_onto 20 10 false n []

-- `0` to `9`, then `A` to `F`
abbrev pub hex_digit : ℕ → ℕ
hex_digit d = cond (ltb d 10) (48 + d) (55 + d)

-- two hex digits
abbrev pub hex : ℕ → List ℕ → List ℕ
hex n more = hex_digit (n / 16) ∷ hex_digit (n % 16) ∷ more

-- the kind and the answer byte, each with a space before it, and the space after them
abbrev pub middle_of : ℕ → ℕ → List ℕ
middle_of kind byte = 32 ∷ hex kind (32 ∷ hex byte (32 ∷ []))

-- the draft number, or a dash
abbrev pub number_text : Answer → List ℕ
number_text Granted = 45 ∷ []
number_text (Numbered n) = decimal n
number_text (Refused n) = 45 ∷ []

-- a part more, with the space before it: a number in decimal, or the kind of a record
abbrev pub number_part : ℕ → List ℕ
number_part n = 32 ∷ decimal n

abbrev pub kind_part : ℕ → List ℕ
kind_part kind = 32 ∷ hex kind []

abbrev pub reason_text : Reason → List ℕ
reason_text r = number_part r.number ++ kind_part r.kind ++ number_part r.id ++ number_part r.held ++ number_part r.wanted

-- `why` is whether the reasons are asked for
unfoldable pub line_of : Bool → ℕ → ℕ → Answer → Reason → List ℕ
line_of why ordinal kind answer reason =
    decimal ordinal ++ middle_of kind (answer_byte answer) ++ number_text answer ++ cond why (reason_text reason) [] ++ (10 ∷ [])

-- "standard error has one line, `desk: IMAGE: refused 14` (or 15)": what stands behind the file's name
abbrev pub refused_text : ℕ → List ℕ
refused_text n = (58 ∷ 32 ∷ 114 ∷ 101 ∷ 102 ∷ 117 ∷ 115 ∷ 101 ∷ 100 ∷ 32 ∷ []) ++ decimal n ++ (10 ∷ [])

-- "another number is refusal 3: `desk: --rule 7: refused 3`"
abbrev pub rule_refused_text : ℕ → ℕ → List ℕ
rule_refused_text rule n = (100 ∷ 101 ∷ 115 ∷ 107 ∷ 58 ∷ 32 ∷ 45 ∷ 45 ∷ 114 ∷ 117 ∷ 108 ∷ 101 ∷ 32 ∷ []) ++ decimal rule ++ refused_text n

-- a text was put behind the first `at` bytes, and now ends at `next`
pub record Put (before : List ℕ) (at : ℕ) (text : List ℕ) (next : ℕ) (after : List ℕ) : Type 0 where
  pub ends : next ≡ at + length text
  pub is : take next after ≡ take at before ++ text

-- the same of a text in a lent buffer, which is still that buffer
pub record Appends (before : Text) (text : List ℕ) (after : Text) : Type 0 where
  pub put : Put before.out.now before.end text after.end after.out.now
  pub inside : after.end ≤ length after.out.now
  pub room : length after.out.now ≡ length before.out.now
  pub same_reference : after.out.ghost_name ≡ before.out.ghost_name
