-- What a call from C answers and leaves: the work is other crates', and their answers are handed to C as numbers.
use Rattle.std.specs.Prelude.{ℕ, ◌≡◌, cond, List, [], ◌∷◌, eqb, Result, Ok, Err}
use Rattle.records.specs.declared.Rule.{Rule}
use Rattle.reasons.specs.declared.Reason.{Reason}
use Rattle.history.specs.Desk.{no_rule_number, Opens}
use Rattle.history.specs.declared.NoRule.{NoRule}
use Rattle.image.specs.Saving.{too_small_number}
use Rattle.image.specs.declared.TooSmall.{TooSmall}
use Rattle.opening.specs.Desks.{OpensDesk}
use Rattle.opening.specs.Opening.{Opening, error_number}
use Rattle.batch.specs.Batch.{State, stop_number, returned, Batched}
use Rattle.batch.specs.declared.Stop.{Stop}

-- the rule that a desk_t holds as a number: 2 is rule 2, and every other number, as of a zeroed desk_t, is rule 1
abbrev pub held_rule : ℕ → Rule
held_rule n = cond (eqb n 2) Rule.Two Rule.One

abbrev pub rule_number : Rule → ℕ
rule_number Rule.One = 1
rule_number Rule.Two = 2

-- ---- a desk is opened or loaded: the answer, the desk that is then open, and the number of its rule
pub record Left : Type 0 where
  pub answer : ℕ
  pub desk : State
  pub rule : ℕ

abbrev pub left : ℕ → State → ℕ → Left
left answer d rule = record { answer = answer; desk = d; rule = rule }

-- "0, or 3"
abbrev pub open_number : Result (Unit {0}) NoRule → ℕ
open_number (Ok _) = 0
open_number (Err e) = no_rule_number

abbrev pub as_opened : Opens → Left
as_opened o = left (open_number o.answer) o.desk (rule_number o.rule)

-- "0, 14 or 15"
abbrev pub load_number : Opening → ℕ
load_number (Ok _) = 0
load_number (Err e) = error_number e

abbrev pub as_loaded : OpensDesk → Left
as_loaded o = left (load_number o.answer) o.desk (rule_number o.rule)

-- ---- a batch: `number` is the number of its stop, and the bytes used and written are those of the batch
pub record BatchCall (rule : Rule) (d : State) (requests answers : List ℕ) (place : ℕ) (d' : State) (number used written : ℕ) (answers' : List ℕ) : Type 0 where
  pub stop : Stop
  pub is_number : number ≡ stop_number stop
  pub batched : Batched rule d requests answers place d' (returned stop used written) answers'

-- ---- a reason: its number, and the five words of a desk_reason
abbrev pub words : Reason → List ℕ
words r = r.number ∷ r.kind ∷ r.id ∷ r.held ∷ r.wanted ∷ []

-- ---- an image is saved: "0, or 14", and how many bytes were written, none where it is refused
abbrev pub save_number : Result ℕ TooSmall → ℕ
save_number (Ok n) = 0
save_number (Err e) = too_small_number

abbrev pub save_length : Result ℕ TooSmall → ℕ
save_length (Ok n) = n
save_length (Err e) = 0
