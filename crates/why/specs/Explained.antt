-- What a reason says of a desk and its answer. 02, L7: "the condition named is false of those records, each condition earlier in the order that could be asked is
-- true, and a grant is explained exactly when all conditions hold"; "agrees with the judge for every whole frame".
use Rattle.std.specs.Prelude.{ℕ, ◌≤◌, ◌≡◌, List, length}
use Rattle.request.specs.declared.Request.{Request}
use Rattle.records.specs.House.{House}
use Rattle.records.specs.declared.Rule.{Rule}
use Rattle.effects.specs.declared.Change.{Change}
use Rattle.counter.specs.Numbers.{top}
use Rattle.reasons.specs.Reasons.{no_record, reason, zeros}
use Rattle.reasons.specs.Asking.{Line, AllHold, FirstFailing, Failing}
use Rattle.reasons.specs.Order.{rank}
use Rattle.reasons.specs.Told.{Told}
use Rattle.reasons.specs.declared.Reason.{Reason}
use Rattle.history.specs.Machine.{Desk, step}
use Rattle.history.specs.Desk.{desk_rules}
use Rattle.history.specs.declared.Answer.{Answer}
use Rattle.history.specs.declared.Answer.TheVariants.{Granted, Numbered, Refused}
use Rattle.why.specs.Why.{desk_lines}

-- the number that an answer refuses with, 0 for 80 and 81
abbrev pub refusal_of : Answer → ℕ
refusal_of Granted = 0
refusal_of (Numbered n) = 0
refusal_of (Refused n) = n

-- all that the desk d under the rule asks of q
abbrev pub asked_by : Rule → Desk House Change → Request → List Line
asked_by rule d q = desk_lines rule d.current d.last (length d.log) q

-- r is true of the desk: of its records, or of what is left
pub data TrueOf (rule : Rule) (d : Desk House Change) : Reason → Type 0 where
  of_records : {r : Reason} → Told rule d.current r → TrueOf rule d r
  no_number : d.last ≡ top → TrueOf rule d (reason 11 (no_record d.last top))
  no_change : length d.log ≡ 0 → TrueOf rule d (reason 12 (no_record (length d.log) 0))

-- r explains the answer of d to q; by the order of refusals no condition that fails stands before the one named
pub record Explained (rule : Rule) (d : Desk House Change) (q : Request) (r : Reason) : Type 0 where
  pub as_answered : r.number ≡ refusal_of (step (desk_rules rule) d q).answer
  pub all_zeros : AllHold (asked_by rule d q) → r ≡ zeros
  pub all_held : r.number ≡ 0 → AllHold (asked_by rule d q)
  pub first_named : (r.number ≡ 0 → ⊥) → FirstFailing r (asked_by rule d q)
  pub lowest : (k : ℕ) → (r.number ≡ 0 → ⊥) → Failing k (asked_by rule d q) → rank r.number ≤ rank k
  pub true_of : (r.number ≡ 0 → ⊥) → TrueOf rule d r
