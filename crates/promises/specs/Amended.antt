-- What the rule changes at a desk. 02, L3: "Only refusals 9 and 16 at Import are amended."
use Rattle.std.specs.Prelude.{◌≡◌}
use Rattle.records.specs.House.{House}
use Rattle.effects.specs.declared.Change.{Change}
use Rattle.history.specs.Machine.{Desk, Outcome, outcome}
use Rattle.history.specs.declared.Answer.{Answer}

-- a request at the desk d, by rule 1 and by rule 2: the outcome is one, or rule 1 refuses with 9 or with 16
pub data StepAmended (d : Desk House Change) (one two : Outcome House Change) : Type 0 where
  one_outcome : one ≡ two → StepAmended d one two
  refused_9 : one ≡ outcome d (Answer.Refused 9) → StepAmended d one two
  refused_16 : one ≡ outcome d (Answer.Refused 16) → StepAmended d one two
