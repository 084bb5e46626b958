-- A whole desk opened from an image. 02, L2: "An opened image has a kept count of 0"; L3: "A desk is opened under rule 1 or rule 2 for its whole life."
use Rattle.std.specs.Prelude.{ℕ, List}
use Rattle.records.specs.House.{House}
use Rattle.records.specs.declared.Rule.{Rule}
use Rattle.effects.specs.declared.Change.{Change}
use Rattle.history.specs.Machine.{Desk, opened}
use Rattle.opening.specs.Opening.{Opening, opened_by}

-- the answer, the desk that is then open, and its rule
pub record OpensDesk : Type 0 where
  pub answer : Opening
  pub desk : Desk House Change
  pub rule : Rule

abbrev pub opens_desk : Opening → Desk House Change → Rule → OpensDesk
opens_desk answer d rule = record { answer = answer; desk = d; rule = rule }

-- the records, the last number and the rule that the image holds, and no change that could be taken back
abbrev pub desk_by : List ℕ → OpensDesk
desk_by b = opens_desk (opened_by b).answer (opened (opened_by b).now.house (opened_by b).now.last) (opened_by b).now.rule
