-- `others` passes drafts of other numbers, four a turn.
use Prim.Native.Nat.{◌≤◌, ◌-◌}
use Rattle.records.specs.House.{view}
use Rattle.records.proofs.Lookups.{From}
use Rattle.records.proofs.texts.others.Given as goal

abbrev pub invariant-fours : goal.invariant-fours
invariant-fours l = (l.i ≤ l.end) × From (view l.records) l.number l.i

abbrev pub decreases-fours : goal.decreases-fours
decreases-fours l = l.end - l.i
