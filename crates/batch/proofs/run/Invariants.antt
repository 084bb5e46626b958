-- `run` meets its contract: a turn of the loop is a request of the batch in specs/.
use Prim.Native.Nat.{◌-◌}
use lib.ListN.{length}
use Rattle.history.specs.Lent.{lent, SameParts}
use Rattle.batch.proofs.Turn.{Underway}
use Rattle.batch.proofs.run.Given as goal

abbrev pub invariant-loop-used : goal.invariant-loop-used
invariant-loop-used l =
    SameParts l.initial.desk l.desk × Underway l.initial.desk.rule l.requests l.initial.answers l.place (lent l.initial.desk) l.answers (lent l.desk) l.used l.at

abbrev pub decreases-loop-used : goal.decreases-loop-used
decreases-loop-used l =
    length l.requests - l.used
