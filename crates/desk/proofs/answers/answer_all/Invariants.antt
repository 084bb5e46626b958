-- `answer_all` meets its contract: at each turn the lines so far are those of the requests used so far, at most 136 bytes for each byte used.
use Prim.Native.Nat.{◌-◌}
use mathlib.Core.Path.{◌≡◌}
use lib.ListN.{length}
use Rattle.history.specs.Lent.{lent, SameParts}
use Rattle.desk.proofs.Steps.{SoFar}
use Rattle.desk.proofs.answers.answer_all.Given as goal

abbrev pub invariant-loop-used : goal.invariant-loop-used
invariant-loop-used l =
    SameParts l.initial.desk l.desk × (length l.out ≡ length l.initial.out)
    × SoFar l.initial.desk.rule l.why l.ended (lent l.initial.desk) l.first l.requests (lent l.desk) l.ordinal l.used l.text l.out

abbrev pub decreases-loop-used : goal.decreases-loop-used
decreases-loop-used l =
    length l.requests - l.used
