-- `run` meets its contract: between two turns it stands where the pieces read lead, and has room for the next.
use Rattle.history.specs.Lent.{lent, SameParts}
use Rattle.desk.proofs.Loop.{Between}
use Rattle.desk.proofs.run.Given as goal

abbrev pub invariant-loop-turn : goal.invariant-loop-turn
invariant-loop-turn l =
    SameParts l.initial.desk l.desk × Between l.initial.desk.rule l.why (lent l.initial.desk) (lent l.desk) l.ordinal l.have l.turns l.buf l.out
