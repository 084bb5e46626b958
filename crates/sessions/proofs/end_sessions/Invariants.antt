-- `end_sessions` meets its contract: a map in place that stores only where something changes.
use Prim.Native.Nat.{◌≤◌, ◌-◌}
use Rattle.records.specs.House.{view}
use Rattle.sessions.specs.Sessions.{ended}
use Rattle.sessions.proofs.InPlace.{sessions, Done}
use Rattle.sessions.proofs.end_sessions.Given as goal

abbrev pub invariant-sessions : goal.invariant-sessions
invariant-sessions l = (l.i ≤ 64) × Done sessions (view l.initial.records) (λ _. ended l.ending) l.i (view l.records)

abbrev pub decreases-sessions : goal.decreases-sessions
decreases-sessions l = 64 - l.i
