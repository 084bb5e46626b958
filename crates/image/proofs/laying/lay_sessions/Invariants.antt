-- `lay_sessions` meets its contract: after i turns the records of the first i sessions are laid.
use Prim.Native.Nat.{◌-◌, ◌≤◌}
use Rattle.image.proofs.Plans.{session_plan, Upto}
use Rattle.image.proofs.laying.lay_sessions.Given as goal

abbrev pub invariant-sessions : goal.invariant-sessions
invariant-sessions l = (l.i ≤ 64) × Upto (session_plan l.records) l.initial.out l.at l.i l.end l.out

abbrev pub decreases-sessions : goal.decreases-sessions
decreases-sessions l = 64 - l.i
