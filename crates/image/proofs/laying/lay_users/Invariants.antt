-- `lay_users` meets its contract: after i turns the records of the first i users are laid.
use Prim.Native.Nat.{◌-◌, ◌≤◌}
use Rattle.image.proofs.Plans.{user_plan, Upto}
use Rattle.image.proofs.laying.lay_users.Given as goal

abbrev pub invariant-users : goal.invariant-users
invariant-users l = (l.i ≤ 64) × Upto (user_plan l.records) l.initial.out l.at l.i l.end l.out

abbrev pub decreases-users : goal.decreases-users
decreases-users l = 64 - l.i
