-- `lay_scripts` meets its contract: after i turns the records of the first i scripts are laid.
use Prim.Native.Nat.{◌-◌, ◌≤◌}
use Rattle.image.proofs.Plans.{script_plan, Upto}
use Rattle.image.proofs.laying.lay_scripts.Given as goal

abbrev pub invariant-scripts : goal.invariant-scripts
invariant-scripts l = (l.i ≤ 64) × Upto (script_plan l.records) l.initial.out l.at l.i l.end l.out

abbrev pub decreases-scripts : goal.decreases-scripts
decreases-scripts l = 64 - l.i
