-- `replay` meets its contract: after i turns the records are those after the first i changes.
use Prim.Native.Nat.{◌≤◌, ◌-◌}
use mathlib.Core.Path.{◌≡◌}
use mathlib.Core.List.{foldl}
use lib.ListN.{take}
use Rattle.records.specs.House.{view}
use Rattle.effects.specs.Effects.{applied}
use Rattle.kept.specs.Log.{past}
use Rattle.kept.proofs.replay.Given as goal

abbrev pub invariant-changes : goal.invariant-changes
invariant-changes l = (l.i ≤ l.end) × (view l.current ≡ foldl applied (view l.base) (take l.i (past l.log)))

abbrev pub decreases-changes : goal.decreases-changes
decreases-changes l = l.end - l.i
