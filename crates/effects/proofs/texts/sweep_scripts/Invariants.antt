-- `sweep_scripts` meets its contract: a map in place by a script's id; the loop leaves the drafts alone.
use Prim.Native.Nat.{◌≤◌, ◌-◌}
use Rattle.records.specs.House.{view}
use Rattle.effects.specs.Effects.{deserted}
use Rattle.sessions.proofs.InPlace.{scripts, Done}
use Rattle.effects.proofs.texts.sweep_scripts.Given as goal

abbrev pub invariant-scripts : goal.invariant-scripts
invariant-scripts l = (l.i ≤ 64) × Done scripts (view l.initial.records) (deserted (view l.initial.records).drafts) l.i (view l.records)

abbrev pub decreases-scripts : goal.decreases-scripts
decreases-scripts l = 64 - l.i
