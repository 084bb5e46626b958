-- `shut_scripts` meets its contract: a map in place that stores only where something changes.
use Prim.Native.Nat.{◌≤◌, ◌-◌}
use Rattle.records.specs.House.{view}
use Rattle.effects.specs.Elements.{shut}
use Rattle.sessions.proofs.InPlace.{scripts, Done}
use Rattle.effects.proofs.texts.shut_scripts.Given as goal

abbrev pub invariant-scripts : goal.invariant-scripts
invariant-scripts l = (l.i ≤ 64) × Done scripts (view l.initial.records) (λ _. shut l.room) l.i (view l.records)

abbrev pub decreases-scripts : goal.decreases-scripts
decreases-scripts l = 64 - l.i
