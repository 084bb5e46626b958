-- `placed_front` meets its contract: every draft that it passed has a place.
use Prim.Native.Nat.{◌≤◌, ◌-◌}
use mathlib.Core.Path.{◌≡◌}
use lib.ListN.{take}
use Rattle.records.specs.Lists.{filter}
use Rattle.records.specs.House.{view}
use Rattle.records.specs.Lookups.{placed}
use Rattle.effects.proofs.texts.placed_front.Given as goal

abbrev pub invariant-drafts : goal.invariant-drafts
invariant-drafts l = (l.i ≤ l.end) × (filter placed (take l.i (view l.records).drafts) ≡ take l.i (view l.records).drafts)

abbrev pub decreases-drafts : goal.decreases-drafts
decreases-drafts l = l.end - l.i
