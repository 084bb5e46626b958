-- `cut_places` meets its contract: a map in place over the live drafts; while the answer is yes, each that was passed has a place.
use Prim.Native.Nat.{ℕ, ◌≤◌, ◌-◌}
use mathlib.Core.Path.{◌≡◌}
use mathlib.Core.Bool.{true}
use lib.ListN.{take}
use Rattle.records.specs.Lists.{filter}
use Rattle.records.specs.House.{House, view}
use Rattle.records.specs.Lookups.{placed}
use Rattle.effects.specs.Elements.{unplaced}
use Rattle.sessions.proofs.InPlace.{drafts, Done}
-- the first i drafts of h have a place
use Rattle.effects.proofs.texts.cut_places.Given as goal

abbrev Placed : ℕ → House → Type 0
Placed i h = filter placed (take i h.drafts) ≡ take i h.drafts

abbrev pub invariant-drafts : goal.invariant-drafts
invariant-drafts l = (l.i ≤ l.end) × Done drafts (view l.initial.records) (λ _. unplaced l.room) l.i (view l.records) × (l.placed ≡ true → Placed l.i (view l.records))

abbrev pub decreases-drafts : goal.decreases-drafts
decreases-drafts l = l.end - l.i
