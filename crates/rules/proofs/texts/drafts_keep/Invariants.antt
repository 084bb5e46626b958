-- `drafts_keep` meets its contract: those passed keep the rules, and the rest is left to ask, above the last number passed.
use Prim.Native.Nat.{ℕ, ◌≤◌, ◌-◌}
use mathlib.Core.Path.{◌≡◌}
use mathlib.Core.Bool.{Bool, ◌&&◌}
use mathlib.Core.List.{List}
use lib.ListN.{drop}
use Rattle.records.specs.Lists.{all}
use Rattle.records.specs.House.{House, view}
use Rattle.records.specs.declared.Draft.{Draft}
use Rattle.rules.specs.Rules.{ascending}
use Rattle.rules.specs.Walks.{draft_keeps}
-- of drafts with numbers above a number
use Rattle.rules.proofs.texts.drafts_keep.Given as goal

abbrev Above : House → ℕ → ℕ → List Draft → Bool
Above h above last l = all (draft_keeps h) l && ascending above last l

abbrev pub invariant-drafts : goal.invariant-drafts
invariant-drafts l =
    (l.i ≤ l.end) × (Above (view l.records) 0 l.last (view l.records).drafts ≡ Above (view l.records) l.above l.last (drop l.i (view l.records).drafts))

abbrev pub decreases-drafts : goal.decreases-drafts
decreases-drafts l = l.end - l.i
