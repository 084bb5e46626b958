-- `find_draft` goes on from the drafts of other numbers: those passed are not the draft, so the search of the rest is the search of all.
use Prim.Native.Nat.{◌≤◌, ◌-◌}
use mathlib.Core.Path.{◌≡◌}
use lib.ListN.{drop}
use Rattle.records.specs.House.{view}
use Rattle.records.specs.Lookups.{find_draft, first_from, draft_is}
use Rattle.records.proofs.texts.find_draft.Given as goal

abbrev pub invariant-drafts : goal.invariant-drafts
invariant-drafts l =
    (l.i ≤ l.end) × (find_draft (view l.records) l.script l.number ≡ first_from l.i (draft_is l.script l.number) (drop l.i (view l.records).drafts))

abbrev pub decreases-drafts : goal.decreases-drafts
decreases-drafts l = l.end - l.i
