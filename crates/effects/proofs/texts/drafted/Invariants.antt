-- `drafted` meets its contract: each draft passed has marked its script.
use Prim.Native.Nat.{ℕ, ◌≤◌, ◌-◌}
use Rattle.records.specs.House.{view}
use Rattle.records.specs.declared.Draft.{Draft}
use Rattle.effects.proofs.Lists.{Marked}
use Rattle.effects.proofs.texts.drafted.Given as goal

abbrev script_of : Draft → ℕ
script_of d = d.script

abbrev pub invariant-drafts : goal.invariant-drafts
invariant-drafts l = (l.i ≤ l.end) × Marked script_of 256 (view l.records).drafts l.i l.found

abbrev pub decreases-drafts : goal.decreases-drafts
decreases-drafts l = l.end - l.i
