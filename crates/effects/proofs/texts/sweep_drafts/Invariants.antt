-- `sweep_drafts` meets its contract: the drafts with a place move up, and the rest is cut off.
use Prim.Native.Nat.{◌≤◌, ◌-◌}
use Rattle.records.specs.House.{view}
use Rattle.records.specs.Lookups.{placed}
use Rattle.sessions.proofs.InPlace.{drafts}
use Rattle.effects.proofs.Parts.{Sifted}
use Rattle.effects.proofs.texts.sweep_drafts.Given as goal

abbrev pub invariant-drafts : goal.invariant-drafts
invariant-drafts l = (l.i ≤ l.end) × Sifted drafts (view l.initial.records) placed l.i l.n (view l.records)

abbrev pub decreases-drafts : goal.decreases-drafts
decreases-drafts l = l.end - l.i
