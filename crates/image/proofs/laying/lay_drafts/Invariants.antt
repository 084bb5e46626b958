-- `lay_drafts` meets its contract: after i turns the records of the first i drafts are laid.
use Prim.Native.Nat.{◌-◌, ◌≤◌}
use Rattle.image.proofs.Plans.{draft_plan, Upto}
use Rattle.image.proofs.laying.lay_drafts.Given as goal

abbrev pub invariant-drafts : goal.invariant-drafts
invariant-drafts l = (l.i ≤ l.live) × Upto (draft_plan l.records) l.initial.out l.at l.i l.end l.out

abbrev pub decreases-drafts : goal.decreases-drafts
decreases-drafts l = l.live - l.i
