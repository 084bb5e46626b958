-- `put_draft` stores one of the live drafts; behind the last the list stays as it is.
use Prim.Native.Nat.{◌≤◌}
use native.Mathlib.Omega.{arith}
use lib.ListN.{length}
use lib.Seq.{set_out}
use Rattle.records.specs.House.{view}
use Rattle.records.proofs.Views.{draft_again, view_draft, count_drafts}
use Rattle.records.proofs.texts.put_draft.Goals as goal

pub returns-then-i-gt255 : goal.returns-then-i-gt255
returns-then-i-gt255 c =
    let a = c.args in
    let z = count_drafts a.records.now in
    let h : length (view a.records.now).drafts ≤ a.i = omega arith in
    rw (set_out (view a.records.now).drafts a.i a.draft h)

pub returns : goal.returns
returns c =
    let a = c.args in
    rw c.write_draft.ensures (view_draft a.records.now (omega arith) a.i a.draft (draft_again a.draft (omega arith)) (omega arith))
