-- `sweep_drafts` meets its contract: the drafts with a place move up, and the rest is cut off.
use borrow.Author.Tests.{eq-eqb, ne_eqb}
use native.Mathlib.Omega.{arith}
use mathlib.Core.Path.{◌≡◌}
use mathlib.Core.Bool.{true, false}
use Rattle.records.specs.House.{view, draft_at, no_draft}
use Rattle.records.specs.Lookups.{placed}
use Rattle.sessions.proofs.InPlace.{drafts}
use Rattle.effects.proofs.Parts.{sift_keep, sift_cut}
use Rattle.effects.proofs.texts.sweep_drafts.Goals as goal

pub drafts-preserved-then-draft-eq0 : goal.drafts-preserved-then-draft-eq0
drafts-preserved-then-draft-eq0 c =
    let l = c.drafts in
    let t = c.drafts-test.true in
    let d = c.draft_at-draft in
    let n = c.draft_count-end.ensures in
    let bare : placed (draft_at (view l.records) l.i) ≡ false = rw (← d.ensures, eq-eqb _ _ c.if-draft-eq0.true) in
    (omega arith, sift_cut drafts _ _ l.i l.n _ no_draft l.invariant.1 (omega arith) bare)

pub drafts-preserved : goal.drafts-preserved
drafts-preserved c =
    let l = c.drafts in
    let t = c.drafts-test.true in
    let d = c.draft_at-draft in
    let n = c.draft_count-end.ensures in
    let stays : placed (draft_at (view l.records) l.i) ≡ true = rw (← d.ensures, ne_eqb _ _ c.if-draft-eq0.false) in
    (omega arith, sift_keep drafts _ _ l.i l.n _ _ no_draft l.invariant.1 (omega arith) stays (rw (← d.ensures) c.put_draft.ensures))
