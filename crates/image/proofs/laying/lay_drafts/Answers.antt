-- `lay_drafts` meets its contract: after i turns the records of the first i drafts are laid.
use Prim.Native.Nat.{◌<◌}
use mathlib.Core.Path.{ap, ◌∙◌}
use native.Mathlib.Omega.{arith}
use lib.ListN.{length}
use Rattle.records.specs.House.{view}
use Rattle.image.specs.Forms.{written}
use Rattle.image.specs.Image.{draft_form}
use Rattle.image.proofs.Plans.{upto_more}
use Rattle.image.proofs.laying.lay_drafts.Goals as goal

pub drafts-preserved : goal.drafts-preserved
drafts-preserved c =
    let l = c.drafts in
    let s = c.args.records.now in
    let h : l.i < length (view s).drafts = omega arith in
    let is = c.draft_bytes-text.ensures ∙ ap (written draft_form l.i) c.draft_at-draft.ensures in
    (omega arith, upto_more l.invariant.1 h is c.put-end.ensures)
