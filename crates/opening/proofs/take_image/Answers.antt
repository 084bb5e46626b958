-- `take_image` meets its contract: each way through it is a law of `Ways`.
use mathlib.Core.Path.{sym, ◌∙◌}
use Rattle.opening.proofs.Ways.{no_bytes, no_frame, breaks_rule, is_kept}
use Rattle.opening.proofs.take_image.Goals as goal
use Rattle.opening.proofs.take_image.Goals.{then-not-keeps-via-then-not-keeps, then-not-keeps-via-else-not-keeps+then-not-is_image}

pub returns-then-is_empty : goal.returns-then-is_empty
returns-then-is_empty c = no_bytes _ (sym c.is_empty.ensures ∙ c.if-is_empty.true)

pub returns-in_err-take_all : goal.returns-in_err-take_all
returns-in_err-take_all c =
    no_frame _ (sym c.is_empty.ensures ∙ c.if-is_empty.false) _ _ c.take_all.ensures _ c.in_err-take_all.was _ c.from_residual.ensures.1

pub returns-then-not-keeps : goal.returns-then-not-keeps
returns-then-not-keeps c =
    let some = sym c.is_empty.ensures ∙ c.if-is_empty.false in
    let t = c.take_all in
    let end = c.in_ok-take_all.was in
    elim c.then-not-keeps.branch [
      | then-not-keeps-via-then-not-keeps w ↦ breaks_rule _ some _ _ t.ensures end (sym c.keeps.ensures ∙ w.if-not-keeps.true)
      | then-not-keeps-via-else-not-keeps+then-not-is_image w ↦
          is_kept _ some _ _ t.ensures end (sym c.keeps.ensures ∙ w.if-not-keeps.false) _ (sym w.if-not-is_image.true ∙ w.is_image.ensures)
    ]

pub returns : goal.returns
returns c =
    is_kept _ (sym c.is_empty.ensures ∙ c.if-is_empty.false) _ _ c.take_all.ensures c.in_ok-take_all.was (sym c.keeps.ensures ∙ c.if-not-keeps.false) _
    (sym c.if-not-is_image.false ∙ c.is_image.ensures)
