-- `answer_all` meets its contract: at each turn the lines so far are those of the requests used so far, at most 136 bytes for each byte used.
use native.Mathlib.Omega.{arith}
use mathlib.Core.Path.{◌∙◌}
use Rattle.history.proofs.Lent.{same_on}
use Rattle.desk.proofs.Steps.{all_used, used_fits, text_fits, stays, goes}
use Rattle.desk.proofs.answers.answer_all.Goals as goal

pub overflow_add-used : goal.overflow_add-used
overflow_add-used c =
    let n = c.answer_next-next in
    let h = c.loop-used.invariant in
    let made = rw h.0.rule at n.ensures.done in
    let fits = used_fits h.2 c.args.out.now (omega (arith, c.if-requests-used.false)) n.result.used made.used in
    omega (arith, fits)

pub loop-used-preserved : goal.loop-used-preserved
loop-used-preserved c =
    let n = c.answer_next-next in
    let h = c.loop-used.invariant in
    let made = rw h.0.rule at n.ensures.done in (
      same_on h.0 n.ensures.parts,
      n.auto.out ∙ h.1,
      goes h.2 c.args.out.now (omega (arith, c.if-requests-used.false)) n.result n.new.out made c.if-next-eq0.false,
    )

pub returns-then-requests-used : goal.returns-then-requests-used
returns-then-requests-used c =
    let h = c.loop-used.invariant in
    let w = h.2 in
    record { parts = h.0; done = all_used w c.args.out.now c.if-requests-used.true (omega (arith, h.1, w.short, w.in_piece, c.requires)) }

pub returns-then-next-eq0 : goal.returns-then-next-eq0
returns-then-next-eq0 c =
    let n = c.answer_next-next in
    let h = c.loop-used.invariant in
    let w = h.2 in
    let made = rw h.0.rule at n.ensures.done in
    let less = c.if-requests-used.false in
    let near = text_fits w c.args.out.now (omega (arith, less)) n.result n.new.out made in
    record {
      parts = same_on h.0 n.ensures.parts;
      done = stays w c.args.out.now (omega (arith, less)) n.result n.new.out made c.if-next-eq0.true (omega (arith, near, n.auto.out, h.1, w.short, w.in_piece, c.requires, less));
    }
