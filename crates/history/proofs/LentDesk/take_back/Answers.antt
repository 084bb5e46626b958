-- `take_back` meets its contract: by whether a change is kept.
use borrow.Author.Tests.{eq-eqb, ne_eqb}
use mathlib.Core.Path.{sym, ◌∙◌}
use lib.ListN.{length}
use Rattle.kept.specs.Log.{past}
use Rattle.history.specs.Machine.{take_back}
use Rattle.history.proofs.LentDesk.take_back.Goals as goal

pub returns-then-kept_count-eq0-clause-done : goal.returns-then-kept_count-eq0-clause-done
unfolding take_back
returns-then-kept_count-eq0-clause-done c =
    let l = past c.args.self.now.log.now in
    λ rule. rw (eq-eqb (length l) 0 (sym c.kept_count.ensures.0 ∙ c.if-kept_count-eq0.true))

pub returns-clause-done : goal.returns-clause-done
unfolding take_back
returns-clause-done c =
    let l = past c.args.self.now.log.now in
    λ rule. rw (ne_eqb (length l) 0 (λ e. c.if-kept_count-eq0.false (c.kept_count.ensures.0 ∙ e)), c.replay.ensures, c.pop.ensures)
