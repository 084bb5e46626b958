-- `make_numbered` meets its contract: the number handed out is the last one then.
use Rattle.std.specs.Prelude.{Some}
use mathlib.Core.Path.{◌≡◌, sym, ap, ◌∙◌}
use Rattle.counter.specs.Numbers.{next_after}
use Rattle.history.specs.Machine.{outcome, keep_change}
use Rattle.history.specs.declared.Answer.TheVariants.{Numbered}
use Rattle.history.proofs.Laws.{number_is_last}
use Rattle.history.proofs.LentDesk.make_numbered.Goals as goal

pub returns-clause-done : goal.returns-clause-done
unfolding keep_change
returns-clause-done c =
    let d = c.args.self.now in
    let n = c.in-Some.number in
    let handed : next_after d.last.now ≡ Some n = sym c.issue_from-issued.ensures.0 ∙ c.in-Some.is in
    let last = c.issue_from-issued.ensures.1 ∙ number_is_last d.last.now n handed in
    λ rule. rw handed (ap (λ x. outcome x (Numbered n)) (rw last at (c.make.ensures.done rule)))
