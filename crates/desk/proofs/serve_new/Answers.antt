-- The desk that is handed over was just opened with a number, under a rule.
use Rattle.desk.specs.Opened.{with_number}
use Rattle.desk.proofs.serve_new.Goals as goal

pub answer-requires : goal.answer-requires
answer-requires c = with_number c.args.last c.args.rule (rw c.in-Ok.is at c.open.ensures.done)
