-- `answer_next` meets its contract: the frame is told, and the line of its answer is put.
use mathlib.Core.Path.{sym, ◌∙◌}
use Rattle.desk.proofs.Steps.{made_whole}
use Rattle.desk.proofs.answers.answer_next.Goals as goal

pub returns-in-Ok-clause-done : goal.returns-in-Ok-clause-done
returns-in-Ok-clause-done c =
    rw c.so_far.ensures
    (made_whole c.args.desk.now.rule c.args.why c.args.ended _ c.args.ordinal c.args.requests.now c.args.out.now c.args.at _ _ _ _ _ _ _ _
    (sym c.in-Ok.is ∙ c.read.ensures) c.judge-ruling.ensures
    (c.act-answer.ensures.done c.args.desk.now.rule) c.reason_of-reason.ensures c.body_length-length.ensures.0 c.line-text.ensures)
