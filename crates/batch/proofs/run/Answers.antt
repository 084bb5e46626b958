-- `run` meets its contract: a turn of the loop is a request of the batch in specs/.
use Rattle.history.specs.Lent.{lent}
use Rattle.history.proofs.Lent.{same_on, by_same_rule}
use Rattle.batch.proofs.Turn.{Over, as_left, as_returned, at_end_lem, no_room, unknown, cut, next}
use Rattle.batch.proofs.run.Goals.{then-requests-used, else-requests-used+then-room_left-lt5, else-requests-used+else-room_left-lt5+in-Err-Unknown, else-requests-used+else-room_left-lt5+in-Err-Cut}
use Rattle.batch.proofs.run.Goals as goal

pub loop-used-preserved : goal.loop-used-preserved
loop-used-preserved c =
    let h = c.loop-used.invariant in
    let took = c.take-answer.ensures in
    let put = c.put_answer-at-in-Ok in (
      same_on h.0 took.parts,
      next h.1 c.if-requests-used.false c.room_left.result c.room_left.ensures c.if-room_left-lt5.false
          c.start_of.result c.start_of.ensures _ c.in-Ok.is c.first-request.result c.first-request.ensures
          _ c.take-answer.result (by_same_rule _ _ h.0 took.done) put.result put.ensures.0 put.new.out put.ensures.1,
    )

-- where the four ways out of the loop meet
pub returns : goal.returns
returns c =
    let h = c.loop-used.invariant.1 in
    let a = c.args in
    let left = c.if-requests-used in
    let over : Over a.desk.now.rule a.requests.now a.answers.now a.place (lent a.desk.now)
    (lent c.loop-used.desk) c.loop-used.used left.answers left.at left.stop =
    elim left.branch [
      | then-requests-used w ↦ as_left w.answers-is w.at-is w.stop-is (at_end_lem h w.if-requests-used.true)
      | else-requests-used+then-room_left-lt5 w ↦
          as_left w.answers-is w.at-is w.stop-is (no_room h w.if-requests-used.false w.room_left.result w.room_left.ensures w.if-room_left-lt5.true)
      | else-requests-used+else-room_left-lt5+in-Err-Unknown w ↦
          as_left w.answers-is w.at-is w.stop-is
          (unknown h w.if-requests-used.false w.room_left.result w.room_left.ensures w.if-room_left-lt5.false w.start_of.result w.start_of.ensures
          (rw w.in-Err-Unknown.field-0-is at w.in-Err-Unknown.is) w.put_answer-at.result w.put_answer-at.ensures.0 w.put_answer-at.new.out w.put_answer-at.ensures.1)
      | else-requests-used+else-room_left-lt5+in-Err-Cut w ↦
          as_left w.answers-is w.at-is w.stop-is
          (cut h w.if-requests-used.false w.room_left.result w.room_left.ensures w.if-room_left-lt5.false w.start_of.result w.start_of.ensures
          (rw w.in-Err-Cut.field-0-is at w.in-Err-Cut.is) w.put_answer-at-in-Err-Cut.result w.put_answer-at-in-Err-Cut.ensures.0 w.put_answer-at-in-Err-Cut.new.out w.put_answer-at-in-Err-Cut.ensures.1)
    ] in
    record { parts = c.loop-used.invariant.0; done = as_returned c.new.ensures over.0 }
