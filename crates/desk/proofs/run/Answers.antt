-- What was read stands behind the bytes that wait, so that the turn is one more piece.
use Rattle.std.proofs.Common.{◌≡◌, ◌∙◌, ◌+◌, ◌≤◌, arith, length}
use borrow.Author.Tests.{not-false}
use Rattle.history.specs.Lent.{lent, SameParts}
use Rattle.history.proofs.Lent.{same_on}
use Rattle.desk.specs.Turns.{LedTo}
use Rattle.desk.proofs.Loop.{filled, filled_length, filled_same, again, led_on}
use Rattle.desk.proofs.Steps.{part_length}
use Rattle.desk.proofs.run.Goals as goal
use Rattle.desk.proofs.run.Goals.{After-answer_piece-turn}

inside : (c : After-answer_piece-turn) → c.loop-turn.have ≤ length c.loop-turn.buf
inside c =
    let h = c.loop-turn.invariant.1 in
    omega (arith, h.few, h.buf_length)

size : (c : After-answer_piece-turn) → length (filled c.loop-turn.buf c.loop-turn.have c.read_some.new.bytes) ≡ length c.loop-turn.buf
size c = filled_length c.loop-turn.buf c.loop-turn.have c.read_some.new.bytes (inside c) c.read_some.auto.bytes

room : (c : After-answer_piece-turn) → c.loop-turn.have + c.in_ok-got.got ≤ length (filled c.loop-turn.buf c.loop-turn.have c.read_some.new.bytes)
room c = omega (arith, size c, inside c, c.in_ok-got.ensures.0, c.read_some.auto.bytes, part_length c.loop-turn.have c.loop-turn.buf)

parts : (c : After-answer_piece-turn) → SameParts c.args.desk.now c.answer_piece-turn.new.desk
parts c = same_on c.loop-turn.invariant.0 c.answer_piece-turn.ensures.parts

led : (c : After-answer_piece-turn) → LedTo c.args.desk.now.rule c.args.why (lent c.args.desk.now) (lent c.answer_piece-turn.new.desk)
led c =
    let l = c.loop-turn in
    let h = l.invariant.1 in
    let a = c.answer_piece-turn in
    led_on h (filled l.buf l.have c.read_some.new.bytes) (filled_same l.buf l.have c.read_some.new.bytes (inside c)) c.in_ok-got.got (room c) (size c ∙ h.buf_length) a.result a.new.buf a.new.out
    (rw l.invariant.0.rule at a.ensures.done)

pub returns-in_err-print_text : goal.returns-in_err-print_text
returns-in_err-print_text c =
    let x = (goal.at.returns-in_err-print_text c).After-answer_piece-turn in
    record { parts = parts x; led = led x }

pub returns-then-not-turn : goal.returns-then-not-turn
returns-then-not-turn c =
    let x = (goal.at.returns-then-not-turn c).After-answer_piece-turn in
    record { parts = parts x; led = led x }

pub loop-turn-preserved : goal.loop-turn-preserved
loop-turn-preserved c =
    let l = c.loop-turn in
    let h = l.invariant.1 in
    let a = c.answer_piece-turn in
    let x = (goal.at.loop-turn-preserved c).After-answer_piece-turn in (
      parts x,
      again h (filled l.buf l.have c.read_some.new.bytes) (filled_same l.buf l.have c.read_some.new.bytes (inside x)) c.in_ok-got.got (room x) (size x ∙ h.buf_length) a.result a.new.buf a.new.out
          (rw l.invariant.0.rule at a.ensures.done) (a.auto.buf ∙ size x ∙ h.buf_length) (a.auto.out ∙ h.out_length) (not-false _ c.if-not-turn.false),
    )
