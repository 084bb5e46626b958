-- `answer_piece` meets its contract: all requests are answered, and the rest is moved to the front.
use Prim.Native.Nat.{◌+◌}
use Rattle.desk.proofs.Steps.{used_of_piece, turned}
use Rattle.desk.proofs.pieces.answer_piece.Goals as goal

pub keep-rest-requires : goal.keep-rest-requires
keep-rest-requires c =
    let a = c.answer_all-done in
    (used_of_piece c.args.buf.now (c.args.have + c.args.got) c.requires.0 a.result.used a.ensures.done.used, c.requires.0)

pub returns-clause-done : goal.returns-clause-done
returns-clause-done c =
    let a = c.answer_all-done in
    let k = c.keep-rest in
    turned _ _ _ _ c.args.buf.now c.args.have c.args.got c.requires.0 a.result a.ensures.done k.result k.new.buf k.ensures.0 k.ensures.1
