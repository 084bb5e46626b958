-- `start_of` meets its contract: each way through it is a law of `Ways`.
use Rattle.std.specs.Prelude.{Ok}
use mathlib.Core.Path.{refl, ap, ◌∙◌}
use Rattle.request.specs.Bytes.{◌#◌}
use Rattle.request.specs.Kinds.{body_length}
use Rattle.request.specs.Reading.{request_of, length_in}
use Rattle.request.proofs.Ways.{empty, unknown, cut, whole}
use Rattle.request.proofs.reading.start_of.Goals as goal

pub returns-then-bytes-eq0 : goal.returns-then-bytes-eq0
returns-then-bytes-eq0 c =
    let b = c.args.bytes.now in
    ap (length_in (b # 0)) (empty b c.if-bytes-eq0.true)

pub returns-then-length-eq-UNKNOWN : goal.returns-then-length-eq-UNKNOWN
returns-then-length-eq-UNKNOWN c =
    let b = c.args.bytes.now in
    ap (length_in (b # 0)) (unknown b c.if-bytes-eq0.false _ _ c.from.ensures c.body_length-length.ensures c.if-length-eq-UNKNOWN.true)

pub returns-then-bytes-length : goal.returns-then-bytes-length
returns-then-bytes-length c =
    let b = c.args.bytes.now in
    ap (length_in (b # 0)) (cut b c.if-bytes-eq0.false _ _ c.from.ensures c.body_length-length.ensures c.if-length-eq-UNKNOWN.false c.if-bytes-length.true)

pub returns : goal.returns
returns c =
    let b = c.args.bytes.now in
    let n = c.body_length-length.ensures in
    ap Ok (n ∙ ap body_length c.from.ensures)
    ∙ ap (length_in (b # 0)) (whole b c.if-bytes-eq0.false _ _ c.from.ensures n c.if-length-eq-UNKNOWN.false c.if-bytes-length.false (request_of (b # 0) b) refl)
