-- `push` meets its contract: by whether there was room.
use borrow.Author.Tests.{lt-ltb, le-ltb}
use native.Mathlib.Omega.{arith}
use Prim.Native.Nat.{◌<◌}
use mathlib.Core.Path.{◌≡◌}
use lib.ListN.{length}
use Rattle.kept.specs.Log.{past}
use Rattle.kept.proofs.Ring.{push_room, push_full}
use Rattle.kept.proofs.push.Goals as goal

pub returns-then-n-lt32 : goal.returns-then-n-lt32
returns-then-n-lt32 c =
    let a = c.args in
    let slot = c.slot_of-slot in
    let n = c.kept_count-n in
    let room : length (past a.log.now) < 32 = omega (arith, n.ensures.0) in
    rw (c.write_slot.ensures, lt-ltb _ _ room)
    (push_room a.log.now (omega arith) a.change slot.result slot.ensures.1 n.result n.ensures.0 (omega arith) slot.ensures.0)

pub returns : goal.returns
returns c =
    let a = c.args in
    let slot = c.slot_of-slot in
    let n = c.kept_count-n in
    let full : length (past a.log.now) ≡ 32 = omega (arith, n.ensures.0, n.ensures.1) in
    let same : n.result ≡ 32 = omega (arith, n.ensures.0) in
    rw (c.write_slot.ensures, le-ltb (length (past a.log.now)) 32 (omega arith))
    (push_full a.log.now (omega arith) a.change slot.result slot.ensures.1 full (rw same at slot.ensures.0))
