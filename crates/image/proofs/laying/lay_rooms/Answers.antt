-- `lay_rooms` meets its contract: before the turn of a room the records of the rooms below it are laid.
use Prim.Native.Nat.{◌-◌, ◌<◌}
use native.Mathlib.Omega.{arith}
use lib.ListN.{length}
use Rattle.records.specs.House.{view}
use Rattle.records.specs.Places.{has, room_numbers}
use Rattle.image.specs.Image.{room_form}
use Rattle.image.proofs.Plans.{room_at, upto_more, upto_at, text_if}
use Rattle.image.proofs.laying.lay_rooms.Goals as goal

pub rooms-preserved : goal.rooms-preserved
rooms-preserved c =
    let l = c.rooms in
    let h : l.room - 1 < length room_numbers = omega arith in
    let is = text_if room_form (has (view c.args.records.now).rooms) (l.room - 1) (room_at l.room (omega arith) (omega arith)) c.room_bytes.ensures in
    (omega arith, omega arith, upto_at (omega arith) (upto_more l.invariant.2 h (rw (c.has.ensures, c.rooms-rooms.ensures) is) c.put_if-end.ensures))
