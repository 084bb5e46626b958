-- `lay_rooms` meets its contract: before the turn of a room the records of the rooms below it are laid.
use Prim.Native.Nat.{◌-◌, ◌≤◌}
use Rattle.image.proofs.Plans.{room_plan, Upto}
use Rattle.image.proofs.laying.lay_rooms.Given as goal

abbrev pub invariant-rooms : goal.invariant-rooms
invariant-rooms l = (1 ≤ l.room) × (l.room ≤ 17) × Upto (room_plan l.records) l.initial.out l.at (l.room - 1) l.end l.out

abbrev pub decreases-rooms : goal.decreases-rooms
decreases-rooms l = 17 - l.room
