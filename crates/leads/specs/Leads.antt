-- Who leads a room: what a lead made or ended is to one user, and how many lead a room.
use Rattle.std.specs.Prelude.{ℕ}
use Rattle.records.specs.Lists.{count}
use Rattle.records.specs.Places.{has, with, without}
use Rattle.records.specs.House.{House}
use Rattle.records.specs.declared.User.{User}

-- a user who leads these rooms, and is all else as before, a member of the same rooms too
abbrev pub with_leads : ℕ → User → User
with_leads leads u =
    record { here = u.here; sort = u.sort; level = u.level; categories = u.categories; rooms = u.rooms; leads = leads; admin = u.admin }

-- 01, 02 Establish: "u leads it"; 02, L6, 0C: "u makes staff member w a lead of the room"
abbrev pub leading : ℕ → User → User
leading room u = with_leads (with u.leads room) u

-- 02, L6, 0D: "u ends w's lead"
abbrev pub lead_ended : ℕ → User → User
lead_ended room u = with_leads (without u.leads room) u

-- how many lead the room
abbrev pub lead_count : House → ℕ → ℕ
lead_count h room = count (λ u. has u.leads room) h.users
