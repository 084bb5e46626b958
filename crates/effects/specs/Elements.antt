-- What a granted request makes of one user, script or draft; of leads, crates/leads/specs/Leads.antt, of sessions, crates/sessions/specs/Sessions.antt. The quoted words are those of 01's column "Granted effect".
use Rattle.std.specs.Prelude.{ℕ, Bool, true, cond, ◌&&◌, eqb}
use Rattle.records.specs.Places.{with, without}
use Rattle.records.specs.House.{no_script, freelancer}
use Rattle.records.specs.declared.User.{User}
use Rattle.records.specs.declared.Script.{Script}
use Rattle.records.specs.declared.Session.{Session}
use Rattle.records.specs.declared.Draft.{Draft}

-- ---- users
-- "user added"
abbrev pub enrolled : ℕ → ℕ → ℕ → ℕ → User
enrolled sort level c admin = record { here = true; sort = sort; level = level; categories = c; rooms = 0; leads = 0; admin = eqb admin 1 }

abbrev pub with_rooms : ℕ → ℕ → User → User
with_rooms rooms leads u =
    record { here = u.here; sort = u.sort; level = u.level; categories = u.categories; rooms = rooms; leads = leads; admin = u.admin }

-- "w joins"
abbrev pub joined : ℕ → User → User
joined room u = with_rooms (with u.rooms room) u.leads u

-- "w leaves"
abbrev pub left : ℕ → User → User
left room u = with_rooms (without u.rooms room) u.leads u

-- "if w was in no room"
abbrev pub in_no_room : User → Bool
in_no_room u = eqb u.rooms 0

-- "w is a freelancer; if w was in no room, w's label becomes (level, c), else those fields have no effect"
abbrev pub hired : ℕ → ℕ → User → User
hired level c u = record {
  here = u.here;
  sort = freelancer;
  level = cond (in_no_room u) level u.level;
  categories = cond (in_no_room u) c u.categories;
  rooms = u.rooms;
  leads = u.leads;
  admin = u.admin;
}

-- "room gone from all members, leads"
abbrev pub parted : ℕ → User → User
parted room u = with_rooms (without u.rooms room) (without u.leads room) u

-- ---- scripts
-- "script with the session's label and place"
abbrev pub created_by : Session → Script
created_by s = record { here = true; level = s.level; categories = s.categories; origin = s.place }

-- "scripts of that origin .. gone"
abbrev pub shuts : ℕ → Script → Bool
shuts room s = s.here && eqb s.origin room

abbrev pub shut : ℕ → Script → Script
shut room s = cond (shuts room s) no_script s

-- ---- drafts
abbrev pub draft_of : ℕ → ℕ → ℕ → Draft
draft_of number script places = record { number = number; script = script; places = places }

-- "room added to places", "house added to places"
abbrev pub placed_at : ℕ → Draft → Draft
placed_at place d = draft_of d.number d.script (with d.places place)

-- "room taken from places"
abbrev pub unplaced : ℕ → Draft → Draft
unplaced room d = draft_of d.number d.script (without d.places room)
