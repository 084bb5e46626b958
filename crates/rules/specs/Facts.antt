-- The record rules of 01, as 02 amends them, as facts with names, in three parts: people, seats and texts. `rules_are` shows that they are what `rules` tests.
use Rattle.std.specs.Prelude.{ℕ, ◌≤◌, ◌<◌, ◌≡◌, Bool, true, false, List, [], ◌∷◌, get_or, length}
use Rattle.records.specs.Lists.{any}
use Rattle.label.specs.Labels.{contains}
use Rattle.records.specs.Places.{has, with, only}
use Rattle.records.specs.House.{House, no_user, no_script, no_session, house, no_place, staff, outsider}
use Rattle.records.specs.Lookups.{of_script}
use Rattle.records.specs.declared.User.{User}
use Rattle.records.specs.declared.Script.{Script}
use Rattle.records.specs.declared.Session.{Session}
use Rattle.records.specs.declared.Draft.{Draft}
use Rattle.rules.specs.Lists.{Each, Somewhere}

-- the test b holds exactly where P does
pub record Is (b : Bool) (P : Type 0) : Type 0 where
  pub says : b ≡ true → P
  pub shown : P → b ≡ true

-- each place of s is one of t
abbrev pub Among : ℕ → ℕ → Type 0
Among s t = (p : ℕ) → has s p ≡ true → has t p ≡ true

-- "Rooms 1..16."
pub record RoomNumber (r : ℕ) : Type 0 where
  pub low : 1 ≤ r
  pub high : r ≤ 16

pub record SomeRoom (P : ℕ → Type 0) : Type 0 where
  pub room : ℕ
  pub number : RoomNumber room
  pub rule : P room

-- "Levels 0..7. Categories: 16 bits"
pub record LabelFits (level categories : ℕ) : Type 0 where
  pub level_fits : level ≤ 7
  pub categories_fit : categories < 65536

-- the house, or one of the rooms
abbrev pub Place : ℕ → ℕ → Type 0
Place rooms p = has (with rooms house) p ≡ true

-- ---- people: users and the rooms
pub record Bare (level categories rooms : ℕ) : Type 0 where
  pub level_zero : level ≡ 0
  pub categories_zero : categories ≡ 0
  pub no_room : rooms ≡ 0

pub record UserFine (rooms : ℕ) (u : User) : Type 0 where
  pub absent : u.here ≡ false → u ≡ no_user
  pub sort_known : u.sort ≤ 2
  pub label : LabelFits u.level u.categories
  pub joined_there : Among u.rooms rooms
  pub led_there : Among u.leads rooms
  pub admin_staff : u.admin ≡ true → u.sort ≡ staff
  pub lead_staff : (u.sort ≡ staff → ⊥) → u.leads ≡ 0
  pub outsider_bare : u.sort ≡ outsider → Bare u.level u.categories u.rooms

pub record Administered (users : List User) : Type 0 where
  pub who : ℕ
  pub is_here : (get_or users who no_user).here ≡ true
  pub is_admin : (get_or users who no_user).admin ≡ true

-- somebody leads the room r
abbrev pub Led : List User → ℕ → Type 0
Led users r = Somewhere no_user (λ u. has u.leads r) users

pub record People (rooms : ℕ) (users : List User) : Type 0 where
  pub size : length users ≡ 64
  pub numbers : Among rooms 0x1FFFE
  pub each : (i : ℕ) → UserFine rooms (get_or users i no_user)
  pub administered : (i : ℕ) → (get_or users i no_user).here ≡ true → Administered users
  pub led : (r : ℕ) → has rooms r ≡ true → Led users r

-- ---- seats: sessions, each of its owner o
pub record Writing (rooms : ℕ) (o : User) (x : Session) : Type 0 where
  pub place_there : Place rooms x.place
  pub house_staff : x.place ≡ house → o.sort ≡ staff
  pub room_member : (x.place ≡ house → ⊥) → has o.rooms x.place ≡ true

-- x is within a label
pub record Within (level categories : ℕ) (x : Session) : Type 0 where
  pub level_within : x.level ≤ level
  pub categories_within : contains categories x.categories ≡ true

pub record SessionFine (rooms : ℕ) (o : User) (x : Session) : Type 0 where
  pub absent : x.here ≡ false → x ≡ no_session
  pub label : LabelFits x.level x.categories
  pub owner_there : x.here ≡ true → o.here ≡ true
  pub within : Within o.level o.categories x
  pub writing : x.writes ≡ true → Writing rooms o x
  pub reading : x.here ≡ true → x.writes ≡ false → x.place ≡ no_place

-- x among users, one of whom owns it
abbrev pub Seated : ℕ → List User → Session → Type 0
Seated rooms users x = SessionFine rooms (get_or users x.owner no_user) x

pub record Seats (rooms : ℕ) (users : List User) (sessions : List Session) : Type 0 where
  pub size : length sessions ≡ 64
  pub each : (i : ℕ) → Seated rooms users (get_or sessions i no_session)

-- ---- texts: scripts, and drafts, each of its script s
pub data HousePlaces (places : ℕ) : Type 0 where
  with_house : has places house ≡ true → HousePlaces places
  one_room : SomeRoom (λ r. places ≡ only r) → HousePlaces places

pub record DraftFine (rooms : ℕ) (s : Script) (d : Draft) : Type 0 where
  pub script_there : s.here ≡ true
  pub places_there : Among d.places (with rooms house)
  pub some_place : d.places ≡ 0 → ⊥
  pub room_script : (s.origin ≡ house → ⊥) → d.places ≡ only s.origin
  pub house_script : s.origin ≡ house → HousePlaces d.places

-- d among scripts, one of which it is a draft of
abbrev pub Filed : ℕ → List Script → Draft → Type 0
Filed rooms scripts d = DraftFine rooms (get_or scripts d.script no_script) d

pub record ScriptFine (rooms : ℕ) (s : Script) : Type 0 where
  pub absent : s.here ≡ false → s ≡ no_script
  pub label : LabelFits s.level s.categories
  pub origin_there : s.here ≡ true → Place rooms s.origin

-- numbers go up, from above n to last: so no two are alike
abbrev pub Ascending : ℕ → ℕ → List Draft → Type 0
Ascending n last [] = Unit {0}
Ascending n last (d ∷ ds) = ((n < d.number) × (d.number ≤ last)) × Ascending d.number last ds

pub record Texts (rooms last : ℕ) (scripts : List Script) (drafts : List Draft) : Type 0 where
  pub size : length scripts ≡ 64
  pub each : (i : ℕ) → ScriptFine rooms (get_or scripts i no_script)
  pub drafted : (i : ℕ) → (get_or scripts i no_script).here ≡ true → any (of_script i) drafts ≡ true
  pub filed : Each (Filed rooms scripts) drafts
  pub ascending : Ascending 0 last drafts
  pub at_most : length drafts ≤ 256

pub record Rules (h : House) (last : ℕ) : Type 0 where
  pub people : People h.rooms h.users
  pub seats : Seats h.rooms h.users h.sessions
  pub texts : Texts h.rooms last h.scripts h.drafts
  pub counter : last ≤ 4294967295

-- ---- "draft numbers from 1 to the counter"
pub record Between (low n high : ℕ) : Type 0 where
  pub above : low < n
  pub up_to : n ≤ high
