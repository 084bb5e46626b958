-- The model: the records of a house as lists, how the cells show them, and one part of them anew. 01, "Records and bounds".
use Rattle.std.specs.Prelude.{ℕ, ◌%◌, Bool, true, false, not, List, [], ◌∷◌, ◌++◌, eqb, get_or, take, set, replicate}
use Rattle.records.specs.Tables.{Table, table}
use Rattle.records.specs.declared.User.{User}
use Rattle.records.specs.declared.Script.{Script}
use Rattle.records.specs.declared.Session.{Session}
use Rattle.records.specs.declared.Draft.{Draft}

-- users, scripts and sessions by their ids, 64 of each; the rooms that exist, as a set; the live drafts, by ascending number
pub record House : Type 0 where
  pub users : List User
  pub rooms : ℕ
  pub scripts : List Script
  pub sessions : List Session
  pub drafts : List Draft

-- "As numbers: no 0, yes 1; RO 0, RW 1"
abbrev pub as_number : Bool → ℕ
as_number false = 0
as_number true = 1

-- what a cell says
abbrev pub is_yes : ℕ → Bool
is_yes n = not (eqb n 0)

-- what a cell says of a field of one byte, and of one of two. 01: "c (categories) two, the rest one"
abbrev pub in_byte : ℕ → ℕ
in_byte n = n % 256

abbrev pub in_two_bytes : ℕ → ℕ
in_two_bytes n = n % 65536

-- "Place 0 is the house."
abbrev pub house : ℕ
house = 0

-- "the missing place of an RO session 255"
abbrev pub no_place : ℕ
no_place = 255

-- "0 staff, 1 freelancer, 2 outsider"
abbrev pub staff : ℕ
staff = 0

abbrev pub freelancer : ℕ
freelancer = 1

abbrev pub outsider : ℕ
outsider = 2

-- ---- the tables: rooms stand in cell 0, the number of live drafts in cell 1, and then users, scripts, sessions, drafts
abbrev pub user_table : Table User
user_table = record {
  base = 2;
  width = 7;
  count = 64;
  of = λ f. record { here = is_yes (f 0); sort = in_byte (f 1); level = in_byte (f 2); categories = in_two_bytes (f 3); rooms = f 4; leads = f 5; admin = is_yes (f 6) };
  cells = λ u. as_number u.here ∷ u.sort ∷ u.level ∷ u.categories ∷ u.rooms ∷ u.leads ∷ as_number u.admin ∷ [];
}

abbrev pub script_table : Table Script
script_table = record {
  base = 450;
  width = 4;
  count = 64;
  of = λ f. record { here = is_yes (f 0); level = in_byte (f 1); categories = in_two_bytes (f 2); origin = in_byte (f 3) };
  cells = λ s. as_number s.here ∷ s.level ∷ s.categories ∷ s.origin ∷ [];
}

abbrev pub session_table : Table Session
session_table = record {
  base = 706;
  width = 6;
  count = 64;
  of = λ f. record { here = is_yes (f 0); owner = in_byte (f 1); level = in_byte (f 2); categories = in_two_bytes (f 3); writes = is_yes (f 4); place = in_byte (f 5) };
  cells = λ s. as_number s.here ∷ s.owner ∷ s.level ∷ s.categories ∷ as_number s.writes ∷ s.place ∷ [];
}

-- "at most 256 live"
abbrev pub draft_table : Table Draft
draft_table = record {
  base = 1090;
  width = 3;
  count = 256;
  of = λ f. record { number = f 0; script = in_byte (f 1); places = f 2 };
  cells = λ d. d.number ∷ d.script ∷ d.places ∷ [];
}

-- the house that the cells show; of the drafts only those that live, and never more than there is room for
unfoldable pub view : List ℕ → House
view s = record {
  users = table user_table s;
  rooms = get_or s 0 0;
  scripts = table script_table s;
  sessions = table session_table s;
  drafts = take (get_or s 1 0) (table draft_table s);
}

-- ---- elements: one that is not there is all zeros, and so is what is read past the end
abbrev pub no_user : User
no_user = record { here = false; sort = 0; level = 0; categories = 0; rooms = 0; leads = 0; admin = false }

abbrev pub no_script : Script
no_script = record { here = false; level = 0; categories = 0; origin = 0 }

abbrev pub no_session : Session
no_session = record { here = false; owner = 0; level = 0; categories = 0; writes = false; place = 0 }

abbrev pub no_draft : Draft
no_draft = record { number = 0; script = 0; places = 0 }

abbrev pub user : House → ℕ → User
user h i = get_or h.users i no_user

abbrev pub script : House → ℕ → Script
script h i = get_or h.scripts i no_script

abbrev pub session : House → ℕ → Session
session h i = get_or h.sessions i no_session

-- the live draft in place i of their order
abbrev pub draft_at : House → ℕ → Draft
draft_at h i = get_or h.drafts i no_draft

-- no records: what a desk opens with
unfoldable pub empty_house : House
empty_house = record { users = replicate 64 no_user; rooms = 0; scripts = replicate 64 no_script; sessions = replicate 64 no_session; drafts = [] }

-- ---- one part anew, the others as they are
abbrev pub with_users : House → List User → House
with_users h l = record { users = l; rooms = h.rooms; scripts = h.scripts; sessions = h.sessions; drafts = h.drafts }

abbrev pub put_rooms : House → ℕ → House
put_rooms h n = record { users = h.users; rooms = n; scripts = h.scripts; sessions = h.sessions; drafts = h.drafts }

abbrev pub with_scripts : House → List Script → House
with_scripts h l = record { users = h.users; rooms = h.rooms; scripts = l; sessions = h.sessions; drafts = h.drafts }

abbrev pub with_sessions : House → List Session → House
with_sessions h l = record { users = h.users; rooms = h.rooms; scripts = h.scripts; sessions = l; drafts = h.drafts }

abbrev pub with_drafts : House → List Draft → House
with_drafts h l = record { users = h.users; rooms = h.rooms; scripts = h.scripts; sessions = h.sessions; drafts = l }

-- ---- one element anew; past the end nothing changes
abbrev pub put_user : House → ℕ → User → House
put_user h i u = with_users h (set h.users i u)

abbrev pub put_script : House → ℕ → Script → House
put_script h i s = with_scripts h (set h.scripts i s)

abbrev pub put_session : House → ℕ → Session → House
put_session h i s = with_sessions h (set h.sessions i s)

abbrev pub put_draft : House → ℕ → Draft → House
put_draft h i d = with_drafts h (set h.drafts i d)

-- the first n drafts
abbrev pub cut_drafts : House → ℕ → House
cut_drafts h n = with_drafts h (take n h.drafts)

-- one draft more, where fewer than 256 live
abbrev pub add_draft : House → Draft → House
add_draft h d = with_drafts h (take 256 (h.drafts ++ (d ∷ [])))
