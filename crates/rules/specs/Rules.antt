-- The record rules of 01, "Every desk reached from an opening meets these record rules", as 02 amends them: a test for each clause, which code makes too.
use Rattle.std.specs.Prelude.{ℕ, Bool, true, not, ◌&&◌, ◌||◌, List, [], ◌∷◌, eqb, leb, ltb, length}
use Rattle.records.specs.Lists.{any, all, all_from}
use Rattle.label.specs.Labels.{contains, covers}
use Rattle.records.specs.Places.{has, with, only, room_numbers}
use Rattle.records.specs.House.{House, house, no_place, staff, outsider, user, script}
use Rattle.records.specs.Lookups.{of_script, placed}
use Rattle.leads.specs.Leads.{lead_count}
use Rattle.records.specs.declared.User.{User}
use Rattle.records.specs.declared.Script.{Script}
use Rattle.records.specs.declared.Session.{Session}
use Rattle.records.specs.declared.Draft.{Draft}

infixr 40 ◌implies◌
abbrev pub ◌implies◌ : Bool → Bool → Bool
a implies b = not a || b

-- the house, or a room that exists
abbrev pub is_place : House → ℕ → Bool
is_place h p = eqb p house || has h.rooms p

-- the house and all rooms that exist
abbrev pub places : House → ℕ
places h = with h.rooms house

-- ---- "every record named is there": rooms joined and led; the owner and the place of a session; the origin of a script; the script and the places of a draft
abbrev pub rooms_there : House → User → Bool
rooms_there h u = contains h.rooms u.rooms && contains h.rooms u.leads

abbrev pub session_there : House → Session → Bool
session_there h s = s.here implies ((user h s.owner).here && (s.writes implies is_place h s.place))

abbrev pub origin_there : House → Script → Bool
origin_there h s = s.here implies is_place h s.origin

abbrev pub draft_there : House → Draft → Bool
draft_there h d = (script h d.script).here && contains (places h) d.places

abbrev pub named_there : House → Bool
named_there h =
    all (rooms_there h) h.users && all (session_there h) h.sessions && all (origin_there h) h.scripts && all (draft_there h) h.drafts

-- ---- "a house administrator if there is any user"
abbrev pub administered : House → Bool
administered h = any (λ u. u.here) h.users implies any (λ u. u.here && u.admin) h.users

-- ---- "only staff are administrators or leads"
abbrev pub staff_if_trusted : User → Bool
staff_if_trusted u = (u.admin || not (eqb u.leads 0)) implies eqb u.sort staff

abbrev pub staff_only : House → Bool
staff_only h = all staff_if_trusted h.users

-- ---- 02, L6: "Every room has at least one staff lead at all times": that leads are staff is asked above
abbrev pub is_led : House → ℕ → Bool
is_led h r = has h.rooms r implies leb 1 (lead_count h r)

abbrev pub all_led : House → Bool
all_led h = all (is_led h) room_numbers

-- ---- "outsiders with zero labels, in no room"
abbrev pub bare_if_outsider : User → Bool
bare_if_outsider u = eqb u.sort outsider implies (eqb u.level 0 && eqb u.categories 0 && eqb u.rooms 0)

abbrev pub outsiders_bare : House → Bool
outsiders_bare h = all bare_if_outsider h.users

-- ---- "RW sessions owned by staff (house) or by members of their room"
abbrev pub owned_well : User → Session → Bool
owned_well o s = (eqb s.place house implies eqb o.sort staff) && (not (eqb s.place house) implies has o.rooms s.place)

abbrev pub sessions_owned : House → Bool
sessions_owned h = all (λ s. s.writes implies owned_well (user h s.owner) s) h.sessions

-- ---- "within the owner's label"; 02, L4: "from then on every session", so RO sessions too
abbrev pub within : User → Session → Bool
within o s = covers o.level o.categories s.level s.categories

abbrev pub sessions_within : House → Bool
sessions_within h = all (λ s. within (user h s.owner) s) h.sessions

-- ---- "a room script's drafts in that room only"
abbrev pub in_its_room : House → Draft → Bool
in_its_room h d = not (eqb (script h d.script).origin house) implies eqb d.places (only (script h d.script).origin)

abbrev pub room_drafts : House → Bool
room_drafts h = all (in_its_room h) h.drafts

-- ---- "a house script's drafts with the house among the places, or with exactly one room"
abbrev pub at_home_or_one_room : House → Draft → Bool
at_home_or_one_room h d = eqb (script h d.script).origin house implies (has d.places house || any (λ r. eqb d.places (only r)) room_numbers)

abbrev pub house_drafts : House → Bool
house_drafts h = all (at_home_or_one_room h) h.drafts

-- ---- "a draft for each script, a place for each draft"
abbrev pub has_draft : House → ℕ → Script → Bool
has_draft h i s = s.here implies any (of_script i) h.drafts

abbrev pub each_drafted : House → Bool
each_drafted h = all_from 0 (has_draft h) h.scripts

abbrev pub each_placed : House → Bool
each_placed h = all placed h.drafts

-- ---- "draft numbers from 1 to the counter, no two alike": they stand in ascending order
abbrev pub ascending : ℕ → ℕ → List Draft → Bool
ascending above last [] = true
ascending above last (d ∷ ds) = ltb above d.number && leb d.number last && ascending d.number last ds

abbrev pub numbers_rise : House → ℕ → Bool
numbers_rise h last = ascending 0 last h.drafts

-- ---- "Records and bounds": how many there are, and how large each field may be; a slot that is not used is all zeros
abbrev pub label_fits : ℕ → ℕ → Bool
label_fits level c = leb level 7 && ltb c 65536

abbrev pub user_fits : User → Bool
user_fits u =
    leb u.sort 2 && label_fits u.level u.categories
    && (u.here || (eqb u.sort 0 && eqb u.level 0 && eqb u.categories 0 && eqb u.rooms 0 && eqb u.leads 0 && not u.admin))

abbrev pub script_fits : Script → Bool
script_fits s = label_fits s.level s.categories && (s.here || (eqb s.level 0 && eqb s.categories 0 && eqb s.origin 0))

-- "for RW only, a place"
abbrev pub session_fits : Session → Bool
session_fits s =
    label_fits s.level s.categories
    && (s.here implies (s.writes || eqb s.place no_place))
    && (s.here || (eqb s.owner 0 && eqb s.level 0 && eqb s.categories 0 && not s.writes && eqb s.place 0))

abbrev pub bounded : House → ℕ → Bool
bounded h last =
    eqb (length h.users) 64 && all user_fits h.users
    && contains 0x1FFFE h.rooms
    && eqb (length h.scripts) 64 && all script_fits h.scripts
    && eqb (length h.sessions) 64 && all session_fits h.sessions
    && leb (length h.drafts) 256
    && leb last 4294967295

-- ---- all of them, of the records h and the last draft number issued
unfoldable pub rules : House → ℕ → Bool
rules h last =
    bounded h last && named_there h && administered h && staff_only h && all_led h && outsiders_bare h && sessions_owned h && sessions_within h && room_drafts h
    && house_drafts h && each_drafted h && each_placed h && numbers_rise h last
