-- The lines, each once: what a condition asks, and what decides where it fails. In the order of refusals, under one number in the order in which they are asked.
use Rattle.std.specs.Prelude.{ℕ, Bool, not, ◌||◌, eqb, length}
use Rattle.label.specs.declared.Parts.{Parts}
use Rattle.records.specs.Places.{only}
use Rattle.records.specs.House.{House, staff, freelancer, outsider, as_number, user, script, session}
use Rattle.records.specs.declared.Draft.{Draft}
use Rattle.leads.specs.Leads.{lead_count}
use Rattle.counter.specs.Numbers.{top}
use Rattle.fields.specs.Fields.{is_id, to_sixteen, from_one, is_level, is_sort, is_yes_no, is_plain, is_first}
use Rattle.conditions.specs.Conditions.{is_user, is_room, is_script, is_session, is_draft, leads, is_staff, is_freelancer, may_kill, is_in, another_leads, is_at, is_seated, of_origin, sees, seen, draft_room}
use Rattle.reasons.specs.Reasons.{Decided, no_record, a_user, a_room, a_script, a_session, a_draft}
use Rattle.reasons.specs.Asking.{Line, ◌unless◌, ◌because◌}

-- ---- 3
abbrev pub an_id : ℕ → Line
an_id n = 3 unless is_id n because no_record n 63

abbrev pub room_high : ℕ → Line
room_high room = 3 unless to_sixteen room because no_record room 16

abbrev pub room_low : ℕ → Line
room_low room = 3 unless from_one room because no_record room 1

abbrev pub a_level : ℕ → Line
a_level level = 3 unless is_level level because no_record level 7

abbrev pub a_sort : ℕ → Line
a_sort sort = 3 unless is_sort sort because no_record sort 0

abbrev pub a_yes_no : ℕ → Line
a_yes_no admin = 3 unless is_yes_no admin because no_record admin 1

abbrev pub plain : ℕ → ℕ → Line
plain sort field = 3 unless is_plain sort field because no_record field 0

-- ---- 4: what must exist
abbrev pub user_exists : House → ℕ → Line
user_exists h u = 4 unless is_user h u because no_record u 0

-- "On a desk without users, Enrol's acting user need not exist": empty says that there are none
abbrev pub enroller_exists : House → Bool → ℕ → Line
enroller_exists h empty u = 4 unless (empty || is_user h u) because no_record u 0

abbrev pub room_exists : House → ℕ → Line
room_exists h room = 4 unless is_room h room because no_record room 0

abbrev pub script_exists : House → ℕ → Line
script_exists h k = 4 unless is_script h k because no_record k 0

abbrev pub session_exists : House → ℕ → Line
session_exists h s = 4 unless is_session h s because no_record s 0

abbrev pub draft_exists : House → ℕ → ℕ → Line
draft_exists h k v = 4 unless is_draft h k v because no_record v 0

-- ---- 5: what must not, "its id twice"
abbrev pub user_new : House → ℕ → Line
user_new h new = 5 unless not (is_user h new) because a_user new new new

abbrev pub room_new : House → ℕ → Line
room_new h room = 5 unless not (is_room h room) because a_room room room room

abbrev pub session_new : House → ℕ → Line
session_new h s = 5 unless not (is_session h s) because a_session s s s

abbrev pub script_new : House → ℕ → Line
script_new h k = 5 unless not (is_script h k) because a_script k k k

-- ---- 6
abbrev pub first_has : Bool → ℕ → ℕ → Line
first_has empty field wanted = 6 unless is_first empty field wanted because no_record field wanted

abbrev pub enrolls : House → Bool → ℕ → Line
enrolls h empty u = 6 unless (empty || (user h u).admin) because a_user u (as_number (user h u).admin) 1

abbrev pub administers : House → ℕ → Line
administers h u = 6 unless (user h u).admin because a_user u (as_number (user h u).admin) 1

abbrev pub leads_room : House → ℕ → ℕ → Line
leads_room h u room = 6 unless leads (user h u) room because a_user u (user h u).leads (only room)

abbrev pub ends_session : House → ℕ → ℕ → Line
ends_session h u s = 6 unless may_kill (user h u) u (session h s) because a_session s (session h s).owner u

-- ---- 7
abbrev pub of_staff : House → ℕ → Line
of_staff h w = 7 unless is_staff (user h w) because a_user w (user h w).sort staff

abbrev pub not_of_staff : House → ℕ → Line
not_of_staff h w = 7 unless not (is_staff (user h w)) because a_user w (user h w).sort outsider

abbrev pub a_freelancer : House → ℕ → Line
a_freelancer h w = 7 unless is_freelancer (user h w) because a_user w (user h w).sort freelancer

abbrev pub writes_in : House → ℕ → Line
writes_in h s = 7 unless (session h s).writes because a_session s (as_number (session h s).writes) 1

-- ---- 8
abbrev pub not_yet_in : House → ℕ → ℕ → Line
not_yet_in h w room = 8 unless not (is_in (user h w) room) because a_user w (user h w).rooms (only room)

abbrev pub in_room : House → ℕ → ℕ → Line
in_room h w room = 8 unless is_in (user h w) room because a_user w (user h w).rooms (only room)

-- 02, L6: 0C, then 0D; that another leads the room is asked last
abbrev pub not_yet_lead : House → ℕ → ℕ → Line
not_yet_lead h w room = 8 unless not (leads (user h w) room) because a_user w (user h w).leads (only room)

abbrev pub is_lead : House → ℕ → ℕ → Line
is_lead h w room = 8 unless leads (user h w) room because a_user w (user h w).leads (only room)

abbrev pub another_lead : House → ℕ → Line
another_lead h room = 8 unless another_leads h room because a_room room (lead_count h room) 2

-- of the draft d, whose number is v
abbrev pub draft_among : ℕ → Draft → ℕ → Line
draft_among v d place = 8 unless is_at d place because a_draft v d.places (only place)

abbrev pub draft_not_among : ℕ → Draft → ℕ → Line
draft_not_among v d place = 8 unless not (is_at d place) because a_draft v d.places (only place)

abbrev pub sees_draft : House → ℕ → ℕ → Draft → Line
sees_draft h s v d = 8 unless sees (session h s) (user h (session h s).owner) d because a_draft v d.places (seen (session h s) (user h (session h s).owner))

abbrev pub seated_at : House → ℕ → ℕ → Draft → Line
seated_at h s v d = 8 unless is_seated (session h s) d because a_draft v d.places (only (session h s).place)

abbrev pub origin_is : House → ℕ → ℕ → Line
origin_is h k place = 8 unless of_origin (script h k) place because a_script k (script h k).origin place

-- ---- 9, 16: 02, L1: "9 now means the level fails or differs; 16 means only the categories do". Of two labels, of which the parts f fail or differ. The place
-- never counts.
abbrev pub level_holds : Parts → Decided → Line
level_holds f d = 9 unless not f.level because d

abbrev pub categories_hold : Parts → Decided → Line
categories_hold f d = 16 unless not f.categories because d

-- ---- 10, 11, 12: the count reached and its bound. 11 and 12 are asked after all of the records, of the last number issued and of how many changes are kept.
abbrev pub room_for_draft : House → Line
room_for_draft h = 10 unless draft_room h because no_record (length h.drafts) 256

abbrev pub number_left : ℕ → Line
number_left last = 11 unless not (eqb last top) because no_record last top

abbrev pub change_left : ℕ → Line
change_left kept = 12 unless not (eqb kept 0) because no_record kept 0
