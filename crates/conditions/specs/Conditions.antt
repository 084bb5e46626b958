-- The facts that 01's refusal table and 02 ask for, each of the one record that it is asked of. The quoted words are theirs.
use Rattle.std.specs.Prelude.{ℕ, Bool, not, cond, ◌&&◌, ◌||◌, eqb, leb, ltb, length}
use Rattle.std.specs.Int.Bits.{bit_and}
use Rattle.label.specs.Labels.{dominates, differs}
use Rattle.label.specs.declared.Label.{Label}
use Rattle.label.specs.declared.Label.TheVariants.{At}
use Rattle.label.specs.declared.Parts.{Parts}
use Rattle.records.specs.Lists.{any}
use Rattle.records.specs.Places.{has, with, only}
use Rattle.records.specs.House.{House, house, staff, freelancer, user, script, session}
use Rattle.records.specs.Lookups.{draft_is}
use Rattle.leads.specs.Leads.{lead_count}
use Rattle.records.specs.declared.User.{User}
use Rattle.records.specs.declared.Script.{Script}
use Rattle.records.specs.declared.Session.{Session}
use Rattle.records.specs.declared.Draft.{Draft}
use Rattle.records.specs.declared.Rule.{Rule}

-- ---- 4: "a user, room, script, session, or draft of that script, that must exist"
abbrev pub is_user : House → ℕ → Bool
is_user h u = (user h u).here

abbrev pub is_room : House → ℕ → Bool
is_room h room = has h.rooms room

abbrev pub is_script : House → ℕ → Bool
is_script h k = (script h k).here

abbrev pub is_session : House → ℕ → Bool
is_session h s = (session h s).here

abbrev pub is_draft : House → ℕ → ℕ → Bool
is_draft h k v = any (draft_is k v) h.drafts

-- ---- "On a desk without users"
abbrev pub no_users : House → Bool
no_users h = not (any (λ u. u.here) h.users)

-- ---- 6 and 7
-- "u doesn't lead the room"; 02, L6, under 8: "w already leads (0C), doesn't lead (0D)"
abbrev pub leads : User → ℕ → Bool
leads u room = has u.leads room

-- "w not staff"
abbrev pub is_staff : User → Bool
is_staff u = u.here && eqb u.sort staff

-- "w no freelancer"
abbrev pub is_freelancer : User → Bool
is_freelancer u = eqb u.sort freelancer

-- "u neither owns s nor leads its room": a house session has no room, and nobody leads place 0; an RO session has no place
abbrev pub may_kill : User → ℕ → Session → Bool
may_kill user u s = eqb s.owner u || (s.writes && has user.leads s.place)

-- ---- 8
-- "already in", "not in", "u not in the room"
abbrev pub is_in : User → ℕ → Bool
is_in u room = has u.rooms room

-- 02, L6: "is the only lead (0D)": whose lead is to end leads the room, so another leads it where two do
abbrev pub another_leads : House → ℕ → Bool
another_leads h room = leb 2 (lead_count h room)

-- "house not among the places", "room not among them"
abbrev pub is_at : Draft → ℕ → Bool
is_at d place = has d.places place

-- "session's place not among them"
abbrev pub is_seated : Session → Draft → Bool
is_seated s d = is_at d s.place

-- "origin .. not the room", "origin not house"
abbrev pub of_origin : Script → ℕ → Bool
of_origin s place = eqb s.origin place

-- a place shared by two sets
abbrev pub shares : ℕ → ℕ → Bool
shares a b = not (eqb (bit_and a b) 0)

-- "Read by RO: no place shared with the owner's rooms, nor is the owner staff with house among the places. Read by RW ..: session's place not among them"
abbrev pub sees : Session → User → Draft → Bool
sees s owner d = cond s.writes (is_seated s d) (shares d.places owner.rooms || (is_at d house && is_staff owner))

-- where a session sees drafts: an RW session at its place, an RO session in its owner's rooms, and in the house where the owner is staff
abbrev pub seen : Session → User → ℕ
seen s owner = cond s.writes (only s.place) (cond (is_staff owner) (with owner.rooms house) owner.rooms)

-- ---- 9 and 16: which parts of two labels fail or differ. 01: "only level and categories count, never the place"; 02, L1: "9 now means the level fails or
-- differs; 16 means only the categories do"
-- a user has no place, and stands as in the house
abbrev pub user_label : User → Label
user_label u = At house u.level u.categories

abbrev pub script_label : Script → Label
script_label k = At k.origin k.level k.categories

abbrev pub session_label : Session → Label
session_label s = At s.place s.level s.categories

-- "opening above the owner's level or with more categories"
abbrev pub opening : User → ℕ → ℕ → Parts
opening owner level c = dominates (user_label owner) (At house level c)

-- "Read not covered"
abbrev pub reading : Session → Script → Parts
reading s k = dominates (session_label s) (script_label k)

-- "Update: session and script differ"
abbrev pub updating : Session → Script → Parts
updating s k = differs (session_label s) (script_label k)

-- "Import: the scripts differ": script 2 and script 1. 02, L3: rule 1 is document 004's, which "wants equal labels"; rule 2 is document 001's, "where the house
-- script's categories need only contain the room script's; take its level likewise as at least the room script's"
abbrev pub importing : Rule → Script → Script → Parts
importing Rule.One k₂ k₁ = differs (script_label k₂) (script_label k₁)
importing Rule.Two k₂ k₁ = dominates (script_label k₂) (script_label k₁)

-- ---- 10: "with 256 live drafts"
abbrev pub draft_room : House → Bool
draft_room h = ltb (length h.drafts) 256
