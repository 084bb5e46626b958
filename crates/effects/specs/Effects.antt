-- The effect of every kind of request: 01's column "Granted effect" and what 02 adds to it, a clause a row.
use Rattle.std.specs.Prelude.{ℕ, cond, ◌&&◌, not, List, map}
use Rattle.records.specs.Lists.{any, filter, map_from}
use Rattle.records.specs.Places.{with, without, only}
use Rattle.records.specs.House.{House, house, no_script, no_session, user, session, draft_at, with_scripts, with_sessions, with_drafts, put_user, put_rooms, put_script, put_session, put_draft, add_draft}
use Rattle.records.specs.Lookups.{find_draft, at_found, of_script, placed}
use Rattle.records.specs.declared.Script.{Script}
use Rattle.records.specs.declared.Draft.{Draft}
use Rattle.request.specs.declared.Request.{Request}
use Rattle.leads.specs.Leads.{leading, lead_ended}
use Rattle.sessions.specs.Sessions.{writing, reading, ended}
use Rattle.sessions.specs.declared.Ending.TheVariants.{OfRoom, OfMember, Uncovered}
use Rattle.effects.specs.Elements.{enrolled, joined, left, in_no_room, hired, parted, created_by, shut, draft_of, placed_at, unplaced}
use Rattle.effects.specs.declared.Change.{Change}

-- ---- "So a draft that loses its last place is deleted, and a script that loses its last draft is deleted."
abbrev pub swept_drafts : List Draft → List Draft
swept_drafts drafts = filter placed drafts

-- script i, where no draft of it is left
abbrev pub deserted : List Draft → ℕ → Script → Script
deserted drafts i s = cond (s.here && not (any (of_script i) drafts)) no_script s

abbrev pub swept_scripts : List Draft → List Script → List Script
swept_scripts drafts scripts = map_from 0 (deserted drafts) scripts

abbrev pub swept : House → House
swept h = with_scripts (with_drafts h (swept_drafts h.drafts)) (swept_scripts (swept_drafts h.drafts) h.scripts)

-- ---- 04, 06: "w leaves; w's RW sessions of that room end"
abbrev pub departed : House → ℕ → ℕ → House
departed h w room = with_sessions (put_user h w (left room (user h w))) (map (ended (OfMember w room)) h.sessions)

-- ---- 05: "w joins"; 02, L4: "When Join outsider sets a label, every session of that user not covered by the new label ends in the same step."
abbrev pub arrived : House → ℕ → ℕ → ℕ → ℕ → House
arrived h w room level c =
    with_sessions (put_user h w (joined room (hired level c (user h w))))
    (cond (in_no_room (user h w)) (map (ended (Uncovered w level c)) h.sessions) h.sessions)

-- ---- the draft v of script s made anew, where it is there
abbrev pub on_draft : House → ℕ → ℕ → (Draft → Draft) → House
on_draft h s v f = at_found (find_draft h s v) (λ i. put_draft h i (f (draft_at h i))) h

-- ---- 08: "room taken from places"; where that was the last, the draft goes
abbrev pub less_one : House → ℕ → Draft → House
less_one h i d = cond (placed d) (put_draft h i d) (swept (put_draft h i d))

abbrev pub removed : House → ℕ → ℕ → ℕ → House
removed h s v room = at_found (find_draft h s v) (λ i. less_one h i (unplaced room (draft_at h i))) h

-- ---- 0B: "room gone from all members, leads and places; scripts of that origin and its RW sessions gone"
abbrev pub disbanded : House → ℕ → House
disbanded h room = swept (record {
  users = map (parted room) h.users;
  rooms = without h.rooms room;
  scripts = map (shut room) h.scripts;
  sessions = map (ended (OfRoom room)) h.sessions;
  drafts = map (unplaced room) h.drafts;
})

-- ---- every kind, with the draft number n that it received
abbrev pub effect : House → ℕ → Request → House
effect h n (Request.Enrol u new sort level c admin) = put_user h new (enrolled sort level c admin)
effect h n (Request.Establish u room) = put_rooms (put_user h u (leading room (user h u))) (with h.rooms room)
effect h n (Request.JoinStaff u w room) = put_user h w (joined room (user h w))
effect h n (Request.LeaveStaff u w room) = departed h w room
effect h n (Request.JoinOutsider u w room level c) = arrived h w room level c
effect h n (Request.LeaveOutsider u w room) = departed h w room
effect h n (Request.Add u s v room) = on_draft h s v (placed_at room)
effect h n (Request.Remove u s v room) = removed h s v room
effect h n (Request.Import u s₁ v s₂ room) = add_draft h (draft_of n s₂ (only house))
effect h n (Request.Merge u s v room) = on_draft h s v (placed_at house)
effect h n (Request.Disband u room) = disbanded h room
effect h n (Request.MakeLead u w room) = put_user h w (leading room (user h w))
effect h n (Request.EndLead u w room) = put_user h w (lead_ended room (user h w))
effect h n (Request.OpenInRoom u x room level c) = put_session h x (writing u level c room)
effect h n (Request.OpenInHouse u x level c) = put_session h x (writing u level c house)
effect h n (Request.OpenReadOnly u x level c) = put_session h x (reading u level c)
effect h n (Request.Read x s v) = h
effect h n (Request.Update x s v) = add_draft h (draft_of n s (only (session h x).place))
effect h n (Request.Create x s) = add_draft (put_script h s (created_by (session h x))) (draft_of n s (only (session h x).place))
effect h n (Request.Kill u x) = put_session h x no_session
effect h n (Request.TakeBack u) = h

-- a change: a request with the draft number that it received
abbrev pub change_of : Request → ℕ → Change
change_of q n = record { request = q; number = n }

unfoldable pub applied : House → Change → House
applied h c = effect h c.number c.request
