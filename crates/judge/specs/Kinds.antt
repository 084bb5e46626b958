-- The lines of each kind of request: the table of refusals read off for that kind, in the order of refusals, and under one number in the order of the table's
-- words, then of the body. What kinds ask in common is one list.
use Rattle.std.specs.Prelude.{ℕ, Bool, List, [], ◌∷◌, ◌++◌, Result, Ok, Err}
use Rattle.label.specs.declared.Parts.{Parts}
use Rattle.label.specs.Labels.{none}
use Rattle.records.specs.House.{House, house, staff, user, script, session}
use Rattle.records.specs.Lookups.{draft}
use Rattle.records.specs.declared.Rule.{Rule}
use Rattle.request.specs.declared.Request.{Request}
use Rattle.conditions.specs.Conditions.{no_users, opening, reading, updating, importing}
use Rattle.reasons.specs.Asking.{Line, asked}
use Rattle.reasons.specs.Lines.{an_id, room_high, room_low, a_level, a_sort, a_yes_no, plain, user_exists, enroller_exists, room_exists, script_exists, session_exists, draft_exists, user_new, room_new, session_new, script_new, first_has, enrolls, administers, leads_room, ends_session, of_staff, not_of_staff, a_freelancer, writes_in, not_yet_in, in_room, not_yet_lead, is_lead, another_lead, draft_among, draft_not_among, sees_draft, seated_at, origin_is, room_for_draft}
use Rattle.reasons.specs.Shared.{pair_numbers, pair_led, draft_led, opens, covers, as_script, imports, draft_asked}
use Rattle.reasons.specs.declared.Reason.{Reason}
use Rattle.judge.specs.declared.Grant.{Grant}
use Rattle.judge.specs.declared.Grant.TheVariants.{Pass, Keep, KeepNumbered}

-- 01: "On a desk without users, Enrol's acting user need not exist; it is granted only with u = new, sort 0 and admin 1, else 6." Empty says that there are none.
unfoldable pub enrol_numbers : ℕ → ℕ → ℕ → ℕ → ℕ → ℕ → List Line
enrol_numbers u new sort level c admin =
    an_id u ∷ an_id new ∷ a_level level ∷ a_sort sort ∷ a_yes_no admin ∷ plain sort level ∷ plain sort c ∷ plain sort admin ∷ []

unfoldable pub enrol_where : House → Bool → ℕ → ℕ → ℕ → ℕ → ℕ → ℕ → List Line
enrol_where h empty u new sort level c admin =
    enrol_numbers u new sort level c admin
    ++ (enroller_exists h empty u
    ∷ user_new h new
    ∷ first_has empty u new
    ∷ first_has empty sort staff
    ∷ first_has empty admin 1
    ∷ enrolls h empty u
    ∷ [])

abbrev pub enrol_lines : House → ℕ → ℕ → ℕ → ℕ → ℕ → ℕ → List Line
enrol_lines h u new sort level c admin = enrol_where h (no_users h) u new sort level c admin

unfoldable pub establish_lines : House → ℕ → ℕ → List Line
establish_lines h u room = an_id u ∷ room_high room ∷ room_low room ∷ user_exists h u ∷ room_new h room ∷ administers h u ∷ []

abbrev pub join_staff_lines : House → ℕ → ℕ → ℕ → List Line
join_staff_lines h u w room = pair_numbers u w room ++ pair_led h u w room ++ (of_staff h w ∷ not_yet_in h w room ∷ [])

abbrev pub leave_staff_lines : House → ℕ → ℕ → ℕ → List Line
leave_staff_lines h u w room = pair_numbers u w room ++ pair_led h u w room ++ (of_staff h w ∷ in_room h w room ∷ [])

-- its level is asked, also where it has no effect
abbrev pub join_outsider_lines : House → ℕ → ℕ → ℕ → ℕ → List Line
join_outsider_lines h u w room level = pair_numbers u w room ++ (a_level level ∷ []) ++ pair_led h u w room ++ (not_of_staff h w ∷ not_yet_in h w room ∷ [])

abbrev pub leave_outsider_lines : House → ℕ → ℕ → ℕ → List Line
leave_outsider_lines h u w room = pair_numbers u w room ++ pair_led h u w room ++ (a_freelancer h w ∷ in_room h w room ∷ [])

abbrev pub add_lines : House → ℕ → ℕ → ℕ → ℕ → List Line
add_lines h u k v room = draft_led h u k v room ++ (draft_among v (draft h k v) house ∷ draft_not_among v (draft h k v) room ∷ [])

abbrev pub remove_lines : House → ℕ → ℕ → ℕ → ℕ → List Line
remove_lines h u k v room = draft_led h u k v room ++ (draft_among v (draft h k v) room ∷ [])

-- 02, L3: "Only refusals 9 and 16 at Import are amended": the rule is asked here alone
unfoldable pub import_numbers : ℕ → ℕ → ℕ → ℕ → List Line
import_numbers u k₁ k₂ room = an_id u ∷ an_id k₁ ∷ an_id k₂ ∷ room_high room ∷ room_low room ∷ []

unfoldable pub import_exists : House → ℕ → ℕ → ℕ → ℕ → ℕ → List Line
import_exists h u k₁ v k₂ room = user_exists h u ∷ room_exists h room ∷ script_exists h k₁ ∷ script_exists h k₂ ∷ draft_exists h k₁ v ∷ []

unfoldable pub import_lines : Rule → House → ℕ → ℕ → ℕ → ℕ → ℕ → List Line
import_lines rule h u k₁ v k₂ room =
    import_numbers u k₁ k₂ room
    ++ import_exists h u k₁ v k₂ room
    ++ (leads_room h u room
    ∷ origin_is h k₁ room
    ∷ origin_is h k₂ house
    ∷ (imports rule h k₁ k₂ ++ (room_for_draft h ∷ [])))

abbrev pub merge_lines : House → ℕ → ℕ → ℕ → ℕ → List Line
merge_lines h u k v room = draft_led h u k v room ++ (draft_among v (draft h k v) room ∷ origin_is h k house ∷ [])

unfoldable pub disband_lines : House → ℕ → ℕ → List Line
disband_lines h u room = an_id u ∷ room_high room ∷ room_low room ∷ user_exists h u ∷ room_exists h room ∷ leads_room h u room ∷ []

-- 02, L6
abbrev pub make_lead_lines : House → ℕ → ℕ → ℕ → List Line
make_lead_lines h u w room = pair_numbers u w room ++ pair_led h u w room ++ (of_staff h w ∷ not_yet_lead h w room ∷ [])

abbrev pub end_lead_lines : House → ℕ → ℕ → ℕ → List Line
end_lead_lines h u w room = pair_numbers u w room ++ pair_led h u w room ++ (of_staff h w ∷ is_lead h w room ∷ another_lead h room ∷ [])

abbrev pub open_in_room_lines : House → ℕ → ℕ → ℕ → ℕ → ℕ → List Line
open_in_room_lines h u s room level c =
    pair_numbers u s room
    ++ (a_level level ∷ user_exists h u ∷ room_exists h room ∷ session_new h s ∷ in_room h u room ∷ opens h u level c)

abbrev pub open_in_house_lines : House → ℕ → ℕ → ℕ → ℕ → List Line
open_in_house_lines h u s level c = an_id u ∷ an_id s ∷ a_level level ∷ user_exists h u ∷ session_new h s ∷ of_staff h u ∷ opens h u level c

abbrev pub open_read_only_lines : House → ℕ → ℕ → ℕ → ℕ → List Line
open_read_only_lines h u s level c = an_id u ∷ an_id s ∷ a_level level ∷ user_exists h u ∷ session_new h s ∷ opens h u level c

abbrev pub read_lines : House → ℕ → ℕ → ℕ → List Line
read_lines h s k v = draft_asked h s k v ++ (sees_draft h s v (draft h k v) ∷ covers h s k)

abbrev pub update_lines : House → ℕ → ℕ → ℕ → List Line
update_lines h s k v =
    draft_asked h s k v
    ++ (writes_in h s ∷ seated_at h s v (draft h k v) ∷ (as_script h s k ++ (room_for_draft h ∷ [])))

unfoldable pub create_lines : House → ℕ → ℕ → List Line
create_lines h s k = an_id k ∷ an_id s ∷ session_exists h s ∷ script_new h k ∷ writes_in h s ∷ room_for_draft h ∷ []

unfoldable pub kill_lines : House → ℕ → ℕ → List Line
kill_lines h u s = an_id u ∷ an_id s ∷ user_exists h u ∷ session_exists h s ∷ ends_session h u s ∷ []

unfoldable pub take_back_lines : House → ℕ → List Line
take_back_lines h u = an_id u ∷ user_exists h u ∷ administers h u ∷ []

-- ---- every kind, a row each
-- What it is granted where all its conditions hold: "Kept changes: every granted request but Read and Take back."; "granted with a draft number (09, 14, 15)". Which
-- refusals it can have from the judge, in the order of refusals: 1 and 2 are given before a request is whole, 11 and 12 by whoever keeps the changes, 13 by the
-- batch. Its conditions, and the parts of labels that fail or differ, on a desk under the rule.
pub record Kind : Type 0 where
  pub grant : Grant
  pub refusals : List ℕ
  pub lines : Rule → House → List Line
  pub compared : Rule → House → Parts

-- a kind that compares no labels, and one that does; the rule is asked by Import alone
abbrev pub unlabelled : Grant → List ℕ → (House → List Line) → Kind
unlabelled grant refusals lines = record { grant = grant; refusals = refusals; lines = λ rule h. lines h; compared = λ rule h. none }

abbrev pub labelled : Grant → List ℕ → (House → List Line) → (House → Parts) → Kind
labelled grant refusals lines compared = record { grant = grant; refusals = refusals; lines = λ rule h. lines h; compared = λ rule h. compared h }

abbrev pub kind : Request → Kind
kind (Request.Enrol u new sort level c admin) = unlabelled Keep (3 ∷ 4 ∷ 5 ∷ 6 ∷ []) λ h. enrol_lines h u new sort level c admin
kind (Request.Establish u room) = unlabelled Keep (3 ∷ 4 ∷ 5 ∷ 6 ∷ []) λ h. establish_lines h u room
kind (Request.JoinStaff u w room) = unlabelled Keep (3 ∷ 4 ∷ 6 ∷ 7 ∷ 8 ∷ []) λ h. join_staff_lines h u w room
kind (Request.LeaveStaff u w room) = unlabelled Keep (3 ∷ 4 ∷ 6 ∷ 7 ∷ 8 ∷ []) λ h. leave_staff_lines h u w room
kind (Request.JoinOutsider u w room level c) = unlabelled Keep (3 ∷ 4 ∷ 6 ∷ 7 ∷ 8 ∷ []) λ h. join_outsider_lines h u w room level
kind (Request.LeaveOutsider u w room) = unlabelled Keep (3 ∷ 4 ∷ 6 ∷ 7 ∷ 8 ∷ []) λ h. leave_outsider_lines h u w room
kind (Request.Add u k v room) = unlabelled Keep (3 ∷ 4 ∷ 6 ∷ 8 ∷ []) λ h. add_lines h u k v room
kind (Request.Remove u k v room) = unlabelled Keep (3 ∷ 4 ∷ 6 ∷ 8 ∷ []) λ h. remove_lines h u k v room
kind (Request.Import u k₁ v k₂ room) = record {
  grant = KeepNumbered;
  refusals = 3 ∷ 4 ∷ 6 ∷ 8 ∷ 9 ∷ 16 ∷ 10 ∷ [];
  lines = λ rule h. import_lines rule h u k₁ v k₂ room;
  compared = λ rule h. importing rule (script h k₂) (script h k₁);
}
kind (Request.Merge u k v room) = unlabelled Keep (3 ∷ 4 ∷ 6 ∷ 8 ∷ []) λ h. merge_lines h u k v room
kind (Request.Disband u room) = unlabelled Keep (3 ∷ 4 ∷ 6 ∷ []) λ h. disband_lines h u room
kind (Request.MakeLead u w room) = unlabelled Keep (3 ∷ 4 ∷ 6 ∷ 7 ∷ 8 ∷ []) λ h. make_lead_lines h u w room
kind (Request.EndLead u w room) = unlabelled Keep (3 ∷ 4 ∷ 6 ∷ 7 ∷ 8 ∷ []) λ h. end_lead_lines h u w room
kind (Request.OpenInRoom u s room level c) =
    labelled Keep (3 ∷ 4 ∷ 5 ∷ 8 ∷ 9 ∷ 16 ∷ []) (λ h. open_in_room_lines h u s room level c) λ h. opening (user h u) level c
kind (Request.OpenInHouse u s level c) = labelled Keep (3 ∷ 4 ∷ 5 ∷ 7 ∷ 9 ∷ 16 ∷ []) (λ h. open_in_house_lines h u s level c) λ h. opening (user h u) level c
kind (Request.OpenReadOnly u s level c) = labelled Keep (3 ∷ 4 ∷ 5 ∷ 9 ∷ 16 ∷ []) (λ h. open_read_only_lines h u s level c) λ h. opening (user h u) level c
kind (Request.Read s k v) = labelled Pass (3 ∷ 4 ∷ 8 ∷ 9 ∷ 16 ∷ []) (λ h. read_lines h s k v) λ h. reading (session h s) (script h k)
kind (Request.Update s k v) = labelled KeepNumbered (3 ∷ 4 ∷ 7 ∷ 8 ∷ 9 ∷ 16 ∷ 10 ∷ []) (λ h. update_lines h s k v) λ h. updating (session h s) (script h k)
kind (Request.Create s k) = unlabelled KeepNumbered (3 ∷ 4 ∷ 5 ∷ 7 ∷ 10 ∷ []) λ h. create_lines h s k
kind (Request.Kill u s) = unlabelled Keep (3 ∷ 4 ∷ 6 ∷ []) λ h. kill_lines h u s
kind (Request.TakeBack u) = unlabelled Grant.TakeBack (3 ∷ 4 ∷ 6 ∷ []) λ h. take_back_lines h u

abbrev pub lines_of : Rule → House → Request → List Line
lines_of rule h q = (kind q).lines rule h

abbrev pub grant_of : Request → Grant
grant_of q = (kind q).grant

abbrev pub refusals : Request → List ℕ
refusals q = (kind q).refusals

abbrev pub compared : Rule → House → Request → Parts
compared rule h q = (kind q).compared rule h

-- the ruling: the grant where all holds, and else the refusal, with its reason
abbrev pub grant_if : Grant → Result (Unit {0}) Reason → Result Grant Reason
grant_if grant (Ok x) = Ok grant
grant_if grant (Err r) = Err r

unfoldable pub ruling_of : Rule → House → Request → Result Grant Reason
ruling_of rule h q = grant_if (grant_of q) (asked (lines_of rule h q))
