-- What a reason says of the present records, a case for each line: a record that is named is there, the first value is what it holds, and the condition,
-- which asks the second value of it, is false. 02, L7: "the condition named is false of those records".
use Rattle.std.specs.Prelude.{ℕ, ◌<◌, ◌≤◌, ◌≡◌, true, false, eqb, length}
use Rattle.label.specs.Labels.{contains}
use Rattle.records.specs.Places.{only}
use Rattle.records.specs.House.{House, staff, freelancer, outsider, as_number, user, script, session, draft_at}
use Rattle.records.specs.declared.Draft.{Draft}
use Rattle.records.specs.declared.Rule.{Rule}
use Rattle.leads.specs.Leads.{lead_count}
use Rattle.fields.specs.Fields.{is_id, to_sixteen, from_one, is_level, is_sort, is_yes_no, is_plain}
use Rattle.conditions.specs.Conditions.{no_users, is_user, is_room, is_script, is_session, is_draft, leads, is_staff, is_freelancer, may_kill, is_in, is_at, is_seated, of_origin, sees, seen, draft_room}
use Rattle.reasons.specs.Reasons.{no_record, a_user, a_room, a_script, a_session, a_draft, reason}
use Rattle.reasons.specs.declared.Reason.{Reason}

-- d is a live draft, and its number is v
pub record Live (h : House) (v : ℕ) (d : Draft) : Type 0 where
  pub place : ℕ
  pub below : place < length h.drafts
  pub stands : draft_at h place ≡ d
  pub numbered : d.number ≡ v

-- of a desk under the rule
pub data Told (rule : Rule) (h : House) : Reason → Type 0 where
  -- 3
  over63 : (n : ℕ) → is_id n ≡ false → Told rule h (reason 3 (no_record n 63))
  over16 : (room : ℕ) → to_sixteen room ≡ false → Told rule h (reason 3 (no_record room 16))
  under1 : (room : ℕ) → from_one room ≡ false → Told rule h (reason 3 (no_record room 1))
  over7 : (level : ℕ) → is_level level ≡ false → Told rule h (reason 3 (no_record level 7))
  no_sort : (sort : ℕ) → is_sort sort ≡ false → Told rule h (reason 3 (no_record sort 0))
  no_yes_no : (admin : ℕ) → is_yes_no admin ≡ false → Told rule h (reason 3 (no_record admin 1))
  not_plain : (sort field : ℕ) → is_plain sort field ≡ false → Told rule h (reason 3 (no_record field 0))
  -- 4
  no_user : (u : ℕ) → is_user h u ≡ false → Told rule h (reason 4 (no_record u 0))
  no_room : (room : ℕ) → is_room h room ≡ false → Told rule h (reason 4 (no_record room 0))
  no_script : (k : ℕ) → is_script h k ≡ false → Told rule h (reason 4 (no_record k 0))
  no_session : (s : ℕ) → is_session h s ≡ false → Told rule h (reason 4 (no_record s 0))
  no_draft : (k v : ℕ) → is_draft h k v ≡ false → Told rule h (reason 4 (no_record v 0))
  -- 5
  user_is : (u : ℕ) → is_user h u ≡ true → Told rule h (reason 5 (a_user u u u))
  room_is : (room : ℕ) → is_room h room ≡ true → Told rule h (reason 5 (a_room room room room))
  session_is : (s : ℕ) → is_session h s ≡ true → Told rule h (reason 5 (a_session s s s))
  script_is : (k : ℕ) → is_script h k ≡ true → Told rule h (reason 5 (a_script k k k))
  -- 6
  not_first : (field wanted : ℕ) → no_users h ≡ true → eqb field wanted ≡ false → Told rule h (reason 6 (no_record field wanted))
  no_admin : (u : ℕ) → is_user h u ≡ true → (user h u).admin ≡ false → Told rule h (reason 6 (a_user u (as_number (user h u).admin) 1))
  leads_not : (u room : ℕ) → is_user h u ≡ true → leads (user h u) room ≡ false → Told rule h (reason 6 (a_user u (user h u).leads (only room)))
  ends_not : (u s : ℕ) → is_session h s ≡ true → may_kill (user h u) u (session h s) ≡ false → Told rule h (reason 6 (a_session s (session h s).owner u))
  -- 7
  no_staff : (w : ℕ) → is_user h w ≡ true → is_staff (user h w) ≡ false → Told rule h (reason 7 (a_user w (user h w).sort staff))
  staff_is : (w : ℕ) → is_user h w ≡ true → is_staff (user h w) ≡ true → Told rule h (reason 7 (a_user w (user h w).sort outsider))
  no_freelancer : (w : ℕ) → is_user h w ≡ true → is_freelancer (user h w) ≡ false → Told rule h (reason 7 (a_user w (user h w).sort freelancer))
  reads_only : (s : ℕ) → is_session h s ≡ true → (session h s).writes ≡ false → Told rule h (reason 7 (a_session s (as_number (session h s).writes) 1))
  -- 8
  in_already : (w room : ℕ) → is_user h w ≡ true → is_in (user h w) room ≡ true → Told rule h (reason 8 (a_user w (user h w).rooms (only room)))
  not_in : (w room : ℕ) → is_user h w ≡ true → is_in (user h w) room ≡ false → Told rule h (reason 8 (a_user w (user h w).rooms (only room)))
  leads_already : (w room : ℕ) → is_user h w ≡ true → leads (user h w) room ≡ true → Told rule h (reason 8 (a_user w (user h w).leads (only room)))
  no_lead : (w room : ℕ) → is_user h w ≡ true → leads (user h w) room ≡ false → Told rule h (reason 8 (a_user w (user h w).leads (only room)))
  only_lead : (room : ℕ) → is_room h room ≡ true → lead_count h room < 2 → Told rule h (reason 8 (a_room room (lead_count h room) 2))
  not_among : (v : ℕ) (d : Draft) (place : ℕ) → Live h v d → is_at d place ≡ false → Told rule h (reason 8 (a_draft v d.places (only place)))
  is_among : (v : ℕ) (d : Draft) (place : ℕ) → Live h v d → is_at d place ≡ true → Told rule h (reason 8 (a_draft v d.places (only place)))
  unseen : (s v : ℕ) (d : Draft) → is_session h s ≡ true → Live h v d → sees (session h s) (user h (session h s).owner) d ≡ false
      → Told rule h (reason 8 (a_draft v d.places (seen (session h s) (user h (session h s).owner))))
  not_seated : (s v : ℕ) (d : Draft) → is_session h s ≡ true → Live h v d → is_seated (session h s) d ≡ false → Told rule h (reason 8 (a_draft v d.places (only (session h s).place)))
  other_origin : (k place : ℕ) → is_script h k ≡ true → of_origin (script h k) place ≡ false → Told rule h (reason 8 (a_script k (script h k).origin place))
  -- 9
  level_above : (u level : ℕ) → is_user h u ≡ true → (user h u).level < level → Told rule h (reason 9 (a_user u (user h u).level level))
  level_under : (s k : ℕ) → is_session h s ≡ true → is_script h k ≡ true → (session h s).level < (script h k).level
      → Told rule h (reason 9 (a_session s (session h s).level (script h k).level))
  level_other : (s k : ℕ) → is_session h s ≡ true → is_script h k ≡ true → eqb (session h s).level (script h k).level ≡ false
      → Told rule h (reason 9 (a_session s (session h s).level (script h k).level))
  level_unlike : (k₁ k₂ : ℕ) → rule ≡ Rule.One → is_script h k₁ ≡ true → is_script h k₂ ≡ true → eqb (script h k₂).level (script h k₁).level ≡ false
      → Told rule h (reason 9 (a_script k₂ (script h k₂).level (script h k₁).level))
  level_below : (k₁ k₂ : ℕ) → rule ≡ Rule.Two → is_script h k₁ ≡ true → is_script h k₂ ≡ true → (script h k₂).level < (script h k₁).level
      → Told rule h (reason 9 (a_script k₂ (script h k₂).level (script h k₁).level))
  -- 16: where both levels stand in the records, they are as they should be
  categories_more : (u c : ℕ) → is_user h u ≡ true → contains (user h u).categories c ≡ false → Told rule h (reason 16 (a_user u (user h u).categories c))
  categories_lack : (s k : ℕ) → is_session h s ≡ true → is_script h k ≡ true → (script h k).level ≤ (session h s).level
      → contains (session h s).categories (script h k).categories ≡ false
      → Told rule h (reason 16 (a_session s (session h s).categories (script h k).categories))
  categories_other : (s k : ℕ) → is_session h s ≡ true → is_script h k ≡ true → (session h s).level ≡ (script h k).level
      → eqb (session h s).categories (script h k).categories ≡ false
      → Told rule h (reason 16 (a_session s (session h s).categories (script h k).categories))
  categories_unlike : (k₁ k₂ : ℕ) → rule ≡ Rule.One → is_script h k₁ ≡ true → is_script h k₂ ≡ true → (script h k₂).level ≡ (script h k₁).level
      → eqb (script h k₂).categories (script h k₁).categories ≡ false
      → Told rule h (reason 16 (a_script k₂ (script h k₂).categories (script h k₁).categories))
  categories_fewer : (k₁ k₂ : ℕ) → rule ≡ Rule.Two → is_script h k₁ ≡ true → is_script h k₂ ≡ true → (script h k₁).level ≤ (script h k₂).level
      → contains (script h k₂).categories (script h k₁).categories ≡ false
      → Told rule h (reason 16 (a_script k₂ (script h k₂).categories (script h k₁).categories))
  -- 10
  full : draft_room h ≡ false → Told rule h (reason 10 (no_record (length h.drafts) 256))
