-- What a reason says is true of the present records: for each kind, line by line.
use Rattle.std.specs.Prelude.{Option, Some, None, Err}
use Prim.Native.Nat.{ℕ}
use mathlib.Core.Path.{◌≡◌, refl, sym, ◌∙◌}
use mathlib.Core.Bool.{Bool, true, false, not, ◌&&◌, ◌||◌}
use mathlib.Core.List.{List, [], ◌∷◌, ◌++◌}
use borrow.Author.Tests.{not-true, not-false, eqb-true, leb-false, ltb-true, ltb-false}
use native.Mathlib.Omega.{arith}
use lib.Dec.{eqb}
use Rattle.label.proofs.Dominance.{level_differs, categories_differ}
use Rattle.leads.specs.Leads.{lead_count}
use Rattle.records.specs.House.{House, house, staff, user, script, session, draft_at}
use Rattle.records.specs.Lookups.{find_draft, draft}
use Rattle.records.proofs.Lookups.{found_draft, found_is, found_below, no_draft_lem}
use Rattle.conditions.specs.Conditions.{no_users, is_user, is_room, is_script, is_session, is_draft}
use Rattle.conditions.proofs.Labels.{level_alike}
use Rattle.fields.specs.Fields.{is_first}
use Rattle.records.specs.declared.Rule.{Rule}
use Rattle.request.specs.declared.Request.{Request}
use Rattle.reasons.specs.Reasons.{no_record, reason}
use Rattle.reasons.specs.Asking.{Line, ◌unless◌, ◌because◌, FirstFailing, here, later}
use Rattle.reasons.specs.Lines.{a_level}
use Rattle.reasons.specs.Shared.{pair_numbers, pair_led, draft_led, opens, covers, as_script, imports, draft_asked}
use Rattle.reasons.specs.Told.{Live, Told, over63, over16, under1, over7, no_sort, no_yes_no, not_plain, no_user, no_room, no_script, no_session, no_draft, user_is, room_is, session_is, script_is, not_first, no_admin, leads_not, ends_not, no_staff, staff_is, no_freelancer, reads_only, in_already, not_in, leads_already, no_lead, only_lead, not_among, is_among, unseen, not_seated, other_origin, level_above, categories_more, level_under, categories_lack, level_other, categories_other, level_unlike, categories_unlike, level_below, categories_fewer, full}
use Rattle.reasons.specs.declared.Reason.{Reason}
use Rattle.judge.specs.Kinds.{enrol_numbers, enrol_where, establish_lines, import_numbers, import_exists, import_lines, disband_lines, create_lines, kill_lines, take_back_lines, enrol_lines, lines_of, ruling_of}
use Rattle.judge.proofs.Order.{refused_exactly}

-- ---- P holds of the reason of each line, where its fact fails and those before it hold
abbrev pub Sound : (Reason → Type 0) → List Line → Type 0
Sound P [] = Unit {0}
Sound P (n unless b because d ∷ ls) = (b ≡ false → P (reason n d)) × (b ≡ true → Sound P ls)

of_first : (P : Reason → Type 0) {r : Reason} {ls : List Line} → Sound P ls → FirstFailing r ls → P r
of_first P s (here e q) = rw q (s.0 e)
of_first P s (later e f) = of_first P (s.1 e) f

-- ---- what a fact tells
or_false : (a b : Bool) → (a || b) ≡ false → (a ≡ false) × (b ≡ false)
or_false true b e = (e, cc)
or_false false b e = (refl, e)

or_right : (a b : Bool) → (a || b) ≡ true → a ≡ false → b ≡ true
or_right true b e f = cc
or_right false b e f = e

and_left : (a b : Bool) → (a && b) ≡ true → a ≡ true
and_left true b e = refl
and_left false b e = e

-- where something differs, it is not equal
other : (a b : ℕ) {differ : Bool} → differ ≡ not (eqb a b) → not differ ≡ false → eqb a b ≡ false
other a b {differ} p e = not-true (eqb a b) (sym p ∙ not-false differ e)

-- a draft that must exist is one of the live ones
live : (h : House) (k v : ℕ) → is_draft h k v ≡ true → Live h v (draft h k v)
live h k v t = go (find_draft h k v) refl
  where
    go : (x : Option ℕ) → find_draft h k v ≡ x → Live h v (draft h k v)
    go None e = absurd (let z : ◌≡◌ {A = Bool} true false = sym t ∙ no_draft_lem h k v e in let y : ◌≡◌ {A = ℕ} 0 1 = cc in omega arith)
    go (Some i) e = record {
      place = i;
      below = found_below h k v i e;
      stands = sym (found_draft h k v i e);
      numbered = rw (found_draft h k v i e) (eqb-true (draft_at h i).number v (and_left (eqb (draft_at h i).number v) _ (found_is h k v i e)));
    }

-- ---- the kinds
module _ (rule : Rule) (h : House) where
  of_the_first : (field wanted : ℕ) → is_first (no_users h) field wanted ≡ false → Told rule h (reason 6 (no_record field wanted))
  of_the_first field wanted e = not_first field wanted (not-false _ (or_false (not (no_users h)) _ e).0) (or_false (not (no_users h)) _ e).1

  sound_enrol : (u new sort level c admin : ℕ) → Sound (Told rule h) (enrol_lines h u new sort level c admin)
  unfolding enrol_numbers enrol_where
  sound_enrol u new sort level c admin =
      (over63 u, λ _. (over63 new, λ _. (over7 level, λ _. (no_sort sort, λ _. (no_yes_no admin, λ _. (not_plain sort level, λ _. (not_plain sort c, λ _. (not_plain sort admin, λ _. (λ e. no_user u (or_false (no_users h) _ e).1, λ a. (λ e. user_is new (not-false _ e), λ _. (of_the_first u new, λ _. (of_the_first sort staff, λ _. (of_the_first admin 1, λ _. (λ e. no_admin u (or_right (no_users h) _ a (or_false (no_users h) _ e).0) (or_false (no_users h) _ e).1, λ _. tt))))))))))))))

  -- what kinds have in common, and then what is their own
  sound_found : (u w room : ℕ) (own : List Line) → (is_user h w ≡ true → is_room h room ≡ true → Sound (Told rule h) own) → Sound (Told rule h) (pair_led h u w room ++ own)
  unfolding pair_led
  sound_found u w room own s = (no_user u, λ a. (no_user w, λ b. (no_room room, λ r. (leads_not u room a, λ _. s b r))))

  sound_pair : (u w room : ℕ) (own : List Line) → (is_user h w ≡ true → is_room h room ≡ true → Sound (Told rule h) own) → Sound (Told rule h) (pair_numbers u w room ++ pair_led h u w room ++ own)
  unfolding pair_numbers
  sound_pair u w room own s = (over63 u, λ _. (over63 w, λ _. (over16 room, λ _. (under1 room, λ _. sound_found u w room own s))))

  sound_outsider : (u w room level : ℕ) (own : List Line) → (is_user h w ≡ true → is_room h room ≡ true → Sound (Told rule h) own) → Sound (Told rule h) (pair_numbers u w room ++ (a_level level ∷ []) ++ pair_led h u w room ++ own)
  unfolding pair_numbers
  sound_outsider u w room level own s = (over63 u, λ _. (over63 w, λ _. (over16 room, λ _. (under1 room, λ _. (over7 level, λ _. sound_found u w room own s)))))

  sound_led : (u k v room : ℕ) (own : List Line) → (is_script h k ≡ true → Live h v (draft h k v) → Sound (Told rule h) own) → Sound (Told rule h) (draft_led h u k v room ++ own)
  unfolding pair_numbers draft_led
  sound_led u k v room own s = (over63 u, λ _. (over63 k, λ _. (over16 room, λ _. (under1 room, λ _. (no_user u, λ a. (no_room room, λ _. (no_script k, λ t. (no_draft k v, λ d. (leads_not u room a, λ _. s t (live h k v d))))))))))

  sound_opens : (u level c : ℕ) → is_user h u ≡ true → Sound (Told rule h) (opens h u level c)
  unfolding opens
  sound_opens u level c a = (
    λ e. level_above u level a (ltb-true (user h u).level level (not-false _ e)),
    λ t. (λ e. categories_more u c a (not-true _ (not-false _ e)), λ _. tt),
  )

  sound_covers : (s k : ℕ) → is_session h s ≡ true → is_script h k ≡ true → Sound (Told rule h) (covers h s k)
  unfolding covers
  sound_covers s k b a = (
    λ e. level_under s k b a (ltb-true (session h s).level (script h k).level (not-false _ e)),
    λ t. (λ e. categories_lack s k b a (ltb-false (session h s).level (script h k).level (not-true _ t)) (not-true _ (not-false _ e)), λ _. tt),
  )

  sound_as_script : (s k : ℕ) (own : List Line) → is_session h s ≡ true → is_script h k ≡ true → Sound (Told rule h) own → Sound (Told rule h) (as_script h s k ++ own)
  unfolding as_script
  sound_as_script s k own b a rest =
      let x = session h s in
      let y = script h k in (
        λ e. level_other s k b a (other x.level y.level (level_differs x.place x.level x.categories y.origin y.level y.categories) e),
        λ t. (
          λ e. categories_other s k b a ((level_alike x.place x.level x.categories y.origin y.level y.categories).says t)
              (other x.categories y.categories (categories_differ x.place x.level x.categories y.origin y.level y.categories) e),
          λ _. rest,
        ),
      )

  -- what Import asks under the rule r, which is the desk's
  sound_imports : (r : Rule) → rule ≡ r → (k₁ k₂ : ℕ) (own : List Line) → is_script h k₁ ≡ true → is_script h k₂ ≡ true → Sound (Told rule h) own
      → Sound (Told rule h) (imports r h k₁ k₂ ++ own)
  unfolding imports
  sound_imports Rule.One is k₁ k₂ own s t rest =
      let x = script h k₂ in
      let y = script h k₁ in (
        λ e. level_unlike k₁ k₂ is s t (other x.level y.level (level_differs x.origin x.level x.categories y.origin y.level y.categories) e),
        λ f. (
          λ e. categories_unlike k₁ k₂ is s t ((level_alike x.origin x.level x.categories y.origin y.level y.categories).says f)
              (other x.categories y.categories (categories_differ x.origin x.level x.categories y.origin y.level y.categories) e),
          λ _. rest,
        ),
      )
  sound_imports Rule.Two is k₁ k₂ own s t rest = (
    λ e. level_below k₁ k₂ is s t (ltb-true (script h k₂).level (script h k₁).level (not-false _ e)),
    λ f. (
      λ e. categories_fewer k₁ k₂ is s t (ltb-false (script h k₂).level (script h k₁).level (not-true _ f)) (not-true _ (not-false _ e)),
      λ _. rest,
    ),
  )

  sound_asked : (s k v : ℕ) (own : List Line) → (is_script h k ≡ true → is_session h s ≡ true → Live h v (draft h k v) → Sound (Told rule h) own) → Sound (Told rule h) (draft_asked h s k v ++ own)
  unfolding draft_asked
  sound_asked s k v own f = (over63 k, λ _. (over63 s, λ _. (no_script k, λ a. (no_session s, λ b. (no_draft k v, λ d. f a b (live h k v d))))))

  sound_lines : (q : Request) → Sound (Told rule h) (lines_of rule h q)
  unfolding pair_numbers establish_lines import_numbers import_exists import_lines disband_lines create_lines kill_lines take_back_lines
  sound_lines (Request.Enrol u new sort level c admin) = sound_enrol u new sort level c admin
  sound_lines (Request.Establish u room) = (over63 u, λ _. (over16 room, λ _. (under1 room, λ _. (no_user u, λ a. (λ e. room_is room (not-false _ e), λ _. (no_admin u a, λ _. tt))))))
  sound_lines (Request.JoinStaff u w room) = sound_pair u w room _ (λ b _. (no_staff w b, λ _. (λ e. in_already w room b (not-false _ e), λ _. tt)))
  sound_lines (Request.LeaveStaff u w room) = sound_pair u w room _ (λ b _. (no_staff w b, λ _. (not_in w room b, λ _. tt)))
  sound_lines (Request.JoinOutsider u w room level c) = sound_outsider u w room level _ (λ b _. (λ e. staff_is w b (not-false _ e), λ _. (λ e. in_already w room b (not-false _ e), λ _. tt)))
  sound_lines (Request.LeaveOutsider u w room) = sound_pair u w room _ (λ b _. (no_freelancer w b, λ _. (not_in w room b, λ _. tt)))
  sound_lines (Request.Add u k v room) = sound_led u k v room _ (λ _ l. (not_among v (draft h k v) house l, λ _. (λ e. is_among v (draft h k v) room l (not-false _ e), λ _. tt)))
  sound_lines (Request.Remove u k v room) = sound_led u k v room _ (λ _ l. (not_among v (draft h k v) room l, λ _. tt))
  sound_lines (Request.Import u k₁ v k₂ room) = (over63 u, λ _. (over63 k₁, λ _. (over63 k₂, λ _. (over16 room, λ _. (under1 room, λ _. (no_user u, λ a. (no_room room, λ _. (no_script k₁, λ s. (no_script k₂, λ t. (no_draft k₁ v, λ _. (leads_not u room a, λ _. (other_origin k₁ room s, λ _. (other_origin k₂ house t, λ _. sound_imports rule refl k₁ k₂ _ s t (full, λ _. tt))))))))))))))
  sound_lines (Request.Merge u k v room) = sound_led u k v room _ (λ t l. (not_among v (draft h k v) room l, λ _. (other_origin k house t, λ _. tt)))
  sound_lines (Request.Disband u room) = (over63 u, λ _. (over16 room, λ _. (under1 room, λ _. (no_user u, λ a. (no_room room, λ _. (leads_not u room a, λ _. tt))))))
  sound_lines (Request.MakeLead u w room) = sound_pair u w room _ (λ b _. (no_staff w b, λ _. (λ e. leads_already w room b (not-false _ e), λ _. tt)))
  sound_lines (Request.EndLead u w room) = sound_pair u w room _ (λ b r. (no_staff w b, λ _. (no_lead w room b, λ _. (λ e. only_lead room r (leb-false 2 (lead_count h room) e), λ _. tt))))
  sound_lines (Request.OpenInRoom u s room level c) = (over63 u, λ _. (over63 s, λ _. (over16 room, λ _. (under1 room, λ _. (over7 level, λ _. (no_user u, λ a. (no_room room, λ _. (λ e. session_is s (not-false _ e), λ _. (not_in u room a, λ _. sound_opens u level c a)))))))))
  sound_lines (Request.OpenInHouse u s level c) = (over63 u, λ _. (over63 s, λ _. (over7 level, λ _. (no_user u, λ a. (λ e. session_is s (not-false _ e), λ _. (no_staff u a, λ _. sound_opens u level c a))))))
  sound_lines (Request.OpenReadOnly u s level c) = (over63 u, λ _. (over63 s, λ _. (over7 level, λ _. (no_user u, λ a. (λ e. session_is s (not-false _ e), λ _. sound_opens u level c a)))))
  sound_lines (Request.Read s k v) = sound_asked s k v _ (λ a b l. (unseen s v (draft h k v) b l, λ _. sound_covers s k b a))
  sound_lines (Request.Update s k v) = sound_asked s k v _ (λ a b l. (reads_only s b, λ _. (not_seated s v (draft h k v) b l, λ _. sound_as_script s k _ b a (full, λ _. tt))))
  sound_lines (Request.Create s k) = (over63 k, λ _. (over63 s, λ _. (no_session s, λ b. (λ e. script_is k (not-false _ e), λ _. (reads_only s b, λ _. (full, λ _. tt))))))
  sound_lines (Request.Kill u s) = (over63 u, λ _. (over63 s, λ _. (no_user u, λ _. (no_session s, λ b. (ends_not u s b, λ _. tt)))))
  sound_lines (Request.TakeBack u) = (over63 u, λ _. (no_user u, λ a. (no_admin u a, λ _. tt)))

  -- "the condition named is false of those records": every reason is true of the present records
  pub first_told : (q : Request) (r : Reason) → FirstFailing r (lines_of rule h q) → Told rule h r
  first_told q r f = of_first (Told rule h) (sound_lines q) f

  pub reason_told : (q : Request) (r : Reason) → ruling_of rule h q ≡ Err r → Told rule h r
  reason_told q r e = first_told q r ((refused_exactly rule h q r).0 e)
