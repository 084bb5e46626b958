-- A number once seen never names another text: over any run from any records and last number that meet the record rules.
use Rattle.std.specs.Prelude.{Option, Some, None}
use Prim.Native.Nat.{ℕ, zero, suc, ◌+◌, ◌<◌}
use mathlib.Core.Path.{◌≡◌, refl, sym, ap, subst, ◌∙◌}
use mathlib.Core.Bool.{Bool, true, false, cond}
use mathlib.Core.List.{List, [], ◌∷◌, ◌++◌, map}
use mathlib.Core.Logic.{◌⊎◌, inl, inr}
use native.Mathlib.Omega.{arith}
use lib.ListN.{length, get_or, take}
use Rattle.request.specs.declared.Request.{Request}
use Rattle.request.proofs.Absurd.{differ}
use Rattle.records.specs.House.{House, house, no_draft, session, draft_at, put_draft, add_draft}
use Rattle.records.specs.Lookups.{find_draft, at_found, placed}
use Rattle.records.specs.Places.{only}
use Rattle.records.specs.declared.Draft.{Draft}
use Rattle.records.specs.declared.Rule.{Rule}
use Rattle.effects.specs.Elements.{draft_of, placed_at, unplaced}
use Rattle.effects.specs.Effects.{change_of, swept, less_one, effect, applied}
use Rattle.effects.specs.declared.Change.{Change}
use Rattle.judge.specs.Kinds.{grant_of}
use Rattle.judge.specs.declared.Grant.TheVariants.{KeepNumbered}
use Rattle.history.specs.Machine.{Desk, Outcome, opened, keep_change, step, run, answers}
use Rattle.history.specs.Desk.{desk_rules}
use Rattle.history.specs.declared.Answer.{Answer}
use Rattle.history.specs.declared.Answer.TheVariants.{Granted, Numbered, Refused}
use Rattle.rules.specs.Lists.{Each}
use Rattle.rules.specs.Rules.{rules}
use Rattle.promises.specs.Book.{numbers, Rising}
use Rattle.promises.specs.Events.{answers_from}
use Rattle.promises.specs.Seen.{Makes, by_import, by_update, by_create, request_no, answer_at, moment, OpenedWith, Making, before_opening, by_request, MadeIn, MadeBefore, SameText}
use Rattle.rules.proofs.Lists.{each_imp, each_at, each_anew, each_map, each_keep, each_more, each_take}
use Rattle.promises.proofs.Past.{Sound, sound_opened, now_holds, sound_more, sound_keep, sound_back}
use Rattle.promises.proofs.Demands.{rising}
use Rattle.promises.proofs.Numbers.{from_one_to_last, no_two_alike}
use Rattle.promises.proofs.Ways.{Way, by_rule, no_number, no_change, read, plain, with_number, back, way}

-- ---- each number is given at most once
above : (last : ℕ) (l : List Answer) → Rising last (numbers l) → (i m : ℕ) → answer_at l i ≡ Numbered m → last < m
above last [] r i m e = differ cc
above last (Granted ∷ l) r zero m e = differ cc
above last (Granted ∷ l) r (suc i) m e = above last l r i m e
above last (Refused n ∷ l) r zero m e = differ cc
above last (Refused n ∷ l) r (suc i) m e = above last l r i m e
above last (Numbered n ∷ l) r zero m e = let z : n ≡ m = cc in omega (arith, r.0)
above last (Numbered n ∷ l) r (suc i) m e = omega (arith, r.0, above n l r.1 i m e)

once_given : (last : ℕ) (l : List Answer) → Rising last (numbers l) → (i j m : ℕ) → answer_at l i ≡ Numbered m → answer_at l j ≡ Numbered m → i ≡ j
once_given last [] r i j m e f = differ cc
once_given last (Granted ∷ l) r zero j m e f = differ cc
once_given last (Granted ∷ l) r (suc i) zero m e f = differ cc
once_given last (Granted ∷ l) r (suc i) (suc j) m e f = ap suc (once_given last l r i j m e f)
once_given last (Refused n ∷ l) r zero j m e f = differ cc
once_given last (Refused n ∷ l) r (suc i) zero m e f = differ cc
once_given last (Refused n ∷ l) r (suc i) (suc j) m e f = ap suc (once_given last l r i j m e f)
once_given last (Numbered n ∷ l) r zero zero m e f = refl
once_given last (Numbered n ∷ l) r zero (suc j) m e f = let z : n ≡ m = cc in absurd (omega (arith, above n l r.1 j m f))
once_given last (Numbered n ∷ l) r (suc i) zero m e f = let z : n ≡ m = cc in absurd (omega (arith, above n l r.1 i m e))
once_given last (Numbered n ∷ l) r (suc i) (suc j) m e f = ap suc (once_given n l r.1 i j m e f)

-- two answers of a run with the same number are one answer
pub given_once : (rule : Rule) (h : House) (last : ℕ) (qs : List Request) (i j m : ℕ) → answer_at (answers_from rule h last qs) i ≡ Numbered m → answer_at (answers_from rule h last qs) j ≡ Numbered m
    → i ≡ j
given_once rule h last qs = once_given last (answers_from rule h last qs) (rising rule h last qs)

-- ---- the drafts after a change: those before it, by number and script, or the one that it makes
module _ (P : ℕ → ℕ → Type 0) where
  abbrev Of : Draft → Type 0
  Of d = P d.number d.script

  abbrev Drafts : House → Type 0
  Drafts h = Each Of h.drafts

  one_more : (h : House) (n s places : ℕ) → Drafts h → P n s → Drafts (add_draft h (draft_of n s places))
  one_more h n s places e p = each_take Of 256 (h.drafts ++ (draft_of n s places ∷ [])) (each_more Of h.drafts (draft_of n s places) e p)

  anew : (h : House) (f : Draft → Draft) → ((d : Draft) → Of d → Of (f d)) → (x : Option ℕ) → Drafts h → Drafts (at_found x (λ i. put_draft h i (f (draft_at h i))) h)
  anew h f k (Some i) e = each_anew Of f k no_draft h.drafts i e
  anew h f k None e = e

  less : (h : House) (room : ℕ) (x : Option ℕ) → Drafts h → Drafts (at_found x (λ i. less_one h i (unplaced room (draft_at h i))) h)
  less h room None e = e
  less h room (Some i) e = go (placed (unplaced room (draft_at h i))) (each_anew Of (unplaced room) (λ d p. p) no_draft h.drafts i e)
    where
      new : House
      new = put_draft h i (unplaced room (draft_at h i))

      go : (b : Bool) → Drafts new → Drafts (cond b new (swept new))
      go true d = d
      go false d = each_keep Of Of placed new.drafts (λ _ _ p. p) d

  drafts_after : (h : House) (n : ℕ) (q : Request) → Drafts h → ((s : ℕ) → Makes q s → P n s) → Drafts (effect h n q)
  drafts_after h n (Request.Enrol u new sort level c admin) e m = e
  drafts_after h n (Request.Establish u room) e m = e
  drafts_after h n (Request.JoinStaff u w room) e m = e
  drafts_after h n (Request.LeaveStaff u w room) e m = e
  drafts_after h n (Request.JoinOutsider u w room level c) e m = e
  drafts_after h n (Request.LeaveOutsider u w room) e m = e
  drafts_after h n (Request.Add u s v room) e m = anew h (placed_at room) (λ d p. p) (find_draft h s v) e
  drafts_after h n (Request.Remove u s v room) e m = less h room (find_draft h s v) e
  drafts_after h n (Request.Import u s₁ v s₂ room) e m = one_more h n s₂ (only house) e (m s₂ (by_import u s₁ v room refl))
  drafts_after h n (Request.Merge u s v room) e m = anew h (placed_at house) (λ d p. p) (find_draft h s v) e
  drafts_after h n (Request.Disband u room) e m =
      each_keep Of Of placed (map (unplaced room) h.drafts) (λ _ _ p. p) (each_map Of Of (unplaced room) h.drafts (λ _ p. p) e)
  drafts_after h n (Request.MakeLead u w room) e m = e
  drafts_after h n (Request.EndLead u w room) e m = e
  drafts_after h n (Request.OpenInRoom u x room level c) e m = e
  drafts_after h n (Request.OpenInHouse u x level c) e m = e
  drafts_after h n (Request.OpenReadOnly u x level c) e m = e
  drafts_after h n (Request.Read x s v) e m = e
  drafts_after h n (Request.Update x s v) e m = one_more h n s (only (session h x).place) e (m s (by_update x v refl))
  drafts_after h n (Request.Create x s) e m = one_more h n s (only (session h x).place) e (m s (by_create x refl))
  drafts_after h n (Request.Kill u x) e m = e
  drafts_after h n (Request.TakeBack u) e m = e

-- a request that makes a draft gets a number
makes_numbered : (q : Request) (s : ℕ) → Makes q s → grant_of q ≡ KeepNumbered
makes_numbered q s (by_import u s₁ v room e) = rw e
makes_numbered q s (by_update x v e) = rw e
makes_numbered q s (by_create x e) = rw e

-- ---- over a run, from a desk whose drafts are of P at every take-back
abbrev With : (ℕ → ℕ → Type 0) → Request → Answer → ℕ → ℕ → Type 0
With P q a n s = P n s ⊎ ((a ≡ Numbered n) × Makes q s)

step_seen : (rule : Rule) (P : ℕ → ℕ → Type 0) (d : Desk House Change) (q : Request) → Sound (desk_rules rule) (Drafts P) d
    → Sound (desk_rules rule) (Drafts (With P q (step (desk_rules rule) d q).answer)) (step (desk_rules rule) d q).desk
unfolding applied
step_seen rule P d q S = go (way rule d q)
  where
    P' : ℕ → ℕ → Type 0
    P' = With P q (step (desk_rules rule) d q).answer

    G' : House → Type 0
    G' = Drafts P'

    more : (h : House) → Drafts P h → G' h
    more h e = each_imp (Of P) (Of P') h.drafts (λ _ p. inl p) e

    so : {o : Outcome House Change} → step (desk_rules rule) d q ≡ o → Sound (desk_rules rule) G' o.desk → Sound (desk_rules rule) G' (step (desk_rules rule) d q).desk
    so e f = subst (λ (o : Outcome House Change). Sound (desk_rules rule) G' o.desk) (sym e) f

    same : Sound (desk_rules rule) G' d
    same = sound_more (desk_rules rule) (Drafts P) d S G' more

    keeps : (n last : ℕ) → ((s : ℕ) → Makes q s → P' n s) → Sound (desk_rules rule) G' (keep_change (desk_rules rule) d (change_of q n) last)
    keeps n last m =
        sound_keep (desk_rules rule) (Drafts P) d S G' more (change_of q n) last
        (drafts_after P' d.current n q (more d.current (now_holds (desk_rules rule) (Drafts P) d S)) m)

    go : Way rule d q (step (desk_rules rule) d q) → Sound (desk_rules rule) G' (step (desk_rules rule) d q).desk
    go (by_rule r e s) = so s same
    go (no_number a k l s) = so s same
    go (no_change a k l s) = so s same
    go (read a k s) = so s same
    go (plain a k s) = so s (keeps 0 d.last (λ x m. let z = makes_numbered q x m in differ cc))
    go (with_number a k l s) = so s (keeps (d.last + 1) (d.last + 1) (λ x m. inr (ap (λ (o : Outcome House Change). o.answer) s, m)))
    go (back a k n t) = sound_back (desk_rules rule) G' d same t

-- made by one of the requests qs at the desk d
record MadeFrom (rule : Rule) (d : Desk House Change) (qs : List Request) (n s : ℕ) : Type 0 where
  place : ℕ
  answered : answer_at (answers (desk_rules rule) d qs) place ≡ Numbered n
  for_script : Makes (request_no qs place) s

abbrev Since : Rule → (ℕ → ℕ → Type 0) → Desk House Change → List Request → ℕ → ℕ → Type 0
Since rule P d qs n s = P n s ⊎ MadeFrom rule d qs n s

run_seen : (rule : Rule) (P : ℕ → ℕ → Type 0) (d : Desk House Change) (qs : List Request) → Sound (desk_rules rule) (Drafts P) d
    → Sound (desk_rules rule) (Drafts (Since rule P d qs)) (run (desk_rules rule) d qs)
run_seen rule P d [] S = sound_more (desk_rules rule) (Drafts P) d S (Drafts (Since rule P d [])) (λ h e. each_imp (Of P) (Of (Since rule P d [])) h.drafts (λ _ p. inl p) e)
run_seen rule P d (q ∷ qs) S =
    sound_more (desk_rules rule) (Drafts (Since rule P' next qs)) (run (desk_rules rule) next qs) (run_seen rule P' next qs (step_seen rule P d q S)) (Drafts (Since rule P d (q ∷ qs)))
    (λ h e. each_imp (Of (Since rule P' next qs)) (Of (Since rule P d (q ∷ qs))) h.drafts (λ x k. earlier x.number x.script k) e)
  where
    next : Desk House Change
    next = (step (desk_rules rule) d q).desk

    P' : ℕ → ℕ → Type 0
    P' = With P q (step (desk_rules rule) d q).answer

    earlier : (n s : ℕ) → Since rule P' next qs n s → Since rule P d (q ∷ qs) n s
    earlier n s (inl (inl p)) = inl p
    earlier n s (inl (inr m)) = inr (record { place = 0; answered = m.0; for_script = m.1 })
    earlier n s (inr m) = inr (record { place = suc m.place; answered = m.answered; for_script = m.for_script })

-- ---- the first k requests of a run: what was answered and made there was so in the whole run
answered_before : (rule : Rule) (d : Desk House Change) (k : ℕ) (qs : List Request) (i v : ℕ) → answer_at (answers (desk_rules rule) d (take k qs)) i ≡ Numbered v
    → (i < k) × (answer_at (answers (desk_rules rule) d qs) i ≡ Numbered v)
answered_before rule d zero qs i v e = differ cc
answered_before rule d (suc k) [] i v e = differ cc
answered_before rule d (suc k) (q ∷ qs) zero v e = (omega arith, e)
answered_before rule d (suc k) (q ∷ qs) (suc i) v e =
    let m = answered_before rule (step (desk_rules rule) d q).desk k qs i v e in
    (omega (arith, m.0), m.1)

none_made : {A : Type 0} (u s : ℕ) → Makes (Request.TakeBack u) s → A
none_made u s (by_import v s₁ w room e) = differ cc
none_made u s (by_update x v e) = differ cc
none_made u s (by_create x e) = differ cc

makes_before : (k : ℕ) (qs : List Request) (i s : ℕ) → Makes (request_no (take k qs) i) s → Makes (request_no qs i) s
makes_before zero qs i s m = none_made 0 s m
makes_before (suc k) [] i s m = m
makes_before (suc k) (q ∷ qs) zero s m = m
makes_before (suc k) (q ∷ qs) (suc i) s m = makes_before k qs i s m

-- a request makes drafts of one script
one_script : (q : Request) (s t : ℕ) → Makes q s → Makes q t → s ≡ t
one_script q s t (by_import u s₁ v room e) (by_import u' s₁' v' room' f) = cc
one_script q s t (by_import u s₁ v room e) (by_update x v' f) = differ cc
one_script q s t (by_import u s₁ v room e) (by_create x f) = differ cc
one_script q s t (by_update x v e) (by_import u' s₁' v' room' f) = differ cc
one_script q s t (by_update x v e) (by_update x' v' f) = cc
one_script q s t (by_update x v e) (by_create x' f) = differ cc
one_script q s t (by_create x e) (by_import u' s₁' v' room' f) = differ cc
one_script q s t (by_create x e) (by_update x' v' f) = differ cc
one_script q s t (by_create x e) (by_create x' f) = cc

-- what holds at each place of a list holds of each
each_place : {A : Type 0} (P : A → Type 0) (d : A) (l : List A) → ((i : ℕ) → i < length l → P (get_or l i d)) → Each P l
each_place P d [] f = tt
each_place P d (x ∷ xs) f = (f 0 (omega arith), each_place P d xs (λ i k. f (suc i) (omega arith)))

module _ (rule : Rule) (h : House) (last : ℕ) (meets : rules h last ≡ true) (qs : List Request) where
  -- no request is ever answered with the number of a draft that the desk opened with
  pub not_given_again : (v s j : ℕ) → OpenedWith h v s → answer_at (answers_from rule h last qs) j ≡ Numbered v → ⊥
  not_given_again v s j o e =
      let low = (from_one_to_last h last meets o.place o.live).up_to in
      absurd (omega (arith, low, o.has_number, above last (answers_from rule h last qs) (rising rule h last qs) j v e))

  -- every draft live at any moment was there at the opening, or was made by the one request that was answered with its number; it is of that script still
  pub live_made : (k : ℕ) → Each (MadeBefore rule h last qs k) (moment rule h last qs k).drafts
  live_made k =
      each_imp (Of from) (MadeBefore rule h last qs k) (moment rule h last qs k).drafts (λ d m. told d m)
      (now_holds (desk_rules rule) (Drafts from) (run (desk_rules rule) (opened h last) (take k qs))
      (run_seen rule (OpenedWith h) (opened h last) (take k qs) (sound_opened (desk_rules rule) (Drafts (OpenedWith h)) h last there)))
    where
      from : ℕ → ℕ → Type 0
      from = Since rule (OpenedWith h) (opened h last) (take k qs)

      there : Drafts (OpenedWith h) h
      there = each_place (Of (OpenedWith h)) no_draft h.drafts (λ i l. record { place = i; live = l; has_number = refl; of_script = refl })

      told : (d : Draft) → Of from d → MadeBefore rule h last qs k d
      told d (inl o) = record { making = before_opening; before = tt; made = o; alone = λ j e. absurd (not_given_again d.number d.script j o e) }
      told d (inr m) =
          let b = answered_before rule (opened h last) k qs m.place d.number m.answered in
          record {
            making = by_request m.place;
            before = b.0;
            made = record { answered = b.1; for_script = makes_before k qs m.place d.script m.for_script };
            alone = λ j e. ap by_request (given_once rule h last qs j m.place d.number e b.1);
          }

  -- a number names one text, wherever it was made
  one_text : (c d : Draft) → c.number ≡ d.number → (m : Making) → MadeIn rule h last qs c.number c.script m → MadeIn rule h last qs d.number d.script m
      → c.script ≡ d.script
  one_text c d e before_opening one other =
      let same = no_two_alike h last meets one.place other.place one.live other.live (one.has_number ∙ e ∙ sym other.has_number) in
      sym one.of_script ∙ ap (λ (i : ℕ). (draft_at h i).script) same ∙ other.of_script
  one_text c d e (by_request i) one other = one_script (request_no qs i) c.script d.script one.for_script other.for_script

  -- so a number live at two moments names a draft of the same script and the same making
  pub same_text : (k l i j : ℕ) → i < length (moment rule h last qs k).drafts → j < length (moment rule h last qs l).drafts
      → (draft_at (moment rule h last qs k) i).number ≡ (draft_at (moment rule h last qs l) j).number → SameText rule h last qs (draft_at (moment rule h last qs k) i) (draft_at (moment rule h last qs l) j)
  same_text k l i j p q e =
      together (each_at (MadeBefore rule h last qs k) (moment rule h last qs k).drafts no_draft i p (live_made k))
      (each_at (MadeBefore rule h last qs l) (moment rule h last qs l).drafts no_draft j q (live_made l))
    where
      c : Draft
      c = draft_at (moment rule h last qs k) i

      d : Draft
      d = draft_at (moment rule h last qs l) j

      together : MadeBefore rule h last qs k c → MadeBefore rule h last qs l d → SameText rule h last qs c d
      together a b = go a.making refl b.making refl
        where
          one_making : a.making ≡ b.making → SameText rule h last qs c d
          one_making same =
              let other = subst (MadeIn rule h last qs d.number d.script) (sym same) b.made in
              record { making = a.making; one = a.made; other = other; same_script = one_text c d e a.making a.made other }

          made_as : {x y : Making} → x ≡ y → (v s : ℕ) → MadeIn rule h last qs v s x → MadeIn rule h last qs v s y
          made_as z v s m = subst (MadeIn rule h last qs v s) z m

          go : (x : Making) → a.making ≡ x → (y : Making) → b.making ≡ y → SameText rule h last qs c d
          go before_opening u before_opening w = one_making (u ∙ sym w)
          go x u (by_request n) w = one_making (sym (a.alone n ((made_as w d.number d.script b.made).answered ∙ ap Numbered (sym e))) ∙ sym w)
          go (by_request n) u before_opening w = one_making (u ∙ b.alone n ((made_as u c.number c.script a.made).answered ∙ ap Numbered e))
