-- Places and drafts more: Add, Merge, Import, Update and Create keep the record rules.
use Rattle.std.specs.Prelude.{Option, Some, None}
use Prim.Native.Nat.{ℕ, ◌+◌, ◌≤◌, ◌<◌}
use mathlib.Core.Path.{◌≡◌, refl, sym, ap, ◌∙◌, subst}
use mathlib.Core.Bool.{true, false}
use mathlib.Core.List.{List, [], ◌∷◌, ◌++◌}
use mathlib.Core.Logic.{◌⊎◌, inl, inr}
use native.Mathlib.Omega.{arith}
use native.Mathlib.Decide.{ℕ_discrete}
use lib.Dec.{eqb}
use lib.ListN.{length, take, get_or, set, length-set, length-append}
use lib.Seq.{take_all}
use borrow.Author.Tests.{eqb-true, eq-eqb}
use Rattle.records.specs.Lists.{any}
use Rattle.records.specs.Places.{has, with, only}
use Rattle.records.specs.House.{House, no_script, no_draft, house, script, session, draft_at, with_drafts, put_script, put_draft, add_draft}
use Rattle.records.specs.Lookups.{draft_is, find_draft, at_found, draft, of_script}
use Rattle.records.specs.declared.Script.{Script}
use Rattle.records.specs.declared.Draft.{Draft}
use Rattle.records.proofs.Lookups.{found_draft, found_is, found_below, no_draft_lem}
use Rattle.effects.specs.Elements.{created_by, draft_of, placed_at}
use Rattle.effects.specs.Effects.{on_draft}
use Rattle.rules.specs.Facts.{Among, Place, HousePlaces, with_house, one_room, DraftFine, Filed, ScriptFine, Texts, Rules}
use Rattle.rules.specs.Lists.{Each}
use Rattle.rules.proofs.Bools.{clash, right}
use Rattle.rules.proofs.Lists.{at_set, each_imp, each_at, each_set, each_more, any_more, any_last, any_set}
use Rattle.rules.proofs.Sets.{some, with_new, with_old, with_among, only_itself, only_one, room_number}
use Rattle.promises.proofs.Parts.{place_house, place_room, place_cases, place_small}
use Rattle.promises.proofs.Drafts.{ascending_set, ascending_more}

module _ (h : House) (last : ℕ) (R : Rules h last) where
  pub small_place : (p : ℕ) → Place h.rooms p → p ≤ 31
  small_place p k = omega (arith, place_small h.rooms p R.people.numbers k)

  pub small_origin : (s : ℕ) → (script h s).here ≡ true → (script h s).origin ≤ 31
  small_origin s k = small_place (script h s).origin ((R.texts.each s).origin_there k)

  -- ---- the draft v of script s, which stands in place i
  pub record Draft-at (s v i : ℕ) : Type 0 where
    pub of_script : (draft_at h i).script ≡ s
    pub fine : DraftFine h.rooms (script h (draft_at h i).script) (draft_at h i)

  pub draft_at_lem : (s v i : ℕ) → find_draft h s v ≡ Some i → Draft-at s v i
  draft_at_lem s v i e =
      let d = draft_at h i in
      let b = found_below h s v i e in
      record {
        of_script = eqb-true d.script s (right (eqb d.number v) (eqb d.script s) (found_is h s v i e));
        fine = each_at (Filed h.rooms h.scripts) h.drafts no_draft i b R.texts.filed;
      }

  -- ---- a draft anew, of the same number and script
  pub put_draft_lem : (i : ℕ) (d : Draft) → d.number ≡ (draft_at h i).number → d.script ≡ (draft_at h i).script → DraftFine h.rooms (script h d.script) d
      → Rules (put_draft h i d) last
  put_draft_lem i d n s f = record {
    people = R.people;
    seats = R.seats;
    texts = record {
      size = R.texts.size;
      each = R.texts.each;
      drafted = λ j k. any_set (of_script j) h.drafts no_draft i d (rw s) ∙ R.texts.drafted j k;
      filed = each_set (Filed h.rooms h.scripts) h.drafts i d f R.texts.filed;
      ascending = ascending_set _ last h.drafts i d n R.texts.ascending;
      at_most = rw (length-set h.drafts i d) R.texts.at_most;
    };
    counter = R.counter;
  }

  -- ---- a place more: the draft is a house script's, and has the house among its places then
  place_fine : (p : ℕ) (s : Script) (d : Draft) → Place h.rooms p → s.origin ≡ house → has (with d.places p) house ≡ true
      → DraftFine h.rooms s d → DraftFine h.rooms s (placed_at p d)
  place_fine p s d there of_house at-house f = record {
    script_there = f.script_there;
    places_there = with_among d.places p (small_place p there) (with h.rooms house) there f.places_there;
    some_place = some (with d.places p) house at-house;
    room_script = λ n. absurd (n of_house);
    house_script = λ _. with_house at-house;
  }

  abbrev Ready : ℕ → ℕ → Type 0
  Ready p i = ((script h (draft_at h i).script).origin ≡ house) × (has (with (draft_at h i).places p) house ≡ true)

  place_more : (s v p : ℕ) → Place h.rooms p → ((i : ℕ) → find_draft h s v ≡ Some i → Draft-at s v i → Ready p i)
      → Rules (on_draft h s v (placed_at p)) last
  place_more s v p there ok = go (find_draft h s v) refl
    where
      go : (x : Option ℕ) → find_draft h s v ≡ x → Rules (at_found x (λ i. put_draft h i (placed_at p (draft_at h i))) h) last
      go (Some i) e =
          let d = draft_at_lem s v i e in
          let k = ok i e d in
          put_draft_lem i (placed_at p (draft_at h i)) refl refl (place_fine p (script h (draft_at h i).script) (draft_at h i) there k.0 k.1 d.fine)
      go None e = R

  -- ---- 07 Add: a draft with the house among its places is a house script's
  pub add : (s v room : ℕ) → has h.rooms room ≡ true → has (draft h s v).places house ≡ true → Rules (on_draft h s v (placed_at room)) last
  add s v room there k = place_more s v room (place_room h.rooms room there) ok
    where
      of_house : (i : ℕ) → has (draft_at h i).places house ≡ true → DraftFine h.rooms (script h (draft_at h i).script) (draft_at h i)
          → Dec ((script h (draft_at h i).script).origin ≡ house) → (script h (draft_at h i).script).origin ≡ house
      of_house i z f (yes e) = e
      of_house i z f (no n) =
          let o = (script h (draft_at h i).script).origin in
          sym (only_one o house (small_origin (draft_at h i).script f.script_there) (rw (f.room_script n) at z))

      ok : (i : ℕ) → find_draft h s v ≡ Some i → Draft-at s v i → Ready room i
      ok i e d =
          let z : has (draft_at h i).places house ≡ true = rw (found_draft h s v i e) at k in (
            of_house i z d.fine (ℕ_discrete (script h (draft_at h i).script).origin house),
            with_old (draft_at h i).places room (small_place room (place_room h.rooms room there)) house z,
          )

  -- ---- 0A Merge
  pub merge : (s v : ℕ) → (script h s).origin ≡ house → Rules (on_draft h s v (placed_at house)) last
  merge s v k = place_more s v house (place_house h.rooms) (λ i e d. (rw d.of_script k, with_new (draft_at h i).places house (omega arith)))

  -- ---- a draft more
  module _ (room-left : length h.drafts < 256) (number_left : last < 4294967295) where
    texts_new : (ss : List Script) (x : Draft) → x.number ≡ last + 1 → length ss ≡ 64 → ((i : ℕ) → ScriptFine h.rooms (get_or ss i no_script))
        → ((i : ℕ) → (get_or ss i no_script).here ≡ true → any (of_script i) (h.drafts ++ (x ∷ [])) ≡ true)
        → Each (Filed h.rooms ss) h.drafts → Filed h.rooms ss x → Texts h.rooms x.number ss (h.drafts ++ (x ∷ []))
    texts_new ss x n size each drafted old new = record {
      size = size;
      each = each;
      drafted = drafted;
      filed = each_more (Filed h.rooms ss) h.drafts x old new;
      ascending = ascending_more _ last h.drafts x (omega arith) (omega arith) R.texts.ascending;
      at_most = omega (arith, length-append h.drafts (x ∷ []));
    }

    all_fit : (x : Draft) → ◌≡◌ {A = List Draft} (h.drafts ++ (x ∷ [])) (take 256 (h.drafts ++ (x ∷ [])))
    all_fit x = sym (take_all 256 (h.drafts ++ (x ∷ [])) (omega (arith, length-append h.drafts (x ∷ []))))

    new_draft : (s places : ℕ) → DraftFine h.rooms (script h s) (draft_of (last + 1) s places) → Rules (add_draft h (draft_of (last + 1) s places)) (last + 1)
    new_draft s places f =
        let x = draft_of (last + 1) s places in
        subst (λ (l : List Draft). Rules (with_drafts h l) (last + 1)) (all_fit x) (record {
          people = R.people;
          seats = R.seats;
          texts = texts_new h.scripts x refl R.texts.size R.texts.each
              (λ i k. any_more (of_script i) h.drafts x (R.texts.drafted i k)) R.texts.filed f;
          counter = omega arith;
        })

    -- ---- 09 Import
    pub imports : (s : ℕ) → (script h s).here ≡ true → (script h s).origin ≡ house → Rules (add_draft h (draft_of (last + 1) s (only house))) (last + 1)
    imports s there of_house = new_draft s (only house) (record {
      script_there = there;
      places_there = λ p k. rw (only_one house p (omega arith) k) (place_house h.rooms);
      some_place = some (only house) house (only_itself house (omega arith));
      room_script = λ n. absurd (n of_house);
      house_script = λ _. with_house (only_itself house (omega arith));
    })

    -- one place that is there
    one_there : (p : ℕ) → Place h.rooms p → Among (only p) (with h.rooms house)
    one_there p there q k = rw (only_one p q (small_place p there) k) there

    one_house : (p : ℕ) → Place h.rooms p → HousePlaces (only p)
    one_house p there = go (place_cases h.rooms p there)
      where
        go : (p ≡ house) ⊎ (has h.rooms p ≡ true) → HousePlaces (only p)
        go (inl e) = with_house (rw e (only_itself house (omega arith)))
        go (inr k) = one_room (record { room = p; number = room_number p (R.people.numbers p k); rule = refl })

    -- ---- 14 Update
    pub update : (x s v : ℕ) → any (draft_is s v) h.drafts ≡ true → has (draft h s v).places (session h x).place ≡ true
        → Rules (add_draft h (draft_of (last + 1) s (only (session h x).place))) (last + 1)
    update x s v found in-places = go (find_draft h s v) refl
      where
        place : ℕ
        place = (session h x).place

        go : (y : Option ℕ) → find_draft h s v ≡ y → Rules (add_draft h (draft_of (last + 1) s (only place))) (last + 1)
        go None e = clash found (no_draft_lem h s v e)
        go (Some i) e =
            let d = draft_at_lem s v i e in
            let f = subst (λ (n : ℕ). DraftFine h.rooms (script h n) (draft_at h i)) d.of_script d.fine in
            let among-them : has (draft_at h i).places place ≡ true = rw (found_draft h s v i e) at in-places in
            let there : Place h.rooms place = f.places_there place among-them in
            new_draft s (only place) (record {
              script_there = f.script_there;
              places_there = one_there place there;
              some_place = some (only place) place (only_itself place (small_place place there));
              room_script = λ n. ap only (only_one (script h s).origin place (small_origin s f.script_there) (rw (f.room_script n) at among-them));
              house_script = λ _. one_house place there;
            })

    -- ---- 15 Create
    pub create : (x s : ℕ) → s < 64 → (script h s).here ≡ false → (session h x).writes ≡ true
        → Rules (add_draft (put_script h s (created_by (session h x))) (draft_of (last + 1) s (only (session h x).place))) (last + 1)
    create x s small free writes =
        subst (λ (l : List Draft). Rules (with_drafts (put_script h s new) l) (last + 1)) (all_fit first) (record {
          people = R.people;
          seats = R.seats;
          texts = texts_new (set h.scripts s new) first refl (length-set h.scripts s new ∙ R.texts.size)
              (λ i. at_set no_script (ScriptFine h.rooms) h.scripts s new i fits (λ _. made) (λ _. R.texts.each i))
              (λ i. at_set no_script (λ y. y.here ≡ true → any (of_script i) (h.drafts ++ (first ∷ [])) ≡ true) h.scripts s new i fits
              (λ e _. any_last (of_script i) h.drafts first (eq-eqb s i (sym e))) (λ _ k. any_more (of_script i) h.drafts first (R.texts.drafted i k)))
              (each_imp (Filed h.rooms h.scripts) (Filed h.rooms (set h.scripts s new)) h.drafts
              (λ d f. at_set no_script (λ y. DraftFine h.rooms y d) h.scripts s new d.script fits (λ e. clash f.script_there (rw e free)) (λ _. f))
              R.texts.filed)
              (at_set no_script (λ y. DraftFine h.rooms y first) h.scripts s new s fits (λ _. filed) (λ n. absurd (n refl)));
          counter = omega arith;
        })
      where
        new : Script
        new = created_by (session h x)

        place : ℕ
        place = (session h x).place

        first : Draft
        first = draft_of (last + 1) s (only place)

        fits : s < length h.scripts
        fits = rw R.texts.size small

        there : Place h.rooms place
        there = ((R.seats.each x).writing writes).place_there

        made : ScriptFine h.rooms new
        made = record { absent = λ k. clash refl k; label = (R.seats.each x).label; origin_there = λ _. there }

        filed : DraftFine h.rooms new first
        filed = record {
          script_there = refl;
          places_there = one_there place there;
          some_place = some (only place) place (only_itself place (small_place place there));
          room_script = λ _. refl;
          house_script = λ _. one_house place there;
        }
