-- Places less: Remove and Disband keep the record rules, for "a draft that loses its last place is deleted, and a script that loses its last draft is deleted".
use Rattle.std.specs.Prelude.{Option, Some, None}
use Prim.Native.Nat.{ℕ, ◌≤◌}
use mathlib.Core.Path.{◌≡◌, refl, sym, ap, ◌∙◌, subst}
use mathlib.Core.Bool.{Bool, true, false, cond, not, ◌&&◌}
use mathlib.Core.List.{List, map}
use native.Mathlib.Omega.{arith}
use lib.ListN.{length, get_or, set, length-set, length-map}
use borrow.Author.Tests.{eq-eqb, ne_eqb}
use Rattle.records.specs.Lists.{any}
use Rattle.records.specs.Places.{has, without}
use Rattle.records.specs.House.{House, no_user, no_script, house, user, script, draft_at, put_draft}
use Rattle.records.specs.Lookups.{find_draft, at_found, of_script, placed}
use Rattle.records.specs.declared.User.{User}
use Rattle.records.specs.declared.Script.{Script}
use Rattle.records.specs.declared.Session.{Session}
use Rattle.records.specs.declared.Draft.{Draft}
use Rattle.records.proofs.Places.{without_zero, without_only}
use Rattle.sessions.specs.Sessions.{ends}
use Rattle.sessions.specs.declared.Ending.TheVariants.{OfRoom}
use Rattle.effects.specs.Elements.{parted, shuts, shut, unplaced}
use Rattle.effects.specs.Effects.{swept_drafts, deserted, swept_scripts, swept, less_one, removed, disbanded}
use Rattle.rules.specs.Facts.{RoomNumber, UserFine, People, SessionFine, Seated, HousePlaces, with_house, one_room, DraftFine, Filed, ScriptFine, Ascending, Texts, Rules}
use Rattle.rules.specs.Lists.{Each}
use Rattle.rules.proofs.Bools.{clash}
use Rattle.rules.proofs.Lists.{at_map, at_places, length_map_from, each_imp, each_both, each_set, each_map, each_keep, each_any, length_keep}
use Rattle.rules.proofs.Sets.{without_other, without_old, without_among, both_without, without_from_only}
use Rattle.rules.proofs.Meaning.{zero_fits}
use Rattle.promises.proofs.Parts.{place_move, led_move, admin_move, stays, session_stays, seats_end}
use Rattle.promises.proofs.Drafts.{ascending_keep, ascending_map, ascending_set}
use Rattle.promises.proofs.Texts.{small_origin, draft_at_lem, put_draft_lem}

none_fine : (rooms : ℕ) → ScriptFine rooms no_script
none_fine rooms = record { absent = λ _. refl; label = zero_fits; origin_there = λ k. clash k refl }

-- ---- scripts and drafts before the sweep: those drafts are fine that have a place
record Unswept (rooms last : ℕ) (ss : List Script) (ds : List Draft) : Type 0 where
  size : length ss ≡ 64
  each : (i : ℕ) → ScriptFine rooms (get_or ss i no_script)
  filed : Each (λ d. placed d ≡ true → Filed rooms ss d) ds
  ascending : Ascending 0 last ds
  at_most : length ds ≤ 256

module _ (rooms last : ℕ) (ss : List Script) (ds : List Draft) (U : Unswept rooms last ss ds) where
  abbrev after : ℕ → Script
  after i = get_or (swept_scripts (swept_drafts ds) ss) i no_script

  after_is : (i : ℕ) → after i ≡ deserted (swept_drafts ds) i (get_or ss i no_script)
  after_is i = at_places no_script (deserted (swept_drafts ds)) (λ k. refl) ss i

  script_fine : (s : Script) (b : Bool) → ScriptFine rooms s → ScriptFine rooms (cond b no_script s)
  script_fine s true f = none_fine rooms
  script_fine s false f = f

  -- a script that is there after has a draft, and one that has a draft stays
  script_drafted : (i : ℕ) → (after i).here ≡ true → any (of_script i) (swept_drafts ds) ≡ true
  script_drafted i k = go (get_or ss i no_script) (any (of_script i) (swept_drafts ds)) (rw (after_is i) at k)
    where
      go : (s : Script) (b : Bool) → (cond (s.here && not b) no_script s).here ≡ true → b ≡ true
      go s true h = refl
      go s false h = never s.here refl h
        where
          never : (c : Bool) → s.here ≡ c → (cond (c && true) no_script s).here ≡ true → false ≡ true
          never true e z = z
          never false e z = clash z e

  script_stays : (i : ℕ) → any (of_script i) (swept_drafts ds) ≡ true → after i ≡ get_or ss i no_script
  script_stays i k = after_is i ∙ rw k (go (get_or ss i no_script).here)
    where
      go : (b : Bool) → cond (b && false) no_script (get_or ss i no_script) ≡ get_or ss i no_script
      go true = refl
      go false = refl

  sweep : Texts rooms last (swept_scripts (swept_drafts ds) ss) (swept_drafts ds)
  sweep = record {
    size = length_map_from (deserted (swept_drafts ds)) 0 ss ∙ U.size;
    each = λ i.
        let s = get_or ss i no_script in
        subst (ScriptFine rooms) (sym (after_is i)) (script_fine s (s.here && not (any (of_script i) (swept_drafts ds))) (U.each i));
    drafted = script_drafted;
    filed =
        each_imp (λ d. Filed rooms ss d × (any (of_script d.script) (swept_drafts ds) ≡ true)) (Filed rooms (swept_scripts (swept_drafts ds) ss))
        (swept_drafts ds)
        (λ d p. subst (λ (s : Script). DraftFine rooms s d) (sym (script_stays d.script p.1)) p.0)
        (each_both (Filed rooms ss) (λ d. any (of_script d.script) (swept_drafts ds) ≡ true) (swept_drafts ds)
        (each_keep (λ d. placed d ≡ true → Filed rooms ss d) (Filed rooms ss) placed ds (λ d k f. f k) U.filed)
        (each_any (λ d. of_script d.script) (λ d. eq-eqb d.script d.script refl) (swept_drafts ds)));
    ascending = ascending_keep placed 0 last ds U.ascending;
    at_most = omega (arith, length_keep placed ds, U.at_most);
  }

-- ---- a draft of the script s without the room: where a place is left, it is as it should be
module _ (rooms rooms' room : ℕ) (number : RoomNumber room) (move : (p : ℕ) → (p ≡ room → ⊥) → has rooms p ≡ true → has rooms' p ≡ true) where
  small : room ≤ 31
  small = omega (arith, number.high)

  module _ (s : Script) (d : Draft) (near : s.origin ≤ 31) (f : DraftFine rooms s d) (left : placed (unplaced room d) ≡ true) where
    some_left : without d.places room ≡ 0 → ⊥
    some_left e = clash left (rw (eq-eqb (without d.places room) 0 e))

    unplaced_fine : DraftFine rooms' s (unplaced room d)
    unplaced_fine = record {
      script_there = f.script_there;
      places_there = λ p k.
          place_move rooms rooms' p (move p (without_old d.places room small p k)) (f.places_there p (without_among d.places room small p k));
      some_place = some_left;
      room_script = λ n. without_from_only d.places s.origin room near small (f.room_script n) some_left ∙ f.room_script n;
      house_script = λ e. home (f.house_script e);
    }
      where
        home : HousePlaces d.places → HousePlaces (without d.places room)
        home (with_house k) = with_house (without_other d.places room small house (λ e. omega (arith, number.low)) ∙ k)
        home (one_room r) = one_room (record {
          room = r.room;
          number = r.number;
          rule = without_from_only d.places r.room room (omega (arith, r.number.high)) small r.rule some_left ∙ r.rule;
        })

    -- the script is of another origin
    other_origin_lem : s.origin ≡ room → ⊥
    other_origin_lem e = some_left (rw (f.room_script (λ z. omega (arith, number.low)), e) (without_only room))

-- ---- 08 Remove
pub remove : (h : House) (last : ℕ) → Rules h last → (s v room : ℕ) → RoomNumber room → Rules (removed h s v room) last
remove h last R s v room number = go (find_draft h s v) refl
  where
    less : (i : ℕ) → find_draft h s v ≡ Some i → (b : Bool) → placed (unplaced room (draft_at h i)) ≡ b
        → Rules (cond b (put_draft h i (unplaced room (draft_at h i))) (swept (put_draft h i (unplaced room (draft_at h i))))) last
    less i e true k =
        let d = draft_at h i in
        let f = (draft_at_lem h last R s v i e).fine in
        put_draft_lem h last R i (unplaced room d) refl refl
        (unplaced_fine h.rooms h.rooms room number (λ p n q. q) (script h d.script) d (small_origin h last R d.script f.script_there) f k)
    less i e false k = record {
      people = R.people;
      seats = R.seats;
      texts = sweep h.rooms last h.scripts (set h.drafts i (unplaced room (draft_at h i))) (record {
        size = R.texts.size;
        each = R.texts.each;
        filed = each_set (λ d. placed d ≡ true → Filed h.rooms h.scripts d) h.drafts i (unplaced room (draft_at h i)) (λ q. clash q k)
            (each_imp (Filed h.rooms h.scripts) (λ d. placed d ≡ true → Filed h.rooms h.scripts d) h.drafts (λ d f _. f) R.texts.filed);
        ascending = ascending_set _ last h.drafts i (unplaced room (draft_at h i)) refl R.texts.ascending;
        at_most = rw (length-set h.drafts i (unplaced room (draft_at h i))) R.texts.at_most;
      });
      counter = R.counter;
    }

    go : (x : Option ℕ) → find_draft h s v ≡ x → Rules (at_found x (λ i. less_one h i (unplaced room (draft_at h i))) h) last
    go (Some i) e = less i e (placed (unplaced room (draft_at h i))) refl
    go None e = R

-- ---- 0B Disband
module _ (room : ℕ) (number : RoomNumber room) where
  low : room ≤ 31
  low = omega (arith, number.high)

  no_parted : parted room no_user ≡ no_user
  no_parted = rw (without_zero room)

  user_parted : (rooms : ℕ) (u : User) → UserFine rooms u → UserFine (without rooms room) (parted room u)
  user_parted rooms u f = record {
    absent = λ k. ap (parted room) (f.absent k) ∙ no_parted;
    sort_known = f.sort_known;
    label = f.label;
    joined_there = both_without u.rooms rooms room low f.joined_there;
    led_there = both_without u.leads rooms room low f.led_there;
    admin_staff = f.admin_staff;
    lead_staff = λ n. rw (f.lead_staff n) (without_zero room);
    outsider_bare = λ e. let b = f.outsider_bare e in record {
      level_zero = b.level_zero;
      categories_zero = b.categories_zero;
      no_room = rw b.no_room (without_zero room);
    };
  }

  module _ (h : House) (last : ℕ) (R : Rules h last) where
    user_at : (i : ℕ) → get_or (map (parted room) h.users) i no_user ≡ parted room (user h i)
    user_at = at_map no_user (parted room) no_parted h.users

    script_at : (i : ℕ) → get_or (map (shut room) h.scripts) i no_script ≡ shut room (script h i)
    script_at = at_map no_script (shut room) refl h.scripts

    people : People (without h.rooms room) (map (parted room) h.users)
    people = record {
      size = length-map h.users (parted room) ∙ R.people.size;
      numbers = λ r k. R.people.numbers r (without_among h.rooms room low r k);
      each = λ i. rw (user_at i) (user_parted h.rooms (user h i) (R.people.each i));
      administered = λ i k. admin_move h.users (map (parted room) h.users) (λ j q. rw (user_at j) q) (λ j q. rw (user_at j) q)
          (R.people.administered i (rw (user_at i) at k));
      led = λ r k. led_move h.users (map (parted room) h.users) r
          (λ i q. rw (user_at i) (without_other (user h i).leads room low r (without_old h.rooms room low r k) ∙ q))
          (R.people.led r (without_among h.rooms room low r k));
    }

    -- an RW session of another place stays
    seated : (x : Session) → ends (OfRoom room) x ≡ false → Seated h.rooms h.users x → Seated (without h.rooms room) (map (parted room) h.users) x
    seated x t f = subst (λ (o : User). SessionFine (without h.rooms room) o x) (sym (user_at x.owner))
        (session_stays h.rooms (without h.rooms room) o (parted room o) x (λ k. k) (λ k. k)
        (λ w _. stays h.rooms (without h.rooms room) o (without o.rooms room) (without o.leads room) x.place
        (λ k. without_other h.rooms room low x.place (elsewhere w) ∙ k) (λ k. without_other o.rooms room low x.place (elsewhere w) ∙ k)) f)
      where
        o : User
        o = user h x.owner

        elsewhere : x.writes ≡ true → x.place ≡ room → ⊥
        elsewhere w e = clash (rw (w, eq-eqb x.place room e)) t

    -- a script of another origin stays
    script_shut : (s : Script) → ScriptFine h.rooms s → (b : Bool) → shuts room s ≡ b → ScriptFine (without h.rooms room) (cond b no_script s)
    script_shut s f true k = none_fine (without h.rooms room)
    script_shut s f false k = record {
      absent = f.absent;
      label = f.label;
      origin_there = λ q.
          place_move h.rooms (without h.rooms room) s.origin (λ z. without_other h.rooms room low s.origin (other q) ∙ z) (f.origin_there q);
    }
      where
        other : s.here ≡ true → s.origin ≡ room → ⊥
        other q e = clash (rw (q, eq-eqb s.origin room e)) k

    -- a draft that has a place left is of a script that stays
    filed : (d : Draft) → Filed h.rooms h.scripts d → placed (unplaced room d) ≡ true
        → Filed (without h.rooms room) (map (shut room) h.scripts) (unplaced room d)
    filed d f k = subst (λ (s : Script). DraftFine (without h.rooms room) s (unplaced room d)) (sym (script_at d.script ∙ kept)) fine
      where
        s : Script
        s = script h d.script

        near : s.origin ≤ 31
        near = small_origin h last R d.script f.script_there

        move : (p : ℕ) → (p ≡ room → ⊥) → has h.rooms p ≡ true → has (without h.rooms room) p ≡ true
        move p n q = without_other h.rooms room low p n ∙ q

        fine : DraftFine (without h.rooms room) s (unplaced room d)
        fine = unplaced_fine h.rooms (without h.rooms room) room number move s d near f k

        kept : shut room s ≡ s
        kept = rw (ne_eqb s.origin room (other_origin_lem h.rooms (without h.rooms room) room number move s d near f k)) (go s.here)
          where
            go : (b : Bool) → cond (b && false) no_script s ≡ s
            go true = refl
            go false = refl

    pub disband : Rules (disbanded h room) last
    disband = record {
      people = people;
      seats = seats_end h.rooms (without h.rooms room) h.users (map (parted room) h.users) (ends (OfRoom room)) seated h.sessions R.seats;
      texts = sweep (without h.rooms room) last (map (shut room) h.scripts) (map (unplaced room) h.drafts) (record {
        size = length-map h.scripts (shut room) ∙ R.texts.size;
        each = λ i. rw (script_at i) (script_shut (script h i) (R.texts.each i) (shuts room (script h i)) refl);
        filed = each_map (Filed h.rooms h.scripts) (λ d. placed d ≡ true → Filed (without h.rooms room) (map (shut room) h.scripts) d)
            (unplaced room) h.drafts filed R.texts.filed;
        ascending = ascending_map (unplaced room) (λ d. refl) 0 last h.drafts R.texts.ascending;
        at_most = rw (length-map h.drafts (unplaced room)) R.texts.at_most;
      });
      counter = R.counter;
    }
