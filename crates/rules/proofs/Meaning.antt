-- `rules`, the test, holds exactly where the record rules do, said as statements.
use Prim.Native.Nat.{ℕ, ◌≤◌}
use mathlib.Core.Path.{◌≡◌, refl, sym, ap, ◌∙◌}
use mathlib.Core.Bool.{Bool, true, false, not, ◌&&◌, ◌||◌}
use mathlib.Core.List.{List, [], ◌∷◌}
use native.Mathlib.Omega.{arith}
use native.Mathlib.Decide.{ℕ_discrete}
use lib.Dec.{eqb, leb}
use borrow.Author.Tests.{ne_eqb}
use lib.ListN.{length}
use Rattle.label.specs.Labels.{contains, covers}
use Rattle.label.proofs.Dominance.{covers_both}
use Rattle.records.specs.Lists.{any, all}
use Rattle.records.specs.Places.{has, with, only, room_numbers}
use Rattle.records.specs.House.{House, no_user, no_script, no_session, house, no_place, staff, outsider, user, script, session}
use Rattle.records.specs.Lookups.{of_script}
use Rattle.records.specs.declared.User.{User}
use Rattle.records.specs.declared.Script.{Script}
use Rattle.records.specs.declared.Session.{Session}
use Rattle.records.specs.declared.Draft.{Draft}
use Rattle.records.proofs.Places.{has_none, has_with, has_contains}
use Rattle.rules.specs.Rules.{◌implies◌, is_place, places, rooms_there, session_there, origin_there, draft_there, administered, staff_if_trusted, is_led, bare_if_outsider, owned_well, within, in_its_room, at_home_or_one_room, has_draft, ascending, label_fits, user_fits, script_fits, session_fits, bounded, named_there, rules}
use Rattle.rules.specs.Facts.{Is, Among, RoomNumber, SomeRoom, LabelFits, Place, Bare, Administered, Led, Within, HousePlaces, with_house, one_room, Filed, Ascending, Rules}
use Rattle.rules.specs.Lists.{Each, Somewhere}
use Rattle.rules.proofs.Bools.{clash, second, left, right, itself, fails, equal, unequal, less, at_most, said, ◌and◌, ◌else◌, ◌then◌}
use Rattle.rules.proofs.Lists.{each_imp, each_both, each_is, everywhere, places_are, somewhere, counted}
use Rattle.rules.proofs.Sets.{among, room_number, rooms_all, rooms_any}

pub zero_fits : LabelFits 0 0
zero_fits = record { level_fits = omega arith; categories_fit = omega arith }

label_is : (level c : ℕ) → Is (label_fits level c) (LabelFits level c)
label_is level c = said (at_most and less) (λ p. record { level_fits = p.0; categories_fit = p.1 }) (λ f. (f.level_fits, f.categories_fit))

place_is : (h : House) (p : ℕ) → Is (is_place h p) (Place h.rooms p)
place_is h p = record { says = λ k. same ∙ k; shown = λ k. sym same ∙ k }
  where
    turn : Dec (p ≡ 0) → eqb 0 p ≡ eqb p 0
    turn (yes e) = rw e
    turn (no n) = rw (ne_eqb p 0 n, ne_eqb 0 p (λ e. n (sym e)))

    same : has (with h.rooms house) p ≡ is_place h p
    same = has_with h.rooms 0 (omega arith) p ∙ ap (λ (b : Bool). b || has h.rooms p) (turn (ℕ_discrete p 0))

-- ---- a slot that is not used
no_user_lem : (u : User)
    → Is (u.here || (eqb u.sort 0 && eqb u.level 0 && eqb u.categories 0 && eqb u.rooms 0 && eqb u.leads 0 && not u.admin))
    (u.here ≡ false → u ≡ no_user)
no_user_lem u = said (u.here else (equal and equal and equal and equal and equal and fails))
    (λ f k. let p = f k in λ i. record {
      here = k i;
      sort = p.0.0.0.0.0 i;
      level = p.0.0.0.0.1 i;
      categories = p.0.0.0.1 i;
      rooms = p.0.0.1 i;
      leads = p.0.1 i;
      admin = p.1 i;
    })
    (λ f k. rw (f k) (((((refl, refl), refl), refl), refl), refl))

no_script_lem : (s : Script) → Is (s.here || (eqb s.level 0 && eqb s.categories 0 && eqb s.origin 0)) (s.here ≡ false → s ≡ no_script)
no_script_lem s = said (s.here else (equal and equal and equal))
    (λ f k. let p = f k in λ i. record { here = k i; level = p.0.0 i; categories = p.0.1 i; origin = p.1 i })
    (λ f k. rw (f k) ((refl, refl), refl))

no_session_lem : (x : Session)
    → Is (x.here || (eqb x.owner 0 && eqb x.level 0 && eqb x.categories 0 && not x.writes && eqb x.place 0))
    (x.here ≡ false → x ≡ no_session)
no_session_lem x = said (x.here else (equal and equal and equal and fails and equal))
    (λ f k. let p = f k in λ i. record {
      here = k i;
      owner = p.0.0.0.0 i;
      level = p.0.0.0.1 i;
      categories = p.0.0.1 i;
      writes = p.0.1 i;
      place = p.1 i;
    })
    (λ f k. rw (f k) ((((refl, refl), refl), refl), refl))

-- a session that writes is there
pub writer : (x : Session) → (x.here ≡ false → x ≡ no_session) → x.writes ≡ true → x.here ≡ true
writer x f w = go x.here refl
  where
    go : (b : Bool) → x.here ≡ b → x.here ≡ true
    go true k = k
    go false k = clash w (ap (λ (y : Session). y.writes) (f k))

-- ---- one element: each test, and what it says
abbrev UserFits : User → Type 0
UserFits u = ((u.sort ≤ 2) × LabelFits u.level u.categories) × (u.here ≡ false → u ≡ no_user)

user_fits_lem : (u : User) → Is (user_fits u) (UserFits u)
user_fits_lem u = at_most and label_is u.level u.categories and no_user_lem u

abbrev StaffOnly : User → Type 0
StaffOnly u = (u.admin ≡ true → u.sort ≡ staff) × ((u.sort ≡ staff → ⊥) → u.leads ≡ 0)

staff_is_lem : (u : User) → Is (staff_if_trusted u) (StaffOnly u)
staff_is_lem u = go u.admin refl _ equal _ equal
  where
    go : (a : Bool) → u.admin ≡ a → (l : Bool) → Is l (u.leads ≡ 0) → (s : Bool) → Is s (u.sort ≡ staff) → Is ((a || not l) implies s) (StaffOnly u)
    go a e l i true j = record { says = λ _. ((λ _. j.says refl), (λ n. absurd (n (j.says refl)))); shown = λ _. second (not (a || not l)) refl }
    go true e l i false j = record { says = λ h. clash h refl; shown = λ p. clash (j.shown (p.0 e)) refl }
    go false e true i false j = record { says = λ h. ((λ k. clash k e), (λ n. i.says refl)); shown = λ _. refl }
    go false e false i false j = record { says = λ h. clash h refl; shown = λ p. clash (i.shown (p.1 (λ z. clash (j.shown z) refl))) refl }

abbrev OutsiderBare : User → Type 0
OutsiderBare u = u.sort ≡ outsider → Bare u.level u.categories u.rooms

outsider_is : (u : User) → Is (bare_if_outsider u) (OutsiderBare u)
outsider_is u = equal then said (equal and equal and equal)
    (λ p. record { level_zero = p.0.0; categories_zero = p.0.1; no_room = p.1 })
    (λ f. ((f.level_zero, f.categories_zero), f.no_room))

abbrev RoomsThere : ℕ → User → Type 0
RoomsThere rooms u = Among u.rooms rooms × Among u.leads rooms

rooms_there_lem : (h : House) (u : User) → Is (rooms_there h u) (RoomsThere h.rooms u)
rooms_there_lem h u = among _ _ and among _ _

abbrev SessionFits : Session → Type 0
SessionFits x = (LabelFits x.level x.categories × (x.here ≡ true → x.writes ≡ false → x.place ≡ no_place)) × (x.here ≡ false → x ≡ no_session)

session_fits_lem : (x : Session) → Is (session_fits x) (SessionFits x)
session_fits_lem x = label_is x.level x.categories and (itself then (x.writes else equal)) and no_session_lem x

abbrev SessionThere : House → Session → Type 0
SessionThere h x = x.here ≡ true → ((user h x.owner).here ≡ true) × (x.writes ≡ true → Place h.rooms x.place)

session_there_lem : (h : House) (x : Session) → Is (session_there h x) (SessionThere h x)
session_there_lem h x = itself then (itself and (itself then place_is h x.place))

abbrev Owned : User → Session → Type 0
Owned o x = (x.place ≡ house → o.sort ≡ staff) × ((x.place ≡ house → ⊥) → has o.rooms x.place ≡ true)

owned_is : (o : User) (x : Session) → Is (x.writes implies owned_well o x) (x.writes ≡ true → Owned o x)
owned_is o x = itself then ((equal then equal) and (unequal then itself))

-- covered by a label, x is within it
pub within_is : (level c : ℕ) (x : Session) → Is (covers level c x.level x.categories) (Within level c x)
within_is level c x =
    let both = covers_both level c x.level x.categories in
    let is : Is (leb x.level level && contains c x.categories) ((x.level ≤ level) × (contains c x.categories ≡ true)) = at_most and itself in
    record {
      says = λ e. let p = is.says (sym both ∙ e) in record { level_within = p.0; categories_within = p.1 };
      shown = λ w. both ∙ is.shown (w.level_within, w.categories_within);
    }

pub none_within : (level c : ℕ) → Within level c no_session
none_within level c = record { level_within = omega arith; categories_within = has_contains c 0 (λ q k. clash k (has_none q)) }

abbrev OwnerCovers : House → Session → Type 0
OwnerCovers h x = let o = user h x.owner in Within o.level o.categories x

owner_covers : (h : House) (x : Session) → Is (within (user h x.owner) x) (OwnerCovers h x)
owner_covers h x = let o = user h x.owner in within_is o.level o.categories x

abbrev ScriptFits : Script → Type 0
ScriptFits s = LabelFits s.level s.categories × (s.here ≡ false → s ≡ no_script)

script_fits_lem : (s : Script) → Is (script_fits s) (ScriptFits s)
script_fits_lem s = label_is s.level s.categories and no_script_lem s

origin_is_lem : (h : House) (s : Script) → Is (origin_there h s) (s.here ≡ true → Place h.rooms s.origin)
origin_is_lem h s = itself then place_is h s.origin

house_is : (s : ℕ) → Is (has s house || any (λ r. eqb s (only r)) room_numbers) (HousePlaces s)
house_is s = said (has s house else rooms_any (λ r. eqb s (only r)) (λ r. s ≡ only r) (λ r. equal)) (λ f. to f (has s house) refl) back
  where
    to : (has s house ≡ false → SomeRoom (λ r. s ≡ only r)) → (b : Bool) → has s house ≡ b → HousePlaces s
    to f true q = with_house q
    to f false q = one_room (f q)

    back : HousePlaces s → has s house ≡ false → SomeRoom (λ r. s ≡ only r)
    back (with_house q) k = clash q k
    back (one_room e) k = e

abbrev DraftThere : House → Draft → Type 0
DraftThere h d = ((script h d.script).here ≡ true) × Among d.places (with h.rooms house)

draft_there_lem : (h : House) (d : Draft) → Is (draft_there h d) (DraftThere h d)
draft_there_lem h d = itself and among d.places (places h)

abbrev RoomDraft : House → Draft → Type 0
RoomDraft h d = ((script h d.script).origin ≡ house → ⊥) → d.places ≡ only (script h d.script).origin

abbrev HouseDraft : House → Draft → Type 0
HouseDraft h d = (script h d.script).origin ≡ house → HousePlaces d.places

ascending_is : (n last : ℕ) (l : List Draft) → Is (ascending n last l) (Ascending n last l)
ascending_is n last [] = record { says = λ _. tt; shown = λ _. refl }
ascending_is n last (d ∷ ds) = less and at_most and ascending_is d.number last ds

-- ---- the users together
administered_is : (h : House) → Is (administered h) ((i : ℕ) → (user h i).here ≡ true → Administered h.users)
administered_is h = said (somewhere no_user (λ u. u.here) refl h.users then somewhere no_user (λ u. u.here && u.admin) refl h.users)
    (λ f i k. to (f (record { where_it_is = i; holds = k })))
    (λ f e. back (f e.where_it_is e.holds))
  where
    to : Somewhere no_user (λ u. u.here && u.admin) h.users → Administered h.users
    to e =
        let u = user h e.where_it_is in
        record { who = e.where_it_is; is_here = left u.here u.admin e.holds; is_admin = right u.here u.admin e.holds }

    back : Administered h.users → Somewhere no_user (λ u. u.here && u.admin) h.users
    back a = record { where_it_is = a.who; holds = rw (a.is_here, a.is_admin) }

led_is : (h : House) → Is (all (is_led h) room_numbers)
    ((r : ℕ) → RoomNumber r → has h.rooms r ≡ true → Led h.users r)
led_is h = rooms_all (is_led h) (λ r. has h.rooms r ≡ true → Led h.users r)
    (λ r. itself then counted no_user (λ u. has u.leads r) (has_none r) h.users)

-- ---- the rules by the test's words, in their order; what `and` joins is taken apart once, for each record
record Bounded (h : House) (last : ℕ) : Type 0 where
  users_64 : length h.users ≡ 64
  users_fit : (i : ℕ) → UserFits (user h i)
  rooms_fit : Among h.rooms 0x1FFFE
  scripts_64 : length h.scripts ≡ 64
  scripts_fit : (i : ℕ) → ScriptFits (script h i)
  sessions_64 : length h.sessions ≡ 64
  sessions_fit : (i : ℕ) → SessionFits (session h i)
  drafts_256 : length h.drafts ≤ 256
  counter_fits : last ≤ 4294967295

bounded_is : (h : House) (last : ℕ) → Is (bounded h last) (Bounded h last)
bounded_is h last = said
    (equal and everywhere no_user user_fits UserFits user_fits_lem ((omega arith, zero_fits), (λ _. refl)) h.users
    and among h.rooms 0x1FFFE
    and equal and everywhere no_script script_fits ScriptFits script_fits_lem (zero_fits, (λ _. refl)) h.scripts
    and equal and everywhere no_session session_fits SessionFits session_fits_lem ((zero_fits, (λ k _. clash k refl)), (λ _. refl)) h.sessions
    and at_most
    and at_most)
    (λ t. record {
      users_64 = t.0.0.0.0.0.0.0.0;
      users_fit = t.0.0.0.0.0.0.0.1;
      rooms_fit = t.0.0.0.0.0.0.1;
      scripts_64 = t.0.0.0.0.0.1;
      scripts_fit = t.0.0.0.0.1;
      sessions_64 = t.0.0.0.1;
      sessions_fit = t.0.0.1;
      drafts_256 = t.0.1;
      counter_fits = t.1;
    })
    (λ b. (
      (
        ((((((b.users_64, b.users_fit), b.rooms_fit), b.scripts_64), b.scripts_fit), b.sessions_64), b.sessions_fit),
        b.drafts_256,
      ),
      b.counter_fits,
    ))

record NamedThere (h : House) : Type 0 where
  by_users : (i : ℕ) → RoomsThere h.rooms (user h i)
  by_sessions : (i : ℕ) → SessionThere h (session h i)
  by_scripts : (i : ℕ) → (script h i).here ≡ true → Place h.rooms (script h i).origin
  by_drafts : Each (DraftThere h) h.drafts

named_is : (h : House) → Is (named_there h) (NamedThere h)
named_is h = said
    (everywhere no_user (rooms_there h) (RoomsThere h.rooms) (rooms_there_lem h) ((λ p k. clash k (has_none p)), (λ p k. clash k (has_none p))) h.users
    and everywhere no_session (session_there h) (SessionThere h) (session_there_lem h) (λ k. clash k refl) h.sessions
    and everywhere no_script (origin_there h) (λ s. s.here ≡ true → Place h.rooms s.origin) (origin_is_lem h) (λ k. clash k refl) h.scripts
    and each_is (draft_there h) (DraftThere h) (draft_there_lem h) h.drafts)
    (λ t. record { by_users = t.0.0.0; by_sessions = t.0.0.1; by_scripts = t.0.1; by_drafts = t.1 })
    (λ n. (((n.by_users, n.by_sessions), n.by_scripts), n.by_drafts))

record Told (h : House) (last : ℕ) : Type 0 where
  bounds : Bounded h last
  named : NamedThere h
  ruled : (i : ℕ) → (user h i).here ≡ true → Administered h.users
  staff_only_lem : (i : ℕ) → StaffOnly (user h i)
  some_lead : (r : ℕ) → RoomNumber r → has h.rooms r ≡ true → Led h.users r
  bare : (i : ℕ) → OutsiderBare (user h i)
  owned : (i : ℕ) → (session h i).writes ≡ true → Owned (user h (session h i).owner) (session h i)
  inside : (i : ℕ) → OwnerCovers h (session h i)
  room_drafts_lem : Each (RoomDraft h) h.drafts
  house_drafts_lem : Each (HouseDraft h) h.drafts
  each_drafted_lem : (i : ℕ) → (script h i).here ≡ true → any (of_script i) h.drafts ≡ true
  each_placed_lem : Each (λ d. d.places ≡ 0 → ⊥) h.drafts
  in_order : Ascending 0 last h.drafts

told_is : (h : House) (last : ℕ) → Is (rules h last) (Told h last)
unfolding rules
told_is h last = said
    (bounded_is h last and named_is h and administered_is h
    and everywhere no_user staff_if_trusted StaffOnly staff_is_lem ((λ k. clash k refl), (λ _. refl)) h.users
    and led_is h
    and everywhere no_user bare_if_outsider OutsiderBare outsider_is (λ e. absurd (omega (arith, e))) h.users
    and everywhere no_session (λ s. s.writes implies owned_well (user h s.owner) s) (λ s. s.writes ≡ true → Owned (user h s.owner) s)
    (λ s. owned_is (user h s.owner) s) (λ k. clash k refl) h.sessions
    and everywhere no_session (λ s. within (user h s.owner) s) (OwnerCovers h) (owner_covers h) (none_within (user h 0).level (user h 0).categories) h.sessions
    and each_is (in_its_room h) (RoomDraft h)
    (λ d. unequal then equal) h.drafts
    and each_is (at_home_or_one_room h) (HouseDraft h) (λ d. equal then house_is d.places) h.drafts
    and places_are no_script (has_draft h) (λ i s. s.here ≡ true → any (of_script i) h.drafts ≡ true)
    (λ i s. itself then itself) (λ i k. clash k refl) h.scripts
    and each_is _ (λ d. d.places ≡ 0 → ⊥) (λ d. unequal) h.drafts
    and ascending_is _ last h.drafts)
    (λ t. record {
      bounds = t.0.0.0.0.0.0.0.0.0.0.0.0;
      named = t.0.0.0.0.0.0.0.0.0.0.0.1;
      ruled = t.0.0.0.0.0.0.0.0.0.0.1;
      staff_only_lem = t.0.0.0.0.0.0.0.0.0.1;
      some_lead = t.0.0.0.0.0.0.0.0.1;
      bare = t.0.0.0.0.0.0.0.1;
      owned = t.0.0.0.0.0.0.1;
      inside = t.0.0.0.0.0.1;
      room_drafts_lem = t.0.0.0.0.1;
      house_drafts_lem = t.0.0.0.1;
      each_drafted_lem = t.0.0.1;
      each_placed_lem = t.0.1;
      in_order = t.1;
    })
    (λ t. (
      (
        (
          (((((((((t.bounds, t.named), t.ruled), t.staff_only_lem), t.some_lead), t.bare), t.owned), t.inside), t.room_drafts_lem), t.house_drafts_lem),
          t.each_drafted_lem,
        ),
        t.each_placed_lem,
      ),
      t.in_order,
    ))

-- ---- the same by parts
module _ (h : House) (last : ℕ) where
  abbrev Fine : Draft → Type 0
  Fine = Filed h.rooms h.scripts

  drafts_told : Told h last → Each Fine h.drafts
  drafts_told t =
      each_imp (λ d. (DraftThere h d × RoomDraft h d) × (HouseDraft h d × (d.places ≡ 0 → ⊥))) Fine h.drafts
      (λ d p. record { script_there = p.0.0.0; places_there = p.0.0.1; some_place = p.1.1; room_script = p.0.1; house_script = p.1.0 })
      (each_both (λ d. DraftThere h d × RoomDraft h d) (λ d. HouseDraft h d × (d.places ≡ 0 → ⊥)) h.drafts
      (each_both (DraftThere h) (RoomDraft h) h.drafts t.named.by_drafts t.room_drafts_lem)
      (each_both (HouseDraft h) (λ d. d.places ≡ 0 → ⊥) h.drafts t.house_drafts_lem t.each_placed_lem))

  by_parts : Told h last → Rules h last
  by_parts t =
      let b = t.bounds in
      let n = t.named in
      record {
        people = record {
          size = b.users_64;
          numbers = b.rooms_fit;
          each = λ i. record {
            absent = (b.users_fit i).1;
            sort_known = (b.users_fit i).0.0;
            label = (b.users_fit i).0.1;
            joined_there = (n.by_users i).0;
            led_there = (n.by_users i).1;
            admin_staff = (t.staff_only_lem i).0;
            lead_staff = (t.staff_only_lem i).1;
            outsider_bare = t.bare i;
          };
          administered = t.ruled;
          led = λ r k. t.some_lead r (room_number r (b.rooms_fit r k)) k;
        };
        seats = record {
          size = b.sessions_64;
          each = λ i. record {
            absent = (b.sessions_fit i).1;
            label = (b.sessions_fit i).0.0;
            owner_there = λ k. (n.by_sessions i k).0;
            writing = λ w. record {
              place_there = (n.by_sessions i (writer (session h i) (b.sessions_fit i).1 w)).1 w;
              house_staff = (t.owned i w).0;
              room_member = (t.owned i w).1;
            };
            within = t.inside i;
            reading = (b.sessions_fit i).0.1;
          };
        };
        texts = record {
          size = b.scripts_64;
          each = λ i. record { absent = (b.scripts_fit i).1; label = (b.scripts_fit i).0; origin_there = n.by_scripts i };
          drafted = t.each_drafted_lem;
          filed = drafts_told t;
          ascending = t.in_order;
          at_most = b.drafts_256;
        };
        counter = b.counter_fits;
      }

  in_words : Rules h last → Told h last
  in_words R =
      let u = R.people.each in
      let x = R.seats.each in
      let s = R.texts.each in
      let d = R.texts.filed in
      record {
        bounds = record {
          users_64 = R.people.size;
          users_fit = λ i. (((u i).sort_known, (u i).label), (u i).absent);
          rooms_fit = R.people.numbers;
          scripts_64 = R.texts.size;
          scripts_fit = λ i. ((s i).label, (s i).absent);
          sessions_64 = R.seats.size;
          sessions_fit = λ i. (((x i).label, (x i).reading), (x i).absent);
          drafts_256 = R.texts.at_most;
          counter_fits = R.counter;
        };
        named = record {
          by_users = λ i. ((u i).joined_there, (u i).led_there);
          by_sessions = λ i k. ((x i).owner_there k, (λ w. ((x i).writing w).place_there));
          by_scripts = λ i. (s i).origin_there;
          by_drafts = each_imp Fine (DraftThere h) h.drafts (λ d f. (f.script_there, f.places_there)) d;
        };
        ruled = R.people.administered;
        staff_only_lem = λ i. ((u i).admin_staff, (u i).lead_staff);
        some_lead = λ r _. R.people.led r;
        bare = λ i. (u i).outsider_bare;
        owned = λ i w. (((x i).writing w).house_staff, ((x i).writing w).room_member);
        inside = λ i. (x i).within;
        room_drafts_lem = each_imp Fine (RoomDraft h) h.drafts (λ d f. f.room_script) d;
        house_drafts_lem = each_imp Fine (HouseDraft h) h.drafts (λ d f. f.house_script) d;
        each_drafted_lem = R.texts.drafted;
        each_placed_lem = each_imp Fine (λ d. d.places ≡ 0 → ⊥) h.drafts (λ d f. f.some_place) d;
        in_order = R.texts.ascending;
      }

  -- the test says the rules, and the rules are what it takes to pass it
  pub rules_are : Is (rules h last) (Rules h last)
  rules_are = said (told_is h last) by_parts in_words
