-- The rules put together by tables, as code asks them, are the rules by clauses.
use Prim.Native.Nat.{ℕ, ◌≤◌}
use mathlib.Core.Path.{◌≡◌, refl, sym, ap, ◌∙◌}
use mathlib.Core.Bool.{Bool, true, false, ◌&&◌}
use mathlib.Core.List.{List, [], ◌∷◌}
use borrow.Author.Tests.{eq-eqb, le-leb}
use lib.Dec.{eqb, leb}
use lib.ListN.{length}
use Rattle.label.specs.Labels.{contains}
use Rattle.records.specs.Lists.{all}
use Rattle.records.specs.House.{House, user}
use Rattle.records.specs.Lookups.{placed}
use Rattle.records.specs.declared.User.{User}
use Rattle.records.specs.declared.Session.{Session}
use Rattle.records.specs.declared.Script.{Script}
use Rattle.records.specs.declared.Draft.{Draft}
use Rattle.rules.specs.Facts.{Is}
use Rattle.rules.specs.Rules.{◌implies◌, user_fits, rooms_there, staff_if_trusted, bare_if_outsider, session_fits, session_there, owned_well, within, script_fits, origin_there, draft_there, in_its_room, at_home_or_one_room, administered, staff_only, all_led, outsiders_bare, sessions_owned, sessions_within, room_drafts, house_drafts, each_drafted, each_placed, numbers_rise, rules}
use Rattle.rules.specs.Walks.{user_keeps, session_keeps, script_keeps, draft_keeps}
use Rattle.rules.proofs.Bools.{itself, said, ◌and◌, between}

-- two tests that pass alike are the same
pub alike : (a b : Bool) → (a ≡ true → b ≡ true) → (b ≡ true → a ≡ true) → a ≡ b
alike true b f g = sym (f refl)
alike false true f g = g refl
alike false false f g = refl

test : (b : Bool) → Is b (b ≡ true)
test b = itself

-- ---- two tests of each, asked together
module _ {A : Type 0} (f g : A → Bool) where
  all_both : (l : List A) → all (λ x. f x && g x) l ≡ (all f l && all g l)
  all_both [] = refl
  all_both (x ∷ xs) = ap (λ (b : Bool). (f x && g x) && b) (all_both xs) ∙ between (f x) (g x) (all f xs) (all g xs)

  together : (l : List A) {P Q : Type 0} → Is (all f l) P → Is (all g l) Q → Is (all (λ x. f x && g x) l) (P × Q)
  together l i j = record { says = λ h. (i and j).says (sym (all_both l) ∙ h); shown = λ p. all_both l ∙ (i and j).shown p }

abbrev Pass : {A : Type 0} → (A → Bool) → List A → Type 0
Pass f l = all f l ≡ true

module _ (h : House) where
  abbrev owned : Session → Bool
  owned s = s.writes implies owned_well (user h s.owner) s

  abbrev inside : Session → Bool
  inside s = within (user h s.owner) s

  users_are : (l : List User) → Is (all (user_keeps h) l) (((Pass user_fits l × Pass (rooms_there h) l) × Pass staff_if_trusted l) × Pass bare_if_outsider l)
  users_are l =
      together (λ u. user_fits u && rooms_there h u && staff_if_trusted u) bare_if_outsider l
      (together (λ u. user_fits u && rooms_there h u) staff_if_trusted l (together user_fits (rooms_there h) l itself itself) itself) itself

  sessions_are : (l : List Session) → Is (all (session_keeps h) l) (((Pass session_fits l × Pass (session_there h) l) × Pass owned l) × Pass inside l)
  sessions_are l =
      together (λ s. session_fits s && session_there h s && owned s) inside l
      (together (λ s. session_fits s && session_there h s) owned l (together session_fits (session_there h) l itself itself) itself) itself

  scripts_are : (l : List Script) → Is (all (script_keeps h) l) (Pass script_fits l × Pass (origin_there h) l)
  scripts_are l = together script_fits (origin_there h) l itself itself

  drafts_are : (l : List Draft) → Is (all (draft_keeps h) l) (((Pass (draft_there h) l × Pass (in_its_room h) l) × Pass (at_home_or_one_room h) l) × Pass placed l)
  drafts_are l =
      together (λ d. draft_there h d && in_its_room h d && at_home_or_one_room h d) placed l
      (together (λ d. draft_there h d && in_its_room h d) (at_home_or_one_room h) l (together (draft_there h) (in_its_room h) l itself itself) itself) itself

-- ---- all of them
module _ (h : House) (last : ℕ) where
  abbrev pub by_tables : Bool
  by_tables =
      contains 0x1FFFE h.rooms
      && all (user_keeps h) h.users && administered h && all_led h
      && all (session_keeps h) h.sessions
      && (all (script_keeps h) h.scripts && each_drafted h)
      && (all (draft_keeps h) h.drafts && numbers_rise h last)

  record Kept : Type 0 where
    rooms_fit : contains 0x1FFFE h.rooms ≡ true
    users_fit : Pass user_fits h.users
    rooms_there_lem : Pass (rooms_there h) h.users
    staff_trusted : Pass staff_if_trusted h.users
    outsiders_bare_lem : Pass bare_if_outsider h.users
    an_admin : administered h ≡ true
    led : all_led h ≡ true
    sessions_fit : Pass session_fits h.sessions
    sessions_there : Pass (session_there h) h.sessions
    sessions_owned_lem : Pass (owned h) h.sessions
    sessions_within : Pass (inside h) h.sessions
    scripts_fit : Pass script_fits h.scripts
    origins_there : Pass (origin_there h) h.scripts
    drafted : each_drafted h ≡ true
    drafts_there : Pass (draft_there h) h.drafts
    in_their_room : Pass (in_its_room h) h.drafts
    at_home_or_one : Pass (at_home_or_one_room h) h.drafts
    drafts_placed : Pass placed h.drafts
    rising : numbers_rise h last ≡ true

  tables_are : Is by_tables Kept
  tables_are = said
      (itself and users_are h h.users and itself and itself and sessions_are h h.sessions
      and (scripts_are h h.scripts and itself)
      and (drafts_are h h.drafts and itself))
      (λ t.
      let u = t.0.0.0.0.0.1 in
      let x = t.0.0.1 in
      let s = t.0.1 in
      let d = t.1 in
      record {
        rooms_fit = t.0.0.0.0.0.0;
        users_fit = u.0.0.0;
        rooms_there_lem = u.0.0.1;
        staff_trusted = u.0.1;
        outsiders_bare_lem = u.1;
        an_admin = t.0.0.0.0.1;
        led = t.0.0.0.1;
        sessions_fit = x.0.0.0;
        sessions_there = x.0.0.1;
        sessions_owned_lem = x.0.1;
        sessions_within = x.1;
        scripts_fit = s.0.0;
        origins_there = s.0.1;
        drafted = s.1;
        drafts_there = d.0.0.0.0;
        in_their_room = d.0.0.0.1;
        at_home_or_one = d.0.0.1;
        drafts_placed = d.0.1;
        rising = d.1;
      })
      (λ k. (
        (
          (
            (((k.rooms_fit, (((k.users_fit, k.rooms_there_lem), k.staff_trusted), k.outsiders_bare_lem)), k.an_admin), k.led),
            (((k.sessions_fit, k.sessions_there), k.sessions_owned_lem), k.sessions_within),
          ),
          ((k.scripts_fit, k.origins_there), k.drafted),
        ),
        ((((k.drafts_there, k.in_their_room), k.at_home_or_one), k.drafts_placed), k.rising),
      ))

  -- the counts hold of any cells
  module _ (users_64 : length h.users ≡ 64) (scripts_64 : length h.scripts ≡ 64) (sessions_64 : length h.sessions ≡ 64)
      (drafts_256 : length h.drafts ≤ 256) (counter : last ≤ 4294967295) where
    clauses_are : Is (rules h last) Kept
    unfolding rules
    clauses_are = record {
      says = λ e.
          let t = (
          (test (eqb (length h.users) 64) and test (all user_fits h.users) and test (contains 0x1FFFE h.rooms)
          and test (eqb (length h.scripts) 64) and test (all script_fits h.scripts)
          and test (eqb (length h.sessions) 64) and test (all session_fits h.sessions)
          and test (leb (length h.drafts) 256) and test (leb last 4294967295))
          and (test (all (rooms_there h) h.users) and test (all (session_there h) h.sessions) and test (all (origin_there h) h.scripts) and test (all (draft_there h) h.drafts))
          and test (administered h) and test (staff_only h) and test (all_led h) and test (outsiders_bare h) and test (sessions_owned h) and test (sessions_within h)
          and test (room_drafts h) and test (house_drafts h) and test (each_drafted h) and test (each_placed h) and test (numbers_rise h last)).says e in
          let b = t.0.0.0.0.0.0.0.0.0.0.0.0 in
          let n = t.0.0.0.0.0.0.0.0.0.0.0.1 in
          record {
            rooms_fit = b.0.0.0.0.0.0.1;
            users_fit = b.0.0.0.0.0.0.0.1;
            rooms_there_lem = n.0.0.0;
            staff_trusted = t.0.0.0.0.0.0.0.0.0.1;
            outsiders_bare_lem = t.0.0.0.0.0.0.0.1;
            an_admin = t.0.0.0.0.0.0.0.0.0.0.1;
            led = t.0.0.0.0.0.0.0.0.1;
            sessions_fit = b.0.0.1;
            sessions_there = n.0.0.1;
            sessions_owned_lem = t.0.0.0.0.0.0.1;
            sessions_within = t.0.0.0.0.0.1;
            scripts_fit = b.0.0.0.0.1;
            origins_there = n.0.1;
            drafted = t.0.0.1;
            drafts_there = n.1;
            in_their_room = t.0.0.0.0.1;
            at_home_or_one = t.0.0.0.1;
            drafts_placed = t.0.1;
            rising = t.1;
          };
      shown = λ k.
          rw (eq-eqb (length h.users) 64 users_64, k.users_fit, k.rooms_fit, eq-eqb (length h.scripts) 64 scripts_64, k.scripts_fit, eq-eqb (length h.sessions) 64 sessions_64, k.sessions_fit, le-leb (length h.drafts) 256 drafts_256, le-leb last 4294967295 counter, k.rooms_there_lem, k.sessions_there, k.origins_there, k.drafts_there, k.an_admin, k.staff_trusted, k.led, k.outsiders_bare_lem, k.sessions_owned_lem, k.sessions_within, k.in_their_room, k.at_home_or_one, k.drafted, k.drafts_placed, k.rising);
    }

    pub by_tables_lem : by_tables ≡ rules h last
    by_tables_lem = alike by_tables (rules h last) (λ e. clauses_are.shown (tables_are.says e)) (λ e. tables_are.shown (clauses_are.says e))
