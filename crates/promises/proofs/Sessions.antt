-- One session anew: Open and Kill keep the record rules.
use Prim.Native.Nat.{ℕ, ◌≤◌, ◌<◌}
use mathlib.Core.Path.{◌≡◌, refl, ◌∙◌}
use mathlib.Core.Bool.{true}
use native.Mathlib.Omega.{arith}
use lib.ListN.{length-set}
use Rattle.records.specs.Places.{has}
use Rattle.records.specs.House.{House, no_session, house, staff, user, put_session}
use Rattle.records.specs.declared.Session.{Session}
use Rattle.records.proofs.Places.{has_contains}
use Rattle.sessions.specs.Sessions.{writing, reading}
use Rattle.conditions.specs.Labels.{Covered}
use Rattle.rules.specs.Facts.{LabelFits, Writing, Within, Seated, Rules}
use Rattle.rules.proofs.Bools.{clash}
use Rattle.rules.proofs.Lists.{at_set}
use Rattle.promises.proofs.Parts.{place_house, place_room, none_seated}

module _ (h : House) (last : ℕ) (R : Rules h last) (x : ℕ) (small : x < 64) where
  put_session_lem : (v : Session) → Seated h.rooms h.users v → Rules (put_session h x v) last
  put_session_lem v f = record {
    people = R.people;
    seats = record {
      size = length-set h.sessions x v ∙ R.seats.size;
      each = λ i. at_set no_session (Seated h.rooms h.users) h.sessions x v i (rw R.seats.size small) (λ _. f) (λ _. R.seats.each i);
    };
    texts = R.texts;
    counter = R.counter;
  }

  -- ---- 16 Kill
  pub kill : Rules (put_session h x no_session) last
  kill = put_session_lem no_session (none_seated h.rooms (user h 0))

  -- ---- one is opened, by u: what it is opened with is covered
  module _ (u level c : ℕ) (hu : (user h u).here ≡ true) (label : LabelFits level c) (opens : Covered (user h u).level (user h u).categories level c) where
    inside : (x : Session) → x.level ≡ level → x.categories ≡ c → Within (user h u).level (user h u).categories x
    inside x l k = record { level_within = rw l opens.no_higher; categories_within = rw k (has_contains (user h u).categories c opens.contained) }

    -- ---- 12 Open RO
    pub open_read_only : Rules (put_session h x (reading u level c)) last
    open_read_only = put_session_lem (reading u level c) (record {
      absent = λ k. clash refl k;
      label = label;
      owner_there = λ _. hu;
      within = inside (reading u level c) refl refl;
      writing = λ k. clash k refl;
      reading = λ _ _. refl;
    })

    open_at : (place : ℕ) → Writing h.rooms (user h u) (writing u level c place) → Rules (put_session h x (writing u level c place)) last
    open_at place w = put_session_lem (writing u level c place) (record {
      absent = λ k. clash refl k;
      label = label;
      owner_there = λ _. hu;
      within = inside (writing u level c place) refl refl;
      writing = λ _. w;
      reading = λ _ k. clash refl k;
    })

    -- ---- 10 Open RW in room
    pub open_in_room : (room : ℕ) → 1 ≤ room → has h.rooms room ≡ true → has (user h u).rooms room ≡ true
        → Rules (put_session h x (writing u level c room)) last
    open_in_room room low there member =
        open_at room (record { place_there = place_room h.rooms room there; house_staff = λ e. absurd (omega arith); room_member = λ _. member })

    -- ---- 11 Open RW in house
    pub open_in_house : (user h u).sort ≡ staff → Rules (put_session h x (writing u level c house)) last
    open_in_house is_staff =
        open_at house (record { place_there = place_house h.rooms; house_staff = λ _. is_staff; room_member = λ n. absurd (n refl) })
