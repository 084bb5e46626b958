-- The three parts of the record rules: what each needs to pass from one state of the records to the next.
use Prim.Native.Nat.{ℕ, ◌≤◌, ◌<◌}
use mathlib.Core.Path.{◌≡◌, refl, sym, ◌∙◌, subst}
use mathlib.Core.Bool.{Bool, true, false, cond}
use mathlib.Core.List.{List, map}
use mathlib.Core.Logic.{◌⊎◌, inl, inr}
use native.Mathlib.Omega.{arith}
use native.Mathlib.Decide.{ℕ_discrete}
use lib.ListN.{length, get_or, set, length-map}
use Rattle.records.specs.Places.{has}
use Rattle.records.specs.House.{no_user, no_session, house, staff}
use Rattle.records.specs.declared.User.{User}
use Rattle.records.specs.declared.Session.{Session}
use Rattle.effects.specs.Elements.{with_rooms}
use Rattle.rules.specs.Facts.{Among, Place, UserFine, Administered, Led, Writing, Within, SessionFine, Seated, Seats}
use Rattle.rules.proofs.Bools.{clash}
use Rattle.rules.proofs.Lists.{at_set, at_map}
use Rattle.rules.proofs.Sets.{with_new, with_old, with_other, room_number}
use Rattle.rules.proofs.Meaning.{zero_fits, none_within}

-- ---- places
pub place_house : (rooms : ℕ) → Place rooms house
place_house rooms = with_new rooms 0 (omega arith)

pub place_room : (rooms p : ℕ) → has rooms p ≡ true → Place rooms p
place_room rooms = with_old rooms 0 (omega arith)

pub place_cases : (rooms p : ℕ) → Place rooms p → (p ≡ house) ⊎ (has rooms p ≡ true)
place_cases rooms p k = go (ℕ_discrete p 0)
  where
    go : Dec (p ≡ 0) → (p ≡ house) ⊎ (has rooms p ≡ true)
    go (yes e) = inl e
    go (no n) = inr (sym (with_other rooms 0 (omega arith) p n) ∙ k)

pub place_move : (rooms rooms' p : ℕ) → (has rooms p ≡ true → has rooms' p ≡ true) → Place rooms p → Place rooms' p
place_move rooms rooms' p f k = go (place_cases rooms p k)
  where
    go : (p ≡ house) ⊎ (has rooms p ≡ true) → Place rooms' p
    go (inl e) = rw e (place_house rooms')
    go (inr q) = place_room rooms' p (f q)

pub place_small : (rooms p : ℕ) → Among rooms 0x1FFFE → Place rooms p → p ≤ 16
place_small rooms p f k = go (place_cases rooms p k)
  where
    go : (p ≡ house) ⊎ (has rooms p ≡ true) → p ≤ 16
    go (inl e) = omega arith
    go (inr q) = (room_number p (f p q)).high

-- ---- people
module _ (us us' : List User) where
  pub led_move : (r : ℕ) → ((i : ℕ) → has (get_or us i no_user).leads r ≡ true → has (get_or us' i no_user).leads r ≡ true) → Led us r → Led us' r
  led_move r f l = record { where_it_is = l.where_it_is; holds = f l.where_it_is l.holds }

  pub admin_move : ((i : ℕ) → (get_or us i no_user).here ≡ true → (get_or us' i no_user).here ≡ true)
      → ((i : ℕ) → (get_or us i no_user).admin ≡ true → (get_or us' i no_user).admin ≡ true) → Administered us → Administered us'
  admin_move f g a = record { who = a.who; is_here = f a.who a.is_here; is_admin = g a.who a.is_admin }

pub user_more : (rooms rooms' : ℕ) → Among rooms rooms' → (u : User) → UserFine rooms u → UserFine rooms' u
user_more rooms rooms' more u f = record {
  absent = f.absent;
  sort_known = f.sort_known;
  label = f.label;
  joined_there = λ p k. more p (f.joined_there p k);
  led_there = λ p k. more p (f.led_there p k);
  admin_staff = f.admin_staff;
  lead_staff = f.lead_staff;
  outsider_bare = f.outsider_bare;
}

-- ---- seats
pub none_seated : (rooms : ℕ) (o : User) → SessionFine rooms o no_session
none_seated rooms o = record {
  absent = λ _. refl;
  label = zero_fits;
  owner_there = λ k. clash k refl;
  within = none_within o.level o.categories;
  writing = λ k. clash k refl;
  reading = λ k _. clash k refl;
}

-- what an RW session at the place p needs of the rooms and of its owner, before and after
pub record Stays (rooms rooms' : ℕ) (o o' : User) (p : ℕ) : Type 0 where
  pub there : has rooms p ≡ true → has rooms' p ≡ true
  pub is_staff : o.sort ≡ staff → o'.sort ≡ staff
  pub member : has o.rooms p ≡ true → has o'.rooms p ≡ true

-- an owner of whom only the rooms joined and led are new
pub stays : (rooms rooms' : ℕ) (o : User) (joined led p : ℕ) → (has rooms p ≡ true → has rooms' p ≡ true) → (has o.rooms p ≡ true → has joined p ≡ true)
    → Stays rooms rooms' o (with_rooms joined led o) p
stays rooms rooms' o joined led p f g = record { there = f; is_staff = λ k. k; member = g }

pub session_stays : (rooms rooms' : ℕ) (o o' : User) (x : Session) → (o.here ≡ true → o'.here ≡ true)
    → (Within o.level o.categories x → Within o'.level o'.categories x)
    → (x.writes ≡ true → Writing rooms o x → Stays rooms rooms' o o' x.place) → SessionFine rooms o x → SessionFine rooms' o' x
session_stays rooms rooms' o o' x there within move f = record {
  absent = f.absent;
  label = f.label;
  owner_there = λ k. there (f.owner_there k);
  within = within f.within;
  writing = λ k. let w = f.writing k in let s = move k w in record {
    place_there = place_move rooms rooms' x.place s.there w.place_there;
    house_staff = λ e. s.is_staff (w.house_staff e);
    room_member = λ n. s.member (w.room_member n);
  };
  reading = f.reading;
}

pub seats_more : (rooms rooms' : ℕ) → Among rooms rooms' → (us : List User) (xs : List Session) → Seats rooms us xs → Seats rooms' us xs
seats_more rooms rooms' more us xs S = record {
  size = S.size;
  each = λ i.
      let x = get_or xs i no_session in
      let o = get_or us x.owner no_user in
      session_stays rooms rooms' o o x (λ k. k) (λ k. k) (λ _ _. stays rooms rooms' o o.rooms o.leads x.place (more x.place) (λ k. k)) (S.each i);
}

-- one user anew
module _ (rooms : ℕ) (us : List User) (w : ℕ) (v : User) (fits : w < length us) where
  -- x is fine under the new user, where the old one owned it
  abbrev Passes : Session → Type 0
  Passes x = x.owner ≡ w → SessionFine rooms (get_or us w no_user) x → SessionFine rooms v x

  pub seated_put : (x : Session) → Passes x → Seated rooms us x → Seated rooms (set us w v) x
  seated_put x own f = at_set no_user (λ o. SessionFine rooms o x) us w v x.owner fits
      (λ e. own e (subst (λ (n : ℕ). SessionFine rooms (get_or us n no_user) x) e f)) (λ _. f)

  pub seats_put : (xs : List Session) → ((x : Session) → Passes x) → Seats rooms us xs → Seats rooms (set us w v) xs
  seats_put xs own S = record { size = S.size; each = λ i. let x = get_or xs i no_session in seated_put x (own x) (S.each i) }

-- the sessions of which t holds end, and the others are as they should be after
pub seats_end : (rooms rooms' : ℕ) (us us' : List User) (t : Session → Bool) → ((x : Session) → t x ≡ false → Seated rooms us x → Seated rooms' us' x)
    → (xs : List Session) → Seats rooms us xs → Seats rooms' us' (map (λ x. cond (t x) no_session x) xs)
seats_end rooms rooms' us us' t move xs S = record {
  size = length-map xs (λ x. cond (t x) no_session x) ∙ S.size;
  each = λ i.
      let x = get_or xs i no_session in
      rw (at_map no_session (λ x. cond (t x) no_session x) (same (t no_session)) xs i) (go x (S.each i) (t x) refl);
}
  where
    same : (b : Bool) → cond b no_session no_session ≡ no_session
    same true = refl
    same false = refl

    go : (x : Session) → Seated rooms us x → (b : Bool) → t x ≡ b → Seated rooms' us' (cond b no_session x)
    go x f true q = none_seated rooms' (get_or us' 0 no_user)
    go x f false q = move x q f
