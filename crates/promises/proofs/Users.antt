-- One user anew: Enrol, Establish, Join, Leave, and leads made and ended keep the record rules.
use Prim.Native.Nat.{ℕ, ◌≤◌, ◌<◌}
use mathlib.Core.Path.{◌≡◌, refl, sym, ap, ◌∙◌, subst}
use mathlib.Core.Bool.{Bool, true, false, cond, not}
use mathlib.Core.List.{List, map}
use mathlib.Core.Logic.{◌⊎◌, inl, inr}
use native.Mathlib.Omega.{arith}
use native.Mathlib.Decide.{ℕ_discrete, dec_le}
use lib.Dec.{eqb}
use lib.ListN.{length, get_or, set, length-set, get_or-eq_default}
use borrow.Author.Tests.{eq-eqb, not-false}
use Rattle.records.specs.Places.{has, with, without}
use Rattle.records.specs.House.{House, no_user, no_session, staff, outsider, user, put_user, put_rooms}
use Rattle.records.specs.declared.User.{User}
use Rattle.records.specs.declared.Session.{Session}
use Rattle.records.proofs.Places.{has_none, without_zero}
use Rattle.label.specs.Labels.{covers}
use Rattle.leads.specs.Leads.{with_leads, leading, lead_ended, lead_count}
use Rattle.sessions.specs.Sessions.{ends, ended}
use Rattle.sessions.specs.declared.Ending.TheVariants.{OfMember, Uncovered}
use Rattle.effects.specs.Elements.{enrolled, joined, left, in_no_room, hired}
use Rattle.effects.specs.Effects.{departed, arrived}
use Rattle.rules.specs.Facts.{Among, RoomNumber, LabelFits, UserFine, Administered, Led, People, Within, SessionFine, Seats, Rules}
use Rattle.rules.proofs.Bools.{clash}
use Rattle.rules.proofs.Lists.{at_set, elsewhere}
use Rattle.rules.proofs.Meaning.{within_is, none_within}
use Rattle.rules.proofs.Sets.{with_new, with_old, with_other, with_among, without_other, without_among, number_room}
use Rattle.promises.proofs.Parts.{led_move, admin_move, user_more, Stays, stays, session_stays, seats_more, seated_put, seats_put, seats_end}
use Rattle.promises.proofs.Drafts.{texts_more}

-- who is there stands in the table
here_fits : (us : List User) (w : ℕ) → (get_or us w no_user).here ≡ true → w < length us
here_fits us w h = go (dec_le (length us) w)
  where
    go : Dec (length us ≤ w) → w < length us
    go (yes k) = clash h (ap (λ (x : User). x.here) (get_or-eq_default us no_user k))
    go (no n) = omega arith

-- ---- a user anew
module _ (us : List User) (w : ℕ) (v : User) (fits : w < length us) where
  -- a room stays led where the new user leads it if the one before did
  put_led : (r : ℕ) → (has (get_or us w no_user).leads r ≡ true → has v.leads r ≡ true) → Led us r → Led (set us w v) r
  put_led r f = led_move us (set us w v) r
      (λ i k. at_set no_user (λ x. has x.leads r ≡ true) us w v i fits (λ q. f (rw q at k)) (λ _. k))

  put_admin : v.here ≡ true → ((get_or us w no_user).admin ≡ true → v.admin ≡ true) → Administered us → Administered (set us w v)
  put_admin k f = admin_move us (set us w v)
      (λ i h. at_set no_user (λ x. x.here ≡ true) us w v i fits (λ _. k) (λ _. h))
      (λ i h. at_set no_user (λ x. x.admin ≡ true) us w v i fits (λ q. f (rw q at h)) (λ _. h))

  put_people : (rooms : ℕ) → UserFine rooms v → ((r : ℕ) → has rooms r ≡ true → Led (set us w v) r) → Administered (set us w v) → People rooms us → People rooms (set us w v)
  put_people rooms f l a P = record {
    size = length-set us w v ∙ P.size;
    numbers = P.numbers;
    each = λ i. at_set no_user (UserFine rooms) us w v i fits (λ _. f) (λ _. P.each i);
    administered = λ i k. a;
    led = l;
  }

module _ (h : House) (last : ℕ) (R : Rules h last) where
  -- ---- 01 Enrol
  pub enrol : (new sort level c admin : ℕ) → new < 64 → (user h new).here ≡ false → sort ≤ 2 → LabelFits level c → (eqb admin 1 ≡ true → sort ≡ staff)
      → (sort ≡ outsider → (level ≡ 0) × (c ≡ 0)) → (eqb admin 1 ≡ true) ⊎ Administered h.users → Rules (put_user h new (enrolled sort level c admin)) last
  enrol new sort level c admin small free known label chief bare by = record {
    people = put_people h.users new v fits h.rooms fine led (ruled by) R.people;
    seats = seats_put h.rooms h.users new v fits h.sessions (λ x e f. nobody x f x.here refl) R.seats;
    texts = R.texts;
    counter = R.counter;
  }
    where
      v : User
      v = enrolled sort level c admin

      fits : new < length h.users
      fits = rw R.people.size small

      absent : user h new ≡ no_user
      absent = (R.people.each new).absent free

      led : (r : ℕ) → has h.rooms r ≡ true → Led (set h.users new v) r
      led r k = put_led h.users new v fits r (λ q. clash (rw absent at q) (has_none r)) (R.people.led r k)

      fine : UserFine h.rooms v
      fine = record {
        absent = λ k. clash refl k;
        sort_known = known;
        label = label;
        joined_there = λ p k. clash k (has_none p);
        led_there = λ p k. clash k (has_none p);
        admin_staff = chief;
        lead_staff = λ _. refl;
        outsider_bare = λ e. record { level_zero = (bare e).0; categories_zero = (bare e).1; no_room = refl };
      }

      ruled : (eqb admin 1 ≡ true) ⊎ Administered h.users → Administered (set h.users new v)
      ruled (inl a) = record {
        who = new;
        is_here = at_set no_user (λ x. x.here ≡ true) h.users new v new fits (λ _. refl) (λ n. absurd (n refl));
        is_admin = at_set no_user (λ x. x.admin ≡ true) h.users new v new fits (λ _. a) (λ n. absurd (n refl));
      }
      ruled (inr a) = put_admin h.users new v fits refl (λ k. clash k (rw absent)) a

      -- nobody owned a session under that number
      nobody : (x : Session) → SessionFine h.rooms (user h new) x → (b : Bool) → x.here ≡ b → SessionFine h.rooms v x
      nobody x f true k = clash (f.owner_there k) free
      nobody x f false k =
          session_stays h.rooms h.rooms (user h new) v x (λ _. refl) (λ _. subst (Within level c) (sym (f.absent k)) (none_within level c))
          (λ w _. clash w (ap (λ (y : Session). y.writes) (f.absent k))) f

  -- ---- a user who is there, anew
  module _ (w : ℕ) (v : User) (hw : (user h w).here ≡ true) (hv : v.here ≡ true) where
    fits : w < length h.users
    fits = here_fits h.users w hw

    anew : UserFine h.rooms v → ((r : ℕ) → has h.rooms r ≡ true → Led (set h.users w v) r) → ((user h w).admin ≡ true → v.admin ≡ true)
        → People h.rooms (set h.users w v)
    anew f l a = put_people h.users w v fits h.rooms f l (put_admin h.users w v fits hv a (R.people.administered w hw)) R.people

    -- who leads what he led, and maybe more
    leads_on : Among (user h w).leads v.leads → (r : ℕ) → has h.rooms r ≡ true → Led (set h.users w v) r
    leads_on f r k = put_led h.users w v fits r (f r) (R.people.led r k)

    -- whose sessions stay
    keeps : ((x : Session) → Within (user h w).level (user h w).categories x → Within v.level v.categories x)
        → ((x : Session) → Stays h.rooms h.rooms (user h w) v x.place) → Seats h.rooms (set h.users w v) h.sessions
    keeps i s = seats_put h.rooms h.users w v fits h.sessions (λ x _. session_stays h.rooms h.rooms (user h w) v x (λ _. hv) (i x) (λ _ _. s x)) R.seats

    -- whose sessions end where t holds
    ending : (t : Session → Bool)
        → ((x : Session) → t x ≡ false → x.owner ≡ w → Within (user h w).level (user h w).categories x → Within v.level v.categories x)
        → ((x : Session) → t x ≡ false → x.owner ≡ w → x.writes ≡ true → Stays h.rooms h.rooms (user h w) v x.place)
        → Seats h.rooms (set h.users w v) (map (λ x. cond (t x) no_session x) h.sessions)
    ending t i s =
        seats_end h.rooms h.rooms h.users (set h.users w v) t
        (λ x k. seated_put h.rooms h.users w v fits x (λ e. session_stays h.rooms h.rooms (user h w) v x (λ _. hv) (i x k e) (λ k' _. s x k e k')))
        h.sessions R.seats

  module _ (w room : ℕ) (number : RoomNumber room) (hw : (user h w).here ≡ true) where
    small : room ≤ 31
    small = omega (arith, number.high)

    -- ---- 03 Join staff
    pub join_staff : has h.rooms room ≡ true → (user h w).sort ≡ staff → Rules (put_user h w (joined room (user h w))) last
    join_staff there is_staff = record {
      people = anew w (joined room (user h w)) hw hw fine (leads_on w (joined room (user h w)) hw hw (λ _ k. k)) (λ k. k);
      seats = keeps w (joined room (user h w)) hw hw (λ _ k. k) remains;
      texts = R.texts;
      counter = R.counter;
    }
      where
        fine : UserFine h.rooms (joined room (user h w))
        fine = let f = R.people.each w in record {
          absent = λ k. clash hw k;
          sort_known = f.sort_known;
          label = f.label;
          joined_there = with_among (user h w).rooms room small h.rooms there f.joined_there;
          led_there = f.led_there;
          admin_staff = f.admin_staff;
          lead_staff = f.lead_staff;
          outsider_bare = λ e. absurd (omega arith);
        }

        remains : (x : Session) → Stays h.rooms h.rooms (user h w) (joined room (user h w)) x.place
        remains x =
            let u = user h w in
            stays h.rooms h.rooms u (with u.rooms room) u.leads x.place (λ k. k) (with_old u.rooms room small x.place)

    -- ---- 05 Join outsider
    pub join_outsider : (level c : ℕ) → has h.rooms room ≡ true → ((user h w).sort ≡ staff → ⊥) → LabelFits level c → Rules (arrived h w room level c) last
    join_outsider level c there other label = record {
      people = anew w v hw hw fine (leads_on w v hw hw (λ _ k. k)) (λ k. k);
      seats = seats (in_no_room (user h w)) refl;
      texts = R.texts;
      counter = R.counter;
    }
      where
        v : User
        v = joined room (hired level c (user h w))

        labelled : (b : Bool) → LabelFits (cond b level (user h w).level) (cond b c (user h w).categories)
        labelled true = label
        labelled false = (R.people.each w).label

        fine : UserFine h.rooms v
        fine = let f = R.people.each w in record {
          absent = λ k. clash hw k;
          sort_known = omega arith;
          label = labelled (in_no_room (user h w));
          joined_there = with_among (user h w).rooms room small h.rooms there f.joined_there;
          led_there = f.led_there;
          admin_staff = λ k. absurd (other (f.admin_staff k));
          lead_staff = λ _. f.lead_staff other;
          outsider_bare = λ e. absurd (omega arith);
        }

        -- w was no staff, and stays in each room joined
        remains : (x : Session) → Stays h.rooms h.rooms (user h w) v x.place
        remains x = record { there = λ k. k; is_staff = λ e. absurd (other e); member = with_old (user h w).rooms room small x.place }

        -- a session of w that does not end is within the new label
        covered : (x : Session) → ends (Uncovered w level c) x ≡ false → x.owner ≡ w → Within level c x
        covered x k e = (within_is level c x).says (go (covers level c x.level x.categories) (rw (eq-eqb x.owner w e) at k))
          where
            go : (b : Bool) → not b ≡ false → b ≡ true
            go b = not-false b

        seats : (b : Bool) → in_no_room (user h w) ≡ b
            → Seats h.rooms (set h.users w v) (cond b (map (ended (Uncovered w level c)) h.sessions) h.sessions)
        seats true q = ending w v hw hw (ends (Uncovered w level c)) (λ x k e _. rw q (covered x k e)) (λ x _ _ _. remains x)
        seats false q = keeps w v hw hw (λ x i. rw q i) remains

    -- ---- 04, 06 Leave
    pub leave : Rules (departed h w room) last
    leave = record {
      people = anew w v hw hw fine (leads_on w v hw hw (λ _ k. k)) (λ k. k);
      seats = ending w v hw hw (ends (OfMember w room)) (λ _ _ _ i. i) remains;
      texts = R.texts;
      counter = R.counter;
    }
      where
        v : User
        v = left room (user h w)

        fine : UserFine h.rooms v
        fine = let f = R.people.each w in record {
          absent = λ k. clash hw k;
          sort_known = f.sort_known;
          label = f.label;
          joined_there = λ p k. f.joined_there p (without_among (user h w).rooms room small p k);
          led_there = f.led_there;
          admin_staff = f.admin_staff;
          lead_staff = f.lead_staff;
          outsider_bare = λ e. let b = f.outsider_bare e in record {
            level_zero = b.level_zero;
            categories_zero = b.categories_zero;
            no_room = rw b.no_room (without_zero room);
          };
        }

        elsewhere : (x : Session) → ends (OfMember w room) x ≡ false → x.owner ≡ w → x.writes ≡ true → x.place ≡ room → ⊥
        elsewhere x t e k p = clash (rw (k, eq-eqb x.owner w e, eq-eqb x.place room p)) t

        remains : (x : Session) → ends (OfMember w room) x ≡ false → x.owner ≡ w → x.writes ≡ true → Stays h.rooms h.rooms (user h w) v x.place
        remains x t e k =
            let u = user h w in
            stays h.rooms h.rooms u (without u.rooms room) u.leads x.place (λ q. q)
            (λ q. without_other u.rooms room small x.place (elsewhere x t e k) ∙ q)

    -- ---- a lead made or ended: the rooms joined stay, and the sessions with them
    module _ (leads : ℕ) (led_there : Among leads h.rooms) (is_staff : ((user h w).sort ≡ staff → ⊥) → leads ≡ 0) where
      lead_fine : UserFine h.rooms (with_leads leads (user h w))
      lead_fine = let f = R.people.each w in record {
        absent = λ k. clash hw k;
        sort_known = f.sort_known;
        label = f.label;
        joined_there = f.joined_there;
        led_there = led_there;
        admin_staff = f.admin_staff;
        lead_staff = is_staff;
        outsider_bare = f.outsider_bare;
      }

      lead_anew : ((r : ℕ) → has h.rooms r ≡ true → Led (set h.users w (with_leads leads (user h w))) r) → Rules (put_user h w (with_leads leads (user h w))) last
      lead_anew led = record {
        people = anew w (with_leads leads (user h w)) hw hw lead_fine led (λ k. k);
        seats = keeps w (with_leads leads (user h w)) hw hw (λ _ k. k) (λ x. let u = user h w in stays h.rooms h.rooms u u.rooms leads x.place (λ k. k) (λ k. k));
        texts = R.texts;
        counter = R.counter;
      }

    -- ---- 0C: staff may lead
    pub make_lead : has h.rooms room ≡ true → (user h w).sort ≡ staff → Rules (put_user h w (leading room (user h w))) last
    make_lead there is_staff =
        lead_anew (with (user h w).leads room) (with_among (user h w).leads room small h.rooms there (R.people.each w).led_there) (λ n. absurd (n is_staff))
        (leads_on w (leading room (user h w)) hw hw (with_old (user h w).leads room small))

    -- ---- 0D: where two lead the room, one is left
    pub end_lead : 2 ≤ lead_count h room → Rules (put_user h w (lead_ended room (user h w))) last
    end_lead two =
        lead_anew (without (user h w).leads room) (λ p k. f.led_there p (without_among (user h w).leads room small p k)) (λ n. rw (f.lead_staff n) (without_zero room))
        (λ r k. led r k (ℕ_discrete r room))
      where
        f : UserFine h.rooms (user h w)
        f = R.people.each w

        v : User
        v = lead_ended room (user h w)

        fits : w < length h.users
        fits = here_fits h.users w hw

        led : (r : ℕ) → has h.rooms r ≡ true → Dec (r ≡ room) → Led (set h.users w v) r
        led r k (no n) = put_led h.users w v fits r (λ q. without_other (user h w).leads room small r n ∙ q) (R.people.led r k)
        led r k (yes e) =
            let o = elsewhere no_user (λ u. has u.leads room) (has_none room) h.users w two in
            subst (λ (x : ℕ). Led (set h.users w v) x) (sym e) (record {
              where_it_is = o.place;
              holds = at_set no_user (λ x. has x.leads room ≡ true) h.users w v o.place fits (λ q. absurd (o.other q)) (λ _. o.holds);
            })

  -- ---- 02 Establish
  pub establish : (u room : ℕ) → RoomNumber room → (user h u).here ≡ true → has h.rooms room ≡ false → (user h u).admin ≡ true
      → Rules (put_rooms (put_user h u (leading room (user h u))) (with h.rooms room)) last
  establish u room number hu free admin = record {
    people = record {
      size = length-set h.users u v ∙ R.people.size;
      numbers = with_among h.rooms room small' 0x1FFFE (number_room room number) R.people.numbers;
      each = λ i. at_set no_user (UserFine rooms') h.users u v i fits' (λ _. fine) (λ _. user_more h.rooms rooms' more (user h i) (R.people.each i));
      administered = λ i k. put_admin h.users u v fits' hu (λ a. a) (R.people.administered u hu);
      led = λ r k. led r k (ℕ_discrete r room);
    };
    seats = seats_put rooms' h.users u v fits' h.sessions (λ x _. session_stays rooms' rooms' (user h u) v x (λ k. k) (λ k. k) (λ _ _. remains x))
        (seats_more h.rooms rooms' more h.users h.sessions R.seats);
    texts = texts_more h.rooms rooms' more last h.scripts h.drafts R.texts;
    counter = R.counter;
  }
    where
      small' : room ≤ 31
      small' = omega (arith, number.high)

      v : User
      v = leading room (user h u)

      rooms' : ℕ
      rooms' = with h.rooms room

      fits' : u < length h.users
      fits' = here_fits h.users u hu

      more : Among h.rooms rooms'
      more = with_old h.rooms room small'

      fine : UserFine rooms' v
      fine = let f = R.people.each u in record {
        absent = λ k. clash hu k;
        sort_known = f.sort_known;
        label = f.label;
        joined_there = λ p k. more p (f.joined_there p k);
        led_there = with_among (user h u).leads room small' rooms' (with_new h.rooms room small') (λ p k. more p (f.led_there p k));
        admin_staff = f.admin_staff;
        lead_staff = λ n. absurd (n (f.admin_staff admin));
        outsider_bare = f.outsider_bare;
      }

      remains : (x : Session) → Stays rooms' rooms' (user h u) v x.place
      remains x = stays rooms' rooms' (user h u) (user h u).rooms (with (user h u).leads room) x.place (λ k. k) (λ k. k)

      led : (r : ℕ) → has rooms' r ≡ true → Dec (r ≡ room) → Led (set h.users u v) r
      led r k (no n) =
          put_led h.users u v fits' r (with_old (user h u).leads room small' r) (R.people.led r (sym (with_other h.rooms room small' r n) ∙ k))
      led r k (yes e) = subst (λ (x : ℕ). Led (set h.users u v) x) (sym e) (record {
        where_it_is = u;
        holds = at_set no_user (λ x. has x.leads room ≡ true) h.users u v u fits' (λ _. with_new (user h u).leads room small') (λ n. absurd (n refl));
      })
