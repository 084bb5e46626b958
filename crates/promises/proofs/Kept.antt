-- Every granted change keeps the record rules. 01: "Every desk reached from an opening meets these record rules".
use Rattle.std.specs.Prelude.{Ok}
use Prim.Native.Nat.{ℕ, zero, suc, ◌+◌, ◌≤◌, ◌<◌}
use mathlib.Core.Path.{◌≡◌, refl, subst}
use mathlib.Core.Bool.{Bool, true, false, not, ◌||◌}
use mathlib.Core.List.{List, [], ◌∷◌}
use mathlib.Core.Logic.{◌⊎◌, inl, inr}
use native.Mathlib.Omega.{arith}
use lib.Dec.{eqb, leb}
use lib.ListN.{length, get_or}
use Rattle.records.specs.Lists.{all}
use borrow.Author.Tests.{eqb-true, eq-eqb, leb-true, ltb-true, not-true}
use Rattle.records.specs.Places.{has}
use Rattle.records.specs.House.{House, house, staff, outsider, user, script}
use Rattle.records.specs.declared.User.{User}
use Rattle.records.specs.declared.Rule.{Rule}
use Rattle.request.specs.declared.Request.{Request}
use Rattle.request.specs.Writing.{Field, one, two, spelling}
use Rattle.leads.specs.Leads.{lead_count}
use Rattle.effects.specs.Effects.{effect}
use Rattle.judge.specs.declared.Grant.{Grant}
use Rattle.judge.specs.declared.Grant.TheVariants.{Pass, Keep, KeepNumbered}
use Rattle.fields.specs.Fields.{is_id, to_sixteen, from_one, is_sort, is_plain, is_first}
use Rattle.conditions.specs.Conditions.{no_users, is_user, is_staff, opening}
use Rattle.conditions.specs.Labels.{Covered}
use Rattle.reasons.specs.Shared.{pair_numbers, pair_led, draft_led, opens, covers, as_script, imports, draft_asked}
use Rattle.judge.specs.Kinds.{enrol_numbers, enrol_where, establish_lines, import_numbers, import_exists, import_lines, disband_lines, create_lines, kill_lines, lines_of, grant_of, ruling_of}
use Rattle.rules.specs.Rules.{rules}
use Rattle.rules.specs.Facts.{RoomNumber, LabelFits, Administered, Rules}
use Rattle.promises.specs.Fits.{field_fits, fits}
use Rattle.rules.proofs.Bools.{clash, left, right, itself, equal, ◌and◌, ◌then◌}
use Rattle.rules.proofs.Meaning.{rules_are}
use Rattle.promises.proofs.Granted.{Hold, conditions}
use Rattle.promises.proofs.Drafts.{ascending_later}
use Rattle.promises.proofs.Users.{enrol, establish, join_staff, join_outsider, leave, make_lead, end_lead}
use Rattle.conditions.proofs.Labels.{covered}
use Rattle.promises.proofs.Sessions.{open_in_room, open_in_house, open_read_only, kill}
use Rattle.promises.proofs.Texts as texts
use Rattle.promises.proofs.Texts.{add, merge, update, create}
use Rattle.promises.proofs.Sweep.{remove, disband}

-- ---- what the conditions of a kind say
room_of : (room : ℕ) → to_sixteen room ≡ true → from_one room ≡ true → RoomNumber room
room_of room high low = record { low = leb-true 1 room low; high = leb-true room 16 high }

id_of : (n : ℕ) → is_id n ≡ true → n < 64
id_of n k = omega (arith, leb-true n 63 k)

label_of : (level c : ℕ) → leb level 7 ≡ true → field_fits (two c) ≡ true → LabelFits level c
label_of level c k f = record { level_fits = leb-true level 7 k; categories_fit = omega (arith, ltb-true c _ f) }

-- field i fits its bytes
field_fits_lem : (fs : List Field) → all field_fits fs ≡ true → (i : ℕ) → field_fits (get_or fs i (one 0)) ≡ true
field_fits_lem [] a i = refl
field_fits_lem (f ∷ fs) a zero = left (field_fits f) (all field_fits fs) a
field_fits_lem (f ∷ fs) a (suc i) = field_fits_lem fs (right (field_fits f) (all field_fits fs) a) i

field_of : (q : Request) → fits q ≡ true → (i : ℕ) → field_fits (get_or (spelling q).fields i (one 0)) ≡ true
field_of q = field_fits_lem (spelling q).fields

staff_of : (u : User) → is_staff u ≡ true → u.sort ≡ staff
staff_of u k = eqb-true u.sort staff (right u.here (eqb u.sort staff) k)

other_of : (u : User) → u.here ≡ true → not (is_staff u) ≡ true → u.sort ≡ staff → ⊥
other_of u k n e = clash (rw (k, eq-eqb u.sort staff e)) (not-true (is_staff u) n)

sort_of : (sort : ℕ) → is_sort sort ≡ true → (sort ≡ staff) ⊎ (sort ≡ outsider)
sort_of sort = go (eqb sort staff) refl
  where
    go : (b : Bool) → eqb sort staff ≡ b → (b || eqb sort outsider) ≡ true → (sort ≡ staff) ⊎ (sort ≡ outsider)
    go true q r = inl (eqb-true sort staff q)
    go false q r = inr (eqb-true sort outsider r)

known_sort : (sort : ℕ) → (sort ≡ staff) ⊎ (sort ≡ outsider) → sort ≤ 2
known_sort sort (inl e) = omega arith
known_sort sort (inr e) = omega arith

chief_of : (sort admin : ℕ) → (sort ≡ staff) ⊎ (sort ≡ outsider) → (sort ≡ outsider → admin ≡ 0) → eqb admin 1 ≡ true → sort ≡ staff
chief_of sort admin (inl e) f k = e
chief_of sort admin (inr e) f k = absurd (omega (arith, f e, eqb-true admin 1 k))

plain_of : (sort field : ℕ) → is_plain sort field ≡ true → sort ≡ outsider → field ≡ 0
plain_of sort field = (equal {m = sort} {n = outsider} then equal {m = field} {n = 0}).says

-- there is an administrator already, or the new user is one
ruler_of : (h : House) (u admin : ℕ) → (no_users h || is_user h u) ≡ true → is_first (no_users h) admin 1 ≡ true → (no_users h || (user h u).admin) ≡ true
    → (eqb admin 1 ≡ true) ⊎ Administered h.users
ruler_of h u admin = go (no_users h)
  where
    go : (b : Bool) → (b || is_user h u) ≡ true → is_first b admin 1 ≡ true → (b || (user h u).admin) ≡ true → (eqb admin 1 ≡ true) ⊎ Administered h.users
    go true p first q = inl first
    go false p first q = inr (record { who = u; is_here = p; is_admin = q })

-- a session that is opened has no more than its owner
opens_of : (u : User) (level c : ℕ) → not (opening u level c).level ≡ true → not (opening u level c).categories ≡ true → Covered u.level u.categories level c
opens_of u level c l k = (covered house u.level u.categories house level c).says ((itself and itself).shown (l, k))

-- what a grant of the request q promises; n is the number of a change that takes none
abbrev Next : House → ℕ → ℕ → Request → Grant → Type 0
Next h last n q Pass = Unit {0}
Next h last n q Keep = Rules (effect h n q) last
Next h last n q KeepNumbered = last < 4294967295 → Rules (effect h (last + 1) q) (last + 1)
Next h last n q Grant.TakeBack = Unit {0}

module _ (rule : Rule) (h : House) (last : ℕ) (R : Rules h last) where
  -- where f k says that condition k of the kind holds
  next : (n : ℕ) (q : Request) → fits q ≡ true → Hold (lines_of rule h q) → Next h last n q (grant_of q)
  unfolding enrol_numbers enrol_where establish_lines pair_numbers pair_led draft_led import_numbers import_exists import_lines disband_lines opens covers as_script imports draft_asked create_lines kill_lines
  next n (Request.Enrol u new sort level c admin) w f =
      let s = sort_of sort (f 3) in
      let l = label_of level c (f 2) (field_of (Request.Enrol u new sort level c admin) w 4) in
      enrol h last R new sort level c admin (id_of new (f 1)) (not-true (user h new).here (f 9)) (known_sort sort s) l
      (chief_of sort admin s (plain_of sort admin (f 7))) (λ o. (plain_of sort level (f 5) o, plain_of sort c (f 6) o)) (ruler_of h u admin (f 8) (f 12) (f 13))
  next n (Request.Establish u room) w f = establish h last R u room (room_of room (f 1) (f 2)) (f 3) (not-true (has h.rooms room) (f 4)) (f 5)
  next n (Request.JoinStaff u m room) w f = join_staff h last R m room (room_of room (f 2) (f 3)) (f 5) (f 6) (staff_of (user h m) (f 8))
  next n (Request.LeaveStaff u m room) w f = leave h last R m room (room_of room (f 2) (f 3)) (f 5)
  next n (Request.JoinOutsider u m room level c) w f =
      let l = label_of level c (f 4) (field_of (Request.JoinOutsider u m room level c) w 4) in
      join_outsider h last R m room (room_of room (f 2) (f 3)) (f 6) level c (f 7) (other_of (user h m) (f 6) (f 9)) l
  next n (Request.LeaveOutsider u m room) w f = leave h last R m room (room_of room (f 2) (f 3)) (f 5)
  next n (Request.Add u s v room) w f = add h last R s v room (f 5) (f 9)
  next n (Request.Remove u s v room) w f = remove h last R s v room (room_of room (f 2) (f 3))
  next n (Request.Import u s₁ v s₂ room) w f = λ l. texts.imports h last R (ltb-true (length h.drafts) 256 (f 15)) l s₂ (f 8) (eqb-true (script h s₂).origin house (f 12))
  next n (Request.Merge u s v room) w f = merge h last R s v (eqb-true (script h s).origin house (f 10))
  next n (Request.Disband u room) w f = disband room (room_of room (f 1) (f 2)) h last R
  next n (Request.MakeLead u m room) w f = make_lead h last R m room (room_of room (f 2) (f 3)) (f 5) (f 6) (staff_of (user h m) (f 8))
  next n (Request.EndLead u m room) w f = end_lead h last R m room (room_of room (f 2) (f 3)) (f 5) (leb-true 2 (lead_count h room) (f 10))
  next n (Request.OpenInRoom u x room level c) w f =
      let l = label_of level c (f 4) (field_of (Request.OpenInRoom u x room level c) w 4) in
      let o = opens_of (user h u) level c (f 9) (f 10) in
      open_in_room h last R x (id_of x (f 1)) u level c (f 5) l o room (room_of room (f 2) (f 3)).low (f 6) (f 8)
  next n (Request.OpenInHouse u x level c) w f =
      let l = label_of level c (f 2) (field_of (Request.OpenInHouse u x level c) w 3) in
      let o = opens_of (user h u) level c (f 6) (f 7) in
      open_in_house h last R x (id_of x (f 1)) u level c (f 3) l o (staff_of (user h u) (f 5))
  next n (Request.OpenReadOnly u x level c) w f =
      let l = label_of level c (f 2) (field_of (Request.OpenReadOnly u x level c) w 3) in
      open_read_only h last R x (id_of x (f 1)) u level c (f 3) l (opens_of (user h u) level c (f 5) (f 6))
  next n (Request.Read x s v) w f = tt
  next n (Request.Update x s v) w f = λ l. update h last R (ltb-true (length h.drafts) 256 (f 9)) l x s v (f 4) (f 6)
  next n (Request.Create x s) w f = λ l. create h last R (ltb-true (length h.drafts) 256 (f 5)) l x s (id_of s (f 0)) (not-true (script h s).here (f 3)) (f 4)
  next n (Request.Kill u x) w f = kill h last R x (id_of x (f 1))
  next n (Request.TakeBack u) w f = tt

-- ---- the theorems, on the test of the record rules
module _ (rule : Rule) (h : House) (last : ℕ) (meets : rules h last ≡ true) where
  R : Rules h last
  R = (rules_are h last).says meets

  -- "Kept changes": a granted request that takes no draft number keeps the rules, whatever n
  pub kept : (q : Request) → fits q ≡ true → ruling_of rule h q ≡ Ok Keep → (n : ℕ) → rules (effect h n q) last ≡ true
  kept q w e n =
      let g = conditions rule h q Keep e in
      (rules_are (effect h n q) last).shown (subst (Next h last n q) g.given (next rule h last R n q w g.hold))

  -- "granted with a draft number (09, 14, 15)": such a request keeps the rules with the next number, which is then the last one issued
  pub kept_numbered : (q : Request) → fits q ≡ true → ruling_of rule h q ≡ Ok KeepNumbered → last < 4294967295 → rules (effect h (last + 1) q) (last + 1) ≡ true
  kept_numbered q w e l =
      let g = conditions rule h q KeepNumbered e in
      (rules_are (effect h (last + 1) q) (last + 1)).shown (subst (Next h last 0 q) g.given (next rule h last R 0 q w g.hold) l)

  -- "the counter stays": records that met the rules once meet them with every later counter
  pub later : (next : ℕ) → last ≤ next → next ≤ 4294967295 → rules h next ≡ true
  later next le top = (rules_are h next).shown (record {
    people = R.people;
    seats = R.seats;
    texts = record {
      size = R.texts.size;
      each = R.texts.each;
      drafted = R.texts.drafted;
      filed = R.texts.filed;
      ascending = ascending_later _ last next le h.drafts R.texts.ascending;
      at_most = R.texts.at_most;
    };
    counter = top;
  })
