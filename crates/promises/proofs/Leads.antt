-- At every moment of a run each room has a lead who is staff.
use Prim.Native.Nat.{ℕ}
use mathlib.Core.Path.{◌≡◌, refl}
use mathlib.Core.Bool.{Bool, true, false}
use mathlib.Core.List.{List}
use native.Mathlib.Decide.{ℕ_discrete}
use Rattle.request.specs.declared.Request.{Request}
use Rattle.records.specs.Lists.{all}
use Rattle.records.specs.Places.{has}
use Rattle.records.specs.House.{House, staff, user}
use Rattle.records.specs.declared.Rule.{Rule}
use Rattle.records.specs.declared.User.{User}
use Rattle.records.proofs.Places.{has_none}
use Rattle.conditions.specs.Conditions.{is_room}
use Rattle.rules.specs.Rules.{rules}
use Rattle.rules.specs.Facts.{UserFine}
use Rattle.rules.proofs.Bools.{clash}
use Rattle.rules.proofs.Meaning.{rules_are}
use Rattle.promises.specs.Fits.{fits}
use Rattle.promises.specs.Seen.{moment}
use Rattle.promises.specs.Leads.{StaffLead}
use Rattle.promises.proofs.Reached.{at_moments}

-- who leads a room is there, and is staff
module _ (rooms : ℕ) (u : User) (f : UserFine rooms u) (room : ℕ) (leads : has u.leads room ≡ true) where
  none_led : u.leads ≡ 0 → ⊥
  none_led z = clash (rw z at leads) (has_none room)

  lead_here : u.here ≡ true
  lead_here = go u.here refl
    where
      go : (b : Bool) → u.here ≡ b → u.here ≡ true
      go true e = e
      go false e = absurd (none_led (rw (f.absent e)))

  lead_staff : u.sort ≡ staff
  lead_staff = go (ℕ_discrete u.sort staff)
    where
      go : Dec (u.sort ≡ staff) → u.sort ≡ staff
      go (yes e) = e
      go (no n) = absurd (none_led (f.lead_staff n))

-- ---- of records that meet the rules
staff_led : (h : House) (last : ℕ) → rules h last ≡ true → (room : ℕ) → is_room h room ≡ true → StaffLead h room
staff_led h last m room there =
    let P = ((rules_are h last).says m).people in
    let l = P.led room there in
    let f = P.each l.where_it_is in
    record {
      who = l.where_it_is;
      is_here = lead_here h.rooms (user h l.where_it_is) f room l.holds;
      is_staff = lead_staff h.rooms (user h l.where_it_is) f room l.holds;
      leads = l.holds;
    }

-- ---- "Every room has at least one staff lead at all times"
pub always_led : (rule : Rule) (h : House) (last : ℕ) → rules h last ≡ true → (qs : List Request) → all fits qs ≡ true
    → (k room : ℕ) → is_room (moment rule h last qs k) room ≡ true → StaffLead (moment rule h last qs k) room
always_led rule = at_moments rule (λ g. (room : ℕ) → is_room g room ≡ true → StaffLead g room) staff_led
