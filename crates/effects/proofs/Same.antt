-- A user whose sets a room's end leaves as they are is the same user.
use mathlib.Core.Path.{◌≡◌, refl, sym, ap, ◌∙◌}
use mathlib.Core.Bool.{Bool, true, false, ◌&&◌}
use Prim.Native.Nat.{ℕ}
use lib.Dec.{eqb}
use borrow.Author.Tests.{eqb-true}
use Rattle.request.proofs.Absurd.{differ}
use Rattle.records.specs.Places.{without}
use Rattle.records.specs.declared.User.{User}
use Rattle.effects.specs.Elements.{parted}

pub both : (a b : Bool) → (a && b) ≡ true → (a ≡ true) × (b ≡ true)
both true b e = (refl, e)
both false b e = differ cc

parted_same : (room : ℕ) (u : User) → without u.rooms room ≡ u.rooms → without u.leads room ≡ u.leads → parted room u ≡ u
parted_same room u r l = λ i. record {
  here = u.here;
  sort = u.sort;
  level = u.level;
  categories = u.categories;
  rooms = r i;
  leads = l i;
  admin = u.admin;
}

-- u was read as v, and w is v without the room: where the code's test holds, nothing is to be stored
pub same_user : (room : ℕ) (u v : User) → v ≡ u → (w : User) → w ≡ parted room v → (eqb w.rooms v.rooms && eqb w.leads v.leads) ≡ true
    → parted room u ≡ u
same_user room u v e w p t =
    let k = both _ _ t in
    let r : without v.rooms room ≡ v.rooms = ap (λ (x : User). x.rooms) (sym p) ∙ eqb-true _ _ k.0 in
    let l : without v.leads room ≡ v.leads = ap (λ (x : User). x.leads) (sym p) ∙ eqb-true _ _ k.1 in
    ap (parted room) (sym e) ∙ parted_same room v r l ∙ e
