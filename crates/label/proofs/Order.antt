-- The order of labels, where one dominates another when nothing fails: it is reflexive, antisymmetric and transitive, and a join is a least upper bound.
-- Nothing is asked of the labels.
use mathlib.Core.Path.{◌≡◌, refl, sym, ◌∙◌}
use mathlib.Core.Bool.{Bool, true, false, not, cond, ◌||◌}
use Prim.Native.Nat.{ℕ, ◌≤◌, max}
use native.Mathlib.Omega.{arith}
use native.Mathlib.Nat.{le_refl}
use lib.Dec.{T, eqb, ltb}
use lib.Bits.{bit_and, bit_or}
use borrow.Author.Tests.{eq-eqb, eqb-true, eqb-false, ltb-false, le-ltb, not-false}
use Rattle.label.specs.Labels.{contains, Dominates, join}
use Rattle.label.specs.declared.Label.{Label}
use Rattle.label.specs.declared.Label.TheVariants.{High, Low, At}
use Rattle.label.proofs.Sets.{Contains, contains_refl, contains_antisym, contains_trans, union_left, union_right, union_least}

-- what it takes for a label at a place to dominate a label at a place
pub record Covers (p l c q m d : ℕ) : Type 0 where
  pub place : p ≡ q
  pub level : m ≤ l
  pub categories : Contains c d

-- nothing of three
pub none_of : (a b c : Bool) → T (not (a || b || c)) → (a ≡ false) × (b ≡ false) × (c ≡ false)
none_of true b c t = absurd t
none_of false true c t = absurd t
none_of false false true t = absurd t
none_of false false false t = (refl, refl, refl)

module _ (p l c q m d : ℕ) where
  pub dominates→covers : Dominates (At p l c) (At q m d) → Covers p l c q m d
  dominates→covers t =
      let held = none_of (ltb l m) (not (contains c d)) (not (eqb p q)) t in
      record {
        place = eqb-true p q (not-false (eqb p q) held.2);
        level = ltb-false l m held.0;
        categories = eqb-true (bit_and c d) d (not-false (contains c d) held.1);
      }

  pub covers→dominates : Covers p l c q m d → Dominates (At p l c) (At q m d)
  covers→dominates h = rw (le-ltb l m h.level, eq-eqb (bit_and c d) d h.categories, eq-eqb p q h.place) tt

-- every label dominates itself
pub reflexive : (a : Label) → Dominates a a
reflexive High = tt
reflexive Low = tt
reflexive (At p l c) = covers→dominates p l c p l c (record { place = refl; level = le_refl l; categories = contains_refl c })

-- labels that dominate each other are one label
pub antisymmetric : (a b : Label) → Dominates a b → Dominates b a → a ≡ b
antisymmetric High High s t = refl
antisymmetric High Low s t = absurd t
antisymmetric High (At q m d) s t = absurd t
antisymmetric Low High s t = absurd s
antisymmetric Low Low s t = refl
antisymmetric Low (At q m d) s t = absurd s
antisymmetric (At p l c) High s t = absurd s
antisymmetric (At p l c) Low s t = absurd t
antisymmetric (At p l c) (At q m d) s t =
    let x = dominates→covers p l c q m d s in
    let y = dominates→covers q m d p l c t in
    let level : l ≡ m = omega arith in
    let categories : c ≡ d = contains_antisym c d x.categories y.categories in
    cc x.place

-- a label dominates what a label that it dominates dominates
pub transitive : (a b c : Label) → Dominates a b → Dominates b c → Dominates a c
transitive High b c s t = tt
transitive Low High c s t = absurd s
transitive Low Low c s t = t
transitive Low (At q m d) c s t = absurd s
transitive (At p l c) High z s t = absurd s
transitive (At p l c) Low High s t = absurd t
transitive (At p l c) Low Low s t = tt
transitive (At p l c) Low (At r n e) s t = absurd t
transitive (At p l c) (At q m d) High s t = absurd t
transitive (At p l c) (At q m d) Low s t = tt
transitive (At p l c) (At q m d) (At r n e) s t =
    let x = dominates→covers p l c q m d s in
    let y = dominates→covers q m d r n e t in
    covers→dominates p l c r n e
    (record {
      place = x.place ∙ y.place;
      level = omega arith;
      categories = contains_trans c d e x.categories y.categories;
    })

-- What two labels at places join to, once it is known whether they share the place.
module _ (p l c q m d : ℕ) where
  abbrev meeting : Bool → Label
  meeting same = cond same (At p (max l m) (bit_or c d)) High

  meeting_left : (same : Bool) → Dominates (meeting same) (At p l c)
  meeting_left true =
      covers→dominates p (max l m) (bit_or c d) p l c (record { place = refl; level = omega arith; categories = union_left c d })
  meeting_left false = tt

  meeting_right : (same : Bool) → eqb p q ≡ same → Dominates (meeting same) (At q m d)
  meeting_right true e =
      covers→dominates p (max l m) (bit_or c d) q m d
      (record { place = eqb-true p q e; level = omega arith; categories = union_right c d })
  meeting_right false e = tt

  meeting_least : (z : Label) (same : Bool) → eqb p q ≡ same → Dominates z (At p l c) → Dominates z (At q m d)
      → Dominates z (meeting same)
  meeting_least High same e s t = tt
  meeting_least Low same e s t = absurd s
  meeting_least (At r n f) true e s t =
      let x = dominates→covers r n f p l c s in
      let y = dominates→covers r n f q m d t in
      covers→dominates r n f p (max l m) (bit_or c d)
      (record {
        place = x.place;
        level = omega arith;
        categories = union_least c d f x.categories y.categories;
      })
  meeting_least (At r n f) false e s t =
      let x = dominates→covers r n f p l c s in
      let y = dominates→covers r n f q m d t in
      absurd (eqb-false p q e (sym x.place ∙ y.place))

-- "The join dominates both .."
pub join_left : (a b : Label) → Dominates (join a b) a
join_left High b = tt
join_left Low High = tt
join_left Low Low = tt
join_left Low (At q m d) = tt
join_left (At p l c) High = tt
join_left (At p l c) Low = reflexive (At p l c)
join_left (At p l c) (At q m d) = meeting_left p l c q m d (eqb p q)

pub join_right : (a b : Label) → Dominates (join a b) b
join_right High b = tt
join_right Low b = reflexive b
join_right (At p l c) High = tt
join_right (At p l c) Low = tt
join_right (At p l c) (At q m d) = meeting_right p l c q m d (eqb p q) refl

-- ".. and is dominated by every label that dominates both."
pub join_least : (z a b : Label) → Dominates z a → Dominates z b → Dominates z (join a b)
join_least z High b s t = s
join_least z Low b s t = t
join_least z (At p l c) High s t = t
join_least z (At p l c) Low s t = s
join_least z (At p l c) (At q m d) s t = meeting_least p l c q m d z (eqb p q) refl s t
