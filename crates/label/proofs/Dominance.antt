-- Which parts fail is read off the two labels, and what fails both ways says in which parts they differ. Nothing is asked of the labels.
use mathlib.Core.Path.{◌≡◌, refl, sym, ap}
use mathlib.Core.Bool.{Bool, true, false, not, ◌&&◌, ◌||◌}
use mathlib.Core.Logic.{◌⊎◌, inl, inr}
use Prim.Native.Nat.{ℕ, ◌<◌}
use native.Mathlib.Omega.{arith}
use lib.Dec.{T, eqb, leb, ltb}
use lib.Bits.{bit_and}
use borrow.Author.Tests.{eq-eqb, ne_eqb, eqb-true, eqb-false, ltb-true, ltb-false, lt-ltb, le-leb, lt-leb, not-true}
use Rattle.label.specs.Labels.{is_high, is_low, contains, none, every, either, nothing, dominates, covers, differs}
use Rattle.label.specs.declared.Parts.{Parts}
use Rattle.label.specs.declared.Label.{Label}
use Rattle.label.specs.declared.Label.TheVariants.{High, Low, At}
use Rattle.label.proofs.Sets.{Contains, contains_refl, contains_antisym}
use Rattle.label.proofs.Order.{none_of, reflexive, antisymmetric}

-- ---- two labels at places: each part for itself, whatever the others are
module _ (p l c q m d : ℕ) where
  -- "level: A's is lower"
  pub level_fails : ((dominates (At p l c) (At q m d)).level ≡ true → l < m) × (l < m → (dominates (At p l c) (At q m d)).level ≡ true)
  level_fails = (ltb-true l m, lt-ltb l m)

  -- "categories: A's lack one of B's"
  pub categories_fail : ((dominates (At p l c) (At q m d)).categories ≡ true → Contains c d → ⊥) × ((Contains c d → ⊥) → (dominates (At p l c) (At q m d)).categories ≡ true)
  categories_fail = (λ t. eqb-false (bit_and c d) d (not-true (contains c d) t), λ f. ap not (ne_eqb (bit_and c d) d f))

  -- "place: differs"
  pub place_fails : ((dominates (At p l c) (At q m d)).place ≡ true → p ≡ q → ⊥) × ((p ≡ q → ⊥) → (dominates (At p l c) (At q m d)).place ≡ true)
  place_fails = (λ t. eqb-false p q (not-true (eqb p q) t), λ f. ap not (ne_eqb p q f))

-- ---- what covers is no lower in level and lacks no category
module _ (l c m d : ℕ) where
  abbrev rest : Bool → Bool → Bool
  rest low lacks = not (low || lacks || false)

  pub covers_both : covers l c m d ≡ (leb m l && contains c d)
  covers_both = go (ltb l m) refl (contains c d)
    where
      go : (low : Bool) → ltb l m ≡ low → (b : Bool) → rest low (not b) ≡ (leb m l && b)
      go true e b = rw (lt-leb m l (ltb-true l m e))
      go false e true = rw (le-leb m l (ltb-false l m e))
      go false e false = rw (le-leb m l (ltb-false l m e))

  -- whatever the place
  pub covers_anywhere : (p : ℕ) → nothing (dominates (At p l c) (At p m d)) ≡ covers l c m d
  covers_anywhere p = rw (eq-eqb p p refl)

-- ---- an end on either side: all three fail, or nothing does
abbrev pub an_end : Label → Bool
an_end a = is_high a || is_low a

pub all_or_nothing : (a b : Label) → T (an_end a || an_end b) → (dominates a b ≡ every) ⊎ (dominates a b ≡ none)
all_or_nothing High b t = inr refl
all_or_nothing Low High t = inl refl
all_or_nothing Low Low t = inr refl
all_or_nothing Low (At q m d) t = inl refl
all_or_nothing (At p l c) High t = inl refl
all_or_nothing (At p l c) Low t = inr refl
all_or_nothing (At p l c) (At q m d) t = absurd t

-- ---- both ways: in which parts two labels differ
module _ (p l c q m d : ℕ) where
  pub level_differs : (differs (At p l c) (At q m d)).level ≡ not (eqb l m)
  level_differs = go (ltb l m) (ltb m l) refl refl
    where
      go : (s t : Bool) → ltb l m ≡ s → ltb m l ≡ t → (s || t) ≡ not (eqb l m)
      go true t e f = let x = ltb-true l m e in rw (ne_eqb l m (λ z. omega arith))
      go false true e f = let x = ltb-true m l f in rw (ne_eqb l m (λ z. omega arith))
      go false false e f =
          let x = ltb-false l m e in
          let y = ltb-false m l f in
          rw (eq-eqb l m (omega arith))

  pub categories_differ : (differs (At p l c) (At q m d)).categories ≡ not (eqb c d)
  categories_differ = go (contains c d) (contains d c) refl refl
    where
      go : (s t : Bool) → contains c d ≡ s → contains d c ≡ t → (not s || not t) ≡ not (eqb c d)
      go true true e f = rw (eq-eqb c d (contains_antisym c d (eqb-true (bit_and c d) d e) (eqb-true (bit_and d c) c f)))
      go true false e f = rw (ne_eqb c d (λ z. eqb-false (bit_and d c) c f (rw z (contains_refl d))))
      go false t e f = rw (ne_eqb c d (λ z. eqb-false (bit_and c d) d e (rw z (contains_refl d))))

  pub place_differs : (differs (At p l c) (At q m d)).place ≡ not (eqb p q)
  place_differs = go (eqb p q) refl (eqb q p) refl
    where
      go : (s : Bool) → eqb p q ≡ s → (t : Bool) → eqb q p ≡ t → (not s || not t) ≡ not s
      go true e true f = refl
      go true e false f = absurd (eqb-false q p f (sym (eqb-true p q e)))
      go false e t f = refl

-- two labels differ in nothing exactly when they are one label
neither : (a b : Bool) → (a || b) ≡ false → (a ≡ false) × (b ≡ false)
neither true b e = (e, absurd (let z : ◌≡◌ {A = ℕ} 0 1 = cc in omega arith))
neither false b e = (refl, e)

module _ (f g : Parts) where
  one_way : T (nothing (either f g)) → T (nothing f)
  one_way t =
      let parts = none_of (f.level || g.level) (f.categories || g.categories) (f.place || g.place) t in
      rw ((neither f.level g.level parts.0).0, (neither f.categories g.categories parts.1).0, (neither f.place g.place parts.2).0) tt

  other_way : T (nothing (either f g)) → T (nothing g)
  other_way t =
      let parts = none_of (f.level || g.level) (f.categories || g.categories) (f.place || g.place) t in
      rw ((neither f.level g.level parts.0).1, (neither f.categories g.categories parts.1).1, (neither f.place g.place parts.2).1) tt

  both_ways : T (nothing f) → T (nothing g) → T (nothing (either f g))
  both_ways s t =
      let a = none_of f.level f.categories f.place s in
      let b = none_of g.level g.categories g.place t in
      rw (a.0, a.1, a.2, b.0, b.1, b.2) tt

pub one_label : (a b : Label) → (T (nothing (differs a b)) → a ≡ b) × (a ≡ b → T (nothing (differs a b)))
one_label a b = (λ t. antisymmetric a b (one_way (dominates a b) (dominates b a) t) (other_way (dominates a b) (dominates b a) t), same)
  where
    same : a ≡ b → T (nothing (differs a b))
    same e = rw e (both_ways (dominates b b) (dominates b b) (reflexive b) (reflexive b))
