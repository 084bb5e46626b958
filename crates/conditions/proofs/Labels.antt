-- The tests of labels and of shared places hold exactly when what they are called does.
use Prim.Native.Nat.{ℕ, ◌-◌, ◌≤◌}
use mathlib.Core.Path.{◌≡◌, refl, sym, ap, ◌∙◌}
use mathlib.Core.Bool.{Bool, true, false, not, cond, ◌&&◌, ◌||◌}
use mathlib.Core.Logic.{◌⊎◌, inl, inr}
use native.Mathlib.Omega.{arith}
use lib.Dec.{eqb}
use lib.Bits.{bit_and, and_comm, and_le_l}
use Rattle.std.proofs.lemmas.Bool.{both_ways, and_parts, and_from, or_cases, or_left, or_right, eqb-true, eqb-false, eq-eqb, ne_eqb, ltb-false, le-ltb, not-true, not-false}
use Rattle.std.proofs.Math.Bool.{and-false, or-false}
use Rattle.label.specs.declared.Label.TheVariants.{At}
use Rattle.label.specs.declared.Parts.{Parts}
use Rattle.label.specs.Labels.{contains, dominates, differs}
use Rattle.label.proofs.Dominance.{level_differs, categories_differ}
use Rattle.records.specs.Places.{has, with, only}
use Rattle.records.specs.House.{house}
use Rattle.records.specs.declared.Rule.{Rule}
use Rattle.records.specs.declared.Script.{Script}
use Rattle.records.specs.declared.User.{User}
use Rattle.records.specs.declared.Session.{Session}
use Rattle.records.specs.declared.Draft.{Draft}
use Rattle.records.proofs.Places.{has_and, has_less, has_none, has_with, has_only, contains_has, has_contains, some_place}
use Rattle.conditions.specs.Conditions.{is_staff, is_at, shares, sees, seen, importing}
use Rattle.conditions.specs.Labels.{Exactly, Covered, Lacks, Alike, Importable, Shared}

clash : {A : Type 0} {b : Bool} → b ≡ true → b ≡ false → A
clash p q = absurd (both_ways _ q p)

-- numbers do not differ exactly when they are equal
equal : (a b : ℕ) → Exactly (not (not (eqb a b))) (a ≡ b)
equal a b = record { says = λ t. eqb-true a b (not-false (eqb a b) (not-true (not (eqb a b)) t)); shown = λ e. ap (λ (t : Bool). not (not t)) (eq-eqb a b e) }

-- both tests hold exactly when each does
both : (a b : Bool) → Exactly (a && b) ((a ≡ true) × (b ≡ true))
both a b = record { says = and_parts a b; shown = λ e. and_from a b e.0 e.1 }

-- a set that does not contain another lacks one of it
lacks : (c c' : ℕ) → (bit_and c c' ≡ c' → ⊥) → Lacks c c'
lacks c c' k =
    let p = some_place (c' - bit_and c' c) (λ e. k (omega (arith, and_le_l c' c, and_comm c c'))) in
    let z = (both (has c' p.place) (not (has c p.place))).says (sym (has_less c' c p.place) ∙ p.there) in
    record { category = p.place; wanted = z.0; not_held = not-true (has c p.place) z.1 }

-- ---- 9 and 16, of labels at any two places: the place never counts
module _ (place level c place' level' c' : ℕ) where
  abbrev lacking : Parts
  lacking = dominates (At place level c) (At place' level' c')

  abbrev differing : Parts
  differing = differs (At place level c) (At place' level' c')

  pub level_covered : Exactly (not lacking.level) (level' ≤ level)
  level_covered = record { says = λ t. ltb-false level level' (not-true lacking.level t); shown = λ le. ap not (le-ltb level level' le) }

  pub categories_covered : Exactly (not lacking.categories) ((q : ℕ) → has c' q ≡ true → has c q ≡ true)
  categories_covered = record {
    says = λ t. contains_has c c' (not-false (contains c c') (not-true lacking.categories t));
    shown = λ f. ap (λ (b : Bool). not (not b)) (has_contains c c' f);
  }

  -- 02, L1: "one more category": there is one that is wanted and not held
  pub categories_lacking : Exactly lacking.categories (Lacks c c')
  categories_lacking = record {
    says = λ t. lacks c c' (eqb-false (bit_and c c') c' (not-true (contains c c') t));
    shown = λ k. ap not (ne_eqb (bit_and c c') c' (λ e. clash (contains_has c c' (eq-eqb (bit_and c c') c' e) k.category k.wanted) k.not_held));
  }

  pub level_alike : Exactly (not differing.level) (level ≡ level')
  level_alike = rw (level_differs place level c place' level' c') (equal level level')

  pub categories_alike : Exactly (not differing.categories) (c ≡ c')
  categories_alike = rw (categories_differ place level c place' level' c') (equal c c')

  -- both parts together
  pub covered : Exactly (not lacking.level && not lacking.categories) (Covered level c level' c')
  covered = record {
    says = λ t.
        let z = (both (not lacking.level) (not lacking.categories)).says t in
        record { no_higher = level_covered.says z.0; contained = categories_covered.says z.1 };
    shown = λ f. (both (not lacking.level) (not lacking.categories)).shown (level_covered.shown f.no_higher, categories_covered.shown f.contained);
  }

  pub alike : Exactly (not differing.level && not differing.categories) (Alike level c level' c')
  alike = record {
    says = λ t.
        let z = (both (not differing.level) (not differing.categories)).says t in
        record { level_alike = level_alike.says z.0; categories_alike = categories_alike.says z.1 };
    shown = λ f. (both (not differing.level) (not differing.categories)).shown (level_alike.shown f.level_alike, categories_alike.shown f.categories_alike);
  }

-- Import, by either rule: neither part fails exactly where the labels are as that rule wants them
pub importable : (rule : Rule) (k₂ k₁ : Script) → Exactly (not (importing rule k₂ k₁).level && not (importing rule k₂ k₁).categories) (Importable rule k₂ k₁)
importable Rule.One k₂ k₁ = alike k₂.origin k₂.level k₂.categories k₁.origin k₁.level k₁.categories
importable Rule.Two k₂ k₁ = covered k₂.origin k₂.level k₂.categories k₁.origin k₁.level k₁.categories

-- ---- 8
pub shared : (a b : ℕ) → Exactly (shares a b) (Shared a b)
shared a b = record { says = told; shown = shown }
  where
    told : shares a b ≡ true → Shared a b
    told t =
        let p = some_place (bit_and a b) (eqb-false (bit_and a b) 0 (not-true (eqb (bit_and a b) 0) t)) in
        let z = (both (has a p.place) (has b p.place)).says (sym (has_and a b p.place) ∙ p.there) in
        record { place = p.place; of_first = z.0; of_second = z.1 }

    shown : Shared a b → shares a b ≡ true
    shown s =
        let p = s.place in
        let there : has (bit_and a b) p ≡ true = has_and a b p ∙ (both (has a p) (has b p)).shown (s.of_first, s.of_second) in
        ap not (ne_eqb (bit_and a b) 0 (λ e. clash there (ap (λ (x : ℕ). has x p) e ∙ has_none p)))

-- ---- the set that is wanted at a Read: a draft is seen exactly where one of its places is in it
-- of the places a, where p alone is wanted
pub among_exactly : (a p : ℕ) → p ≤ 31 → Exactly (has a p) (Shared a (only p))
among_exactly a p le = record {
  says = λ t. record { place = p; of_first = t; of_second = has_only p le p ∙ eq-eqb p p refl };
  shown = λ s. at s.place s.of_first (eqb-true p s.place (sym (has_only p le s.place) ∙ s.of_second));
}
  where
    at : (q : ℕ) → has a q ≡ true → p ≡ q → has a p ≡ true
    at q h e = rw e h

-- of the places a, where the rooms b are wanted, and the house too
with_house : (a b : ℕ) → Exactly (shares a b || (has a house && true)) (Shared a (with b house))
with_house a b = record {
  says = λ t. go (or_cases (shares a b) (has a house && true) t);
  shown = λ s. back s.place s.of_first (or_cases (eqb house s.place) (has b s.place) (sym (has_with b house (omega arith) s.place) ∙ s.of_second));
}
  where
    go : (shares a b ≡ true) ⊎ ((has a house && true) ≡ true) → Shared a (with b house)
    go (inl t) =
        let s = (shared a b).says t in
        record { place = s.place; of_first = s.of_first; of_second = has_with b house (omega arith) s.place ∙ or_right (eqb house s.place) (has b s.place) s.of_second }
    go (inr t) = record { place = house; of_first = ((both (has a house) true).says t).0; of_second = has_with b house (omega arith) house }

    back : (q : ℕ) → has a q ≡ true → (eqb house q ≡ true) ⊎ (has b q ≡ true) → (shares a b || (has a house && true)) ≡ true
    back q h (inl e) = or_right (shares a b) (has a house && true) ((both (has a house) true).shown (at (eqb-true house q e), refl))
      where
        at : house ≡ q → has a house ≡ true
        at z = rw z h
    back q h (inr t) = or_left (shares a b) (has a house && true) ((shared a b).shown (record { place = q; of_first = h; of_second = t }))

without_house : (a b : ℕ) → Exactly (shares a b || (has a house && false)) (Shared a b)
without_house a b = rw (and-false (has a house), or-false (shares a b)) (shared a b)

module _ (s : Session) (owner : User) (d : Draft) where
  -- by an RO session
  pub seen_exactly : s.writes ≡ false → Exactly (sees s owner d) (Shared d.places (seen s owner))
  seen_exactly e = rw e (go (is_staff owner))
    where
      go : (b : Bool) → Exactly (shares d.places owner.rooms || (is_at d house && b)) (Shared d.places (cond b (with owner.rooms house) owner.rooms))
      go true = with_house d.places owner.rooms
      go false = without_house d.places owner.rooms

  -- by an RW session, which has its one place
  pub seated_exactly : s.writes ≡ true → s.place ≤ 31 → Exactly (sees s owner d) (Shared d.places (seen s owner))
  seated_exactly e le = rw e (among_exactly d.places s.place le)
