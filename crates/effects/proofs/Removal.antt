-- Remove, where the draft is found: a place is left, or it was the last.
use Rattle.std.specs.Prelude.{Option, Some}
use mathlib.Core.Path.{◌≡◌, sym, ap, ◌∙◌}
use Prim.Native.Nat.{ℕ}
use borrow.Author.Tests.{eq-eqb, ne_eqb}
use Rattle.records.specs.House.{House, draft_at, put_draft}
use Rattle.records.specs.Lookups.{find_draft, at_found}
use Rattle.records.specs.declared.Draft.{Draft}
use Rattle.effects.specs.Elements.{unplaced}
use Rattle.effects.specs.Effects.{less_one, swept, removed}

module _ (h : House) (s v room i : ℕ) (d : Draft) (found : find_draft h s v ≡ Some i) (less : d ≡ unplaced room (draft_at h i)) where
  by_draft : removed h s v room ≡ less_one h i d
  by_draft = ap (λ (f : Option ℕ). at_found f (λ j. less_one h j (unplaced room (draft_at h j))) h) found ∙ ap (less_one h i) (sym less)

  pub place_left : (k : House) → (d.places ≡ 0 → ⊥) → k ≡ put_draft h i d → k ≡ removed h s v room
  place_left k n e = e ∙ sym (by_draft ∙ rw (ne_eqb d.places 0 n))

  pub last_place : (k m : House) → d.places ≡ 0 → k ≡ put_draft h i d → m ≡ swept k → m ≡ removed h s v room
  last_place k m n e z = z ∙ ap swept e ∙ sym (by_draft ∙ rw (eq-eqb d.places 0 n))
