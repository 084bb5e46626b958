-- "draft numbers from 1 to the counter, no two alike": what the ascending order of the live drafts says.
use Prim.Native.Nat.{ℕ, zero, suc, ◌<◌}
use mathlib.Core.Path.{◌≡◌, refl, ap}
use mathlib.Core.Bool.{true}
use mathlib.Core.List.{List, [], ◌∷◌}
use native.Mathlib.Omega.{arith}
use lib.ListN.{length, get_or}
use Rattle.records.specs.House.{House, no_draft, draft_at}
use Rattle.records.specs.declared.Draft.{Draft}
use Rattle.rules.specs.Rules.{rules}
use Rattle.rules.specs.Facts.{Ascending, Between}
use Rattle.rules.proofs.Meaning.{rules_are}

between : (n last : ℕ) (l : List Draft) → Ascending n last l → (i : ℕ) → i < length l → Between n (get_or l i no_draft).number last
between n last [] a i h = absurd (omega arith)
between n last (d ∷ ds) a zero h = record { above = a.0.0; up_to = a.0.1 }
between n last (d ∷ ds) a (suc i) h =
    let b = between d.number last ds a.1 i (omega arith) in
    record { above = omega (arith, a.0.0); up_to = b.up_to }

alike : (n last : ℕ) (l : List Draft) → Ascending n last l → (i j : ℕ) → i < length l → j < length l
    → (get_or l i no_draft).number ≡ (get_or l j no_draft).number → i ≡ j
alike n last [] a i j p q e = absurd (omega arith)
alike n last (d ∷ ds) a zero zero p q e = refl
alike n last (d ∷ ds) a zero (suc j) p q e = absurd (omega (arith, (between d.number last ds a.1 j (omega arith)).above))
alike n last (d ∷ ds) a (suc i) zero p q e = absurd (omega (arith, (between d.number last ds a.1 i (omega arith)).above))
alike n last (d ∷ ds) a (suc i) (suc j) p q e = ap suc (alike d.number last ds a.1 i j (omega arith) (omega arith) e)

module _ (h : House) (last : ℕ) (meets : rules h last ≡ true) where
  -- "from 1 to the counter"
  pub from_one_to_last : (i : ℕ) → i < length h.drafts → Between 0 (draft_at h i).number last
  from_one_to_last = between 0 last h.drafts ((rules_are h last).says meets).texts.ascending

  -- "no two alike"
  pub no_two_alike : (i j : ℕ) → i < length h.drafts → j < length h.drafts → (draft_at h i).number ≡ (draft_at h j).number → i ≡ j
  no_two_alike = alike _ last h.drafts ((rules_are h last).says meets).texts.ascending
