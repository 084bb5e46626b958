-- What the search for a draft answers.
use Rattle.std.specs.Prelude.{Option, Some, None, Result, Ok, Err}
use Rattle.std.specs.Option.{ok_or}
use Prim.Native.Nat.{ℕ}
use mathlib.Core.Path.{◌≡◌, refl, sym, ap, ◌∙◌}
use mathlib.Core.Bool.{Bool, true, false}
use mathlib.Core.List.{[], ◌∷◌}
use Rattle.records.specs.House.{House}
use Rattle.records.specs.Lookups.{find_draft}
use Rattle.records.proofs.Lookups.{no_draft_lem, draft_none}
use Rattle.conditions.specs.Conditions.{is_draft}
use Rattle.reasons.specs.Reasons.{no_record, reason}
use Rattle.reasons.specs.Asking.{asked}
use Rattle.reasons.specs.Lines.{draft_exists}
use Rattle.reasons.specs.Reach.{reached_by}

module _ (h : House) (k v : ℕ) where
  draft_found : {i : ℕ} → find_draft h k v ≡ Some i → is_draft h k v ≡ true
  draft_found {i} e = go (is_draft h k v) refl
    where
      go : (b : Bool) → is_draft h k v ≡ b → b ≡ true
      go true p = refl
      go false p = cc (draft_none h k v p)

  -- its place, or the line that fails
  searched : ok_or (find_draft h k v) (reason 4 (no_record v 0)) ≡ reached_by h k v (asked (draft_exists h k v ∷ []))
  unfolding asked
  searched = go (find_draft h k v) refl
    where
      go : (x : Option ℕ) → find_draft h k v ≡ x → ok_or (find_draft h k v) (reason 4 (no_record v 0)) ≡ reached_by h k v (asked (draft_exists h k v ∷ []))
      go (Some i) e = rw (draft_found e, e)
      go None e = rw (no_draft_lem h k v e, e)

  pub found : (i : ℕ) → find_draft h k v ≡ Some i → Ok i ≡ reached_by h k v (asked (draft_exists h k v ∷ []))
  found i e = ap (λ (x : Option ℕ). ok_or x (reason 4 (no_record v 0))) (sym e) ∙ searched

  pub nothing : find_draft h k v ≡ None → Err (reason 4 (no_record v 0)) ≡ reached_by h k v (asked (draft_exists h k v ∷ []))
  nothing e = ap (λ (x : Option ℕ). ok_or x (reason 4 (no_record v 0))) (sym e) ∙ searched
