-- 02, L1: "9 now means the level fails or differs; 16 means only the categories do".
use Rattle.std.specs.Prelude.{Err}
use Prim.Native.Nat.{ℕ, ◌≤◌}
use mathlib.Core.Path.{◌≡◌, refl, sym, ap, ◌∙◌}
use mathlib.Core.Bool.{Bool, true, false}
use native.Mathlib.Omega.{arith}
use Rattle.records.specs.House.{House}
use Rattle.records.specs.declared.Rule.{Rule}
use Rattle.request.specs.declared.Request.{Request}
use Rattle.reasons.specs.Asking.{applies}
use Rattle.reasons.specs.Order.{rank}
use Rattle.reasons.specs.declared.Reason.{Reason}
use Rattle.reasons.proofs.Order.{failing, applies_failing, failing_applies}
use Rattle.judge.specs.Kinds.{lines_of, compared, ruling_of}
use Rattle.judge.specs.Compared.{Means}
use Rattle.judge.proofs.Rows.{fine}
use Rattle.judge.proofs.Order.{refused_exactly, lowest_given}

-- 9 applies exactly where the level fails or differs, and 16 where the categories do; a kind without labels has neither
pub nine_applies : (rule : Rule) (h : House) (q : Request) → applies 9 (lines_of rule h q) ≡ (compared rule h q).level
nine_applies rule h q = (fine q rule h).3

pub sixteen_applies : (rule : Rule) (h : House) (q : Request) → applies 16 (lines_of rule h q) ≡ (compared rule h q).categories
sixteen_applies rule h q = (fine q rule h).4

-- of every refusal: 9, that the level fails or differs; 16, that the level does not, and the categories do
module _ (rule : Rule) (h : House) (q : Request) (r : Reason) (e : ruling_of rule h q ≡ Err r) where
  given : (n : ℕ) → r.number ≡ n → applies n (lines_of rule h q) ≡ true
  given n z = rw (← z) (failing_applies r.number (failing ((refused_exactly rule h q r).0 e)))

  pub by_label : Means (compared rule h q) r
  by_label = record { of_level = λ z. sym (nine_applies rule h q) ∙ given 9 z; of_categories = λ z. (level z (compared rule h q).level refl, sym (sixteen_applies rule h q) ∙ given 16 z) }
    where
      level : r.number ≡ 16 → (b : Bool) → (compared rule h q).level ≡ b → (compared rule h q).level ≡ false
      level z false l = l
      level z true l =
          let before : rank r.number ≤ rank 9 = lowest_given rule h q r 9 e (applies_failing 9 (lines_of rule h q) (nine_applies rule h q ∙ l)) in
          let here : rank r.number ≡ rank 16 = ap rank z in
          absurd (omega arith)
