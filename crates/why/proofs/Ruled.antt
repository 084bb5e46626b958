-- The reason by the judge's ruling: a refusal has its own, and a grant that of what is asked after it.
use Rattle.std.specs.Prelude.{Result, Ok, Err}
use Rattle.std.specs.Result.{result_and}
use Prim.Native.Nat.{ℕ}
use mathlib.Core.Path.{◌≡◌, refl, sym, ap, ◌∙◌}
use Rattle.request.specs.declared.Request.{Request}
use Rattle.records.specs.House.{House}
use Rattle.records.specs.declared.Rule.{Rule}
use Rattle.reasons.specs.Asking.{asked, told}
use Rattle.reasons.specs.declared.Reason.{Reason}
use Rattle.reasons.proofs.Asking.{more}
use Rattle.judge.specs.declared.Grant.{Grant}
use Rattle.judge.specs.Kinds.{lines_of, grant_of, grant_if, ruling_of}
use Rattle.why.specs.Why.{after_lines, reason_after, reason_of}

module _ (last kept : ℕ) where
  by_ruling : (g : Grant) (a : Result (Unit {0}) Reason) → reason_after (grant_if g a) last kept ≡ told (result_and a (asked (after_lines g last kept)))
  by_ruling g (Ok x) = refl
  by_ruling g (Err r) = refl

  pub from_ruling : (rule : Rule) (h : House) (q : Request) {x : Result Grant Reason} → x ≡ ruling_of rule h q → reason_after x last kept ≡ reason_of rule h last kept q
  unfolding reason_of ruling_of
  from_ruling rule h q e =
      ap (λ (z : Result Grant Reason). reason_after z last kept) e
      ∙ by_ruling (grant_of q) (asked (lines_of rule h q))
      ∙ sym (ap told (more (lines_of rule h q) (after_lines (grant_of q) last kept)))
