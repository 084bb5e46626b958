-- What the rule changes. 02, L3: "Only refusals 9 and 16 at Import are amended."
use Rattle.std.specs.Prelude.{ℕ, ◌≡◌, Result, Err}
use Rattle.request.specs.declared.Request.{Request}
use Rattle.request.specs.declared.Request.TheVariants.{Import}
use Rattle.reasons.specs.declared.Reason.{Reason}
use Rattle.judge.specs.declared.Grant.{Grant}

pub data IsImport : Request → Type 0 where
  is_import : (u k₁ v k₂ room : ℕ) → IsImport (Import u k₁ v k₂ room)

-- the rulings by rule 1 and by rule 2: they are one, or rule 1 refuses with 9 or with 16
pub data Amended (one two : Result Grant Reason) : Type 0 where
  alike : one ≡ two → Amended one two
  refuses_9 : (r : Reason) → one ≡ Err r → r.number ≡ 9 → Amended one two
  refuses_16 : (r : Reason) → one ≡ Err r → r.number ≡ 16 → Amended one two
