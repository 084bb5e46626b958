-- What 9 and 16 say of the parts of labels that a kind of request compares.
use Rattle.std.specs.Prelude.{◌≡◌, true, false}
use Rattle.label.specs.declared.Parts.{Parts}
use Rattle.reasons.specs.declared.Reason.{Reason}

-- 02, L1: "9 now means the level fails or differs; 16 means only the categories do": what a reason says of these parts
pub record Means (f : Parts) (r : Reason) : Type 0 where
  pub of_level : r.number ≡ 9 → f.level ≡ true
  pub of_categories : r.number ≡ 16 → (f.level ≡ false) × (f.categories ≡ true)
