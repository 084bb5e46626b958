-- Bytes compared: as slices are.
use Rattle.std.specs.Prelude.{Result, Ok, Err}
use Prim.Native.Nat.{ℕ, ◌≤◌}
use mathlib.Core.Path.{◌≡◌, refl, ap, ◌∙◌}
use mathlib.Core.Bool.{Bool, ◌&&◌}
use mathlib.Core.List.{List, [], ◌∷◌}
use lib.Dec.{eqb}
use lib.ListN.{length, take}
use lib.Pointwise.{pointwise}
use native.Mathlib.Omega.{arith}
use Rattle.std.proofs.lemmas.Grind.{common_steps}
use Rattle.image.specs.Saving.{saved_answer, saved_buffer}
use Rattle.image.specs.declared.TooSmall.{TooSmall}
use Rattle.opening.specs.Opening.{same_bytes}

pub same_is_equal : (a b : List ℕ) → pointwise eqb a b ≡ same_bytes a b
same_is_equal [] [] = refl
same_is_equal [] (y ∷ ys) = refl
same_is_equal (x ∷ xs) [] = refl
same_is_equal (x ∷ xs) (y ∷ ys) = ap (λ (t : Bool). eqb x y && t) (same_is_equal xs ys)

-- what was saved stands at the front of the buffer, and is compared
pub saved_compared : (i out b : List ℕ) {new : List ℕ} {n : ℕ} {x : Result ℕ TooSmall} {r : Bool} → x ≡ saved_answer i out → x ≡ Ok n → new ≡ saved_buffer i out → r ≡ same_bytes (take n new) b → r ≡ same_bytes i b
saved_compared i out b {new} {n} {x} {r} e is at s =
    let front : take n new ≡ i = grind (arith, common_steps) in
    s ∙ ap (λ l. same_bytes l b) front
