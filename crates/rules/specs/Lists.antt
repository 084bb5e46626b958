-- What is said of lists: of each element, of some place.
use Rattle.std.specs.Prelude.{ℕ, ◌≡◌, Bool, true, List, [], ◌∷◌, get_or}

-- of each
abbrev pub Each : {A : Type 0} → (A → Type 0) → List A → Type 0
Each P [] = Unit {0}
Each P (x ∷ xs) = P x × Each P xs

-- at some place; past the end stands d
pub record Somewhere {A : Type 0} (d : A) (p : A → Bool) (l : List A) : Type 0 where
  pub where_it_is : ℕ
  pub holds : p (get_or l where_it_is d) ≡ true
