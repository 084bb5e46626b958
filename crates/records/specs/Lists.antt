-- Lists: whether a test holds of one element or of each, those of which it holds, each by its place.
use Rattle.std.specs.Prelude.{ℕ, suc, Bool, true, false, cond, ◌&&◌, ◌||◌, List, [], ◌∷◌}

-- of one of them
abbrev pub any : {A : Type 0} → (A → Bool) → List A → Bool
any p [] = false
any p (x ∷ xs) = p x || any p xs

-- of each
abbrev pub all : {A : Type 0} → (A → Bool) → List A → Bool
all p [] = true
all p (x ∷ xs) = p x && all p xs

-- of each and its place, the first being place n
abbrev pub all_from : {A : Type 0} → ℕ → (ℕ → A → Bool) → List A → Bool
all_from n p [] = true
all_from n p (x ∷ xs) = p n x && all_from (suc n) p xs

-- how many
abbrev pub count : {A : Type 0} → (A → Bool) → List A → ℕ
count p [] = 0
count p (x ∷ xs) = cond (p x) (suc (count p xs)) (count p xs)

-- those of which it holds, in their order
abbrev pub filter : {A : Type 0} → (A → Bool) → List A → List A
filter p [] = []
filter p (x ∷ xs) = cond (p x) (x ∷ filter p xs) (filter p xs)

-- each by a function of its place and itself, the first being place n
abbrev pub map_from : {A : Type 0} → ℕ → (ℕ → A → A) → List A → List A
map_from n f [] = []
map_from n f (x ∷ xs) = f n x ∷ map_from (suc n) f xs
