-- Tables in one list of cells: where each lies, how an element is read from its cells and laid out in them.
use Rattle.std.specs.Prelude.{ℕ, zero, suc, ◌+◌, ◌*◌, List, [], ◌∷◌, get_or, set}

-- `count` elements of `width` cells each, the first from cell `base` on; `of` reads an element off its cells, and `cells` gives them
pub record Table (A : Type 0) : Type 0 where
  pub base : ℕ
  pub width : ℕ
  pub count : ℕ
  pub of : (ℕ → ℕ) → A
  pub cells : A → List ℕ

-- element i
abbrev pub at : {A : Type 0} → Table A → List ℕ → ℕ → A
at t s i = t.of (λ k. get_or s (t.base + t.width * i + k) 0)

-- f 0, f 1, .. : n of them
unfoldable pub tabulate : {A : Type 0} → ℕ → (ℕ → A) → List A
tabulate zero f = []
tabulate (suc n) f = f zero ∷ tabulate n (λ i. f (suc i))

-- all elements
unfoldable pub table : {A : Type 0} → Table A → List ℕ → List A
table t s = tabulate t.count (at t s)

-- the values in the cells b + k, b + (k + 1), ..
abbrev pub puts : List ℕ → ℕ → ℕ → List ℕ → List ℕ
puts s b k [] = s
puts s b k (v ∷ vs) = puts (set s (b + k) v) b (suc k) vs

-- element i anew
abbrev pub put_at : {A : Type 0} → Table A → List ℕ → ℕ → A → List ℕ
put_at t s i a = puts s (t.base + t.width * i) 0 (t.cells a)
