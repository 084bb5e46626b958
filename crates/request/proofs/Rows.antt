-- Looking a kind up in the rows of 01's table.
use mathlib.Core.Path.{◌≡◌, refl, ◌∙◌, subst}
use mathlib.Core.Bool.{Bool, true, false, cond, ◌&&◌}
use mathlib.Core.List.{List, [], ◌∷◌}
use Prim.Native.Nat.{ℕ, ◌≤◌}
use native.Mathlib.Omega.{arith}
use lib.Dec.{T, eqb, ltb, ltb→lt}
use lib.Ieee.Fits.{and_l, and_r}
use borrow.Author.Tests.{ne_eqb, eqb-true}
use Rattle.request.specs.Kinds.{Row, Sought, at, none, find, rows, length_at}
use Rattle.request.proofs.Absurd.{differ}

-- ---- a property of every row is the found row's, whose kind is the one looked for
abbrev pub Each : (Row → Type 0) → List Row → Type 0
Each P [] = Unit {0}
Each P (r ∷ rs) = P r × Each P rs

infixr 30 ◌&◌
pub ◌&◌ : {A B : Type 0} → A → B → A × B
a & b = (a, b)

pub record Found (P : Row → Type 0) (x : ℕ) (r : Row) : Type 0 where
  pub holds : P r
  pub kind : x ≡ r.kind

pub found : (P : Row → Type 0) (x : ℕ) (r : Row) (rs : List Row) → Each P rs → find rs x ≡ at r → Found P x r
found P x r [] ps e = differ (cc)
found P x r (s ∷ rs) (p, ps) e = go (eqb x s.kind) refl e (found P x r rs ps)
  where
    go : (t : Bool) → eqb x s.kind ≡ t → cond t (at s) (find rs x) ≡ at r → (find rs x ≡ at r → Found P x r) → Found P x r
    go true q e later = let same : s ≡ r = cc in subst (Found P x) same (record { holds = p; kind = eqb-true x s.kind q })
    go false q e later = later e

-- ---- a kind that no row has is not found
abbrev pub every : (ℕ → Bool) → List Row → Bool
every p [] = true
every p (r ∷ rs) = p r.kind && every p rs

pub absent : (p : ℕ → Bool) (x : ℕ) → ((k : ℕ) → T (p k) → x ≡ k → ⊥) → (rs : List Row) → T (every p rs) → find rs x ≡ none
absent p x other [] t = refl
absent p x other (r ∷ rs) t =
    rw (ne_eqb x r.kind (other r.kind (and_l (p r.kind) (every p rs) t)))
    (absent p x other rs (and_r (p r.kind) (every p rs) t))

-- x is none of the keys, as the last arm of a match on x is told: of the last arm first
abbrev pub NoneOf : List ℕ → ℕ → Type 0
NoneOf [] x = Unit {0}
NoneOf (k ∷ ks) x = NoneOf ks x × (x ≡ k → ⊥)

abbrev among : List ℕ → ℕ → Bool
among [] k = false
among (j ∷ js) k = cond (eqb k j) true (among js k)

differs : (ks : List ℕ) (x : ℕ) → NoneOf ks x → (k : ℕ) → T (among ks k) → x ≡ k → ⊥
differs [] x n k t e = t
differs (j ∷ js) x n k t e = go (eqb k j) refl t (λ u. differs js x n.0 k u e)
  where
    go : (b : Bool) → eqb k j ≡ b → T (cond b true (among js k)) → (T (among js k) → ⊥) → ⊥
    go true q t later = n.1 (e ∙ eqb-true k j q)
    go false q t later = later t

-- the kinds of the rows, the last first
abbrev kinds_of : List Row → List ℕ → List ℕ
kinds_of [] ks = ks
kinds_of (r ∷ rs) ks = kinds_of rs (r.kind ∷ ks)

abbrev pub kinds : List ℕ
kinds = kinds_of rows []

pub not_a_kind : (x : ℕ) → NoneOf kinds x → find rows x ≡ none
not_a_kind x n = absent (among kinds) x (differs kinds x n) rows tt

-- ---- no body has more than eight bytes, so only a kind without a row has the length 255
abbrev pub short : List Row → Bool
short [] = true
short (r ∷ rs) = ltb r.length 9 && short rs

short_first : (r : Row) (rs : List Row) → T (short (r ∷ rs)) → r.length ≤ 8
short_first r rs t = let below = ltb→lt r.length 9 (and_l (ltb r.length 9) (short rs) t) in omega (arith, below)

pub short_found : (x : ℕ) (r : Row) (rs : List Row) → T (short rs) → find rs x ≡ at r → r.length ≤ 8
short_found x r [] t e = differ (cc)
short_found x r (s ∷ rs) t e = go (eqb x s.kind) e (short_found x r rs (and_r (ltb s.length 9) (short rs) t))
  where
    go : (b : Bool) → cond b (at s) (find rs x) ≡ at r → (find rs x ≡ at r → r.length ≤ 8) → r.length ≤ 8
    go true e later = let same : s ≡ r = cc in subst (λ (y : Row). y.length ≤ 8) same (short_first s rs t)
    go false e later = later e

pub unknown_kind : (x : ℕ) → length_at (find rows x) ≡ 255 → find rows x ≡ none
unknown_kind x e = go (find rows x) refl e
  where
    go : (s : Sought) → find rows x ≡ s → length_at s ≡ 255 → s ≡ none
    go none f e = refl
    go (at r) f e = absurd (omega (arith, short_found x r rows tt f, e))
