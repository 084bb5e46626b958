-- The body's length over ranges of kinds: each range, up to the next one, has its length by one test that is computed over it.
use mathlib.Core.Path.{◌≡◌, refl, sym, ap, ◌∙◌}
use mathlib.Core.Logic.{◌⊎◌, inl, inr}
use mathlib.Core.Bool.{Bool, true, false, ◌&&◌}
use Prim.Native.Nat.{ℕ, zero, suc, ◌+◌, ◌-◌, ◌<◌, ◌≤◌}
use native.Mathlib.Omega.{arith}
use lib.Dec.{T, eqb, ltb, eqb→eq, ltb→lt}
use lib.Ieee.Fits.{and_l, and_r}
use borrow.Author.Tests.{eqb-true, eqb-false}
use Rattle.request.specs.Kinds.{rows, length_at, body_length}
use Rattle.request.proofs.Rows.{every, absent}

-- each of the `count` kinds from `first` on has the length n
abbrev pub level : ℕ → ℕ → ℕ → Bool
level n first zero = true
level n first (suc count) = eqb (body_length first) n && level n (suc first) count

within : (n first count x : ℕ) → T (level n first count) → first ≤ x → x < first + count → n ≡ body_length x
within n first zero x t a b = absurd (omega arith)
within n first (suc count) x t a b =
    go (eqb x first) refl (λ further. within n (suc first) count x (and_r (eqb (body_length first) n) (level n (suc first) count) t) further (omega arith))
  where
    go : (s : Bool) → eqb x first ≡ s → (suc first ≤ x → n ≡ body_length x) → n ≡ body_length x
    go true q later = rw (eqb-true x first q) (sym (eqb→eq (body_length first) n (and_l (eqb (body_length first) n) (level n (suc first) count) t)))
    go false q later = let apart = eqb-false x first q in later (omega arith)

-- no row has a kind from `first` on, and n says so
abbrev pub unknown : ℕ → ℕ → Bool
unknown n first = eqb n 255 && every (λ k. ltb k first) rows

pub beyond : (n first x : ℕ) → T (unknown n first) → first ≤ x → n ≡ body_length x
unfolding body_length
beyond n first x t h =
    eqb→eq n 255 (and_l (eqb n 255) (every (λ k. ltb k first) rows) t)
    ∙ sym (ap length_at (absent (λ k. ltb k first) x (λ k s e. let below = ltb→lt k first s in omega (arith, below, e)) rows (and_r (eqb n 255) (every (λ k. ltb k first) rows) t)))

-- r is the length of the kind x, if x is below `end`
abbrev pub Below : ℕ → ℕ → ℕ → Type 0
Below x end r = x < end → r ≡ body_length x

-- a range by itself
pub start : {x first end n : ℕ} → T (level n first (end - first)) → first ≤ x → Below x end n
start {x} {first} {end} {n} t reached h = within n first (end - first) x t reached (omega arith)

-- the arms of a comparison with a range's first kind: the length stays below the range, and is the range's n up to the next one
pub range : {A B : Type 0} {x first end n below r : ℕ} → T (level n first (end - first)) → (A × (r ≡ below)) ⊎ (B × (r ≡ n)) → (A → x < first) → (B → first ≤ x) → Below x first below → Below x end r
range t (inl (a, e)) under reached right _ = e ∙ right (under a)
range t (inr (b, e)) under reached right h = e ∙ start t (reached b) h
