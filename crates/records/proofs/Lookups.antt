-- Lookups: what a search has still to look through, and what a found draft is.
use Rattle.std.specs.Prelude.{Some, None}
use Prim.Native.Nat.{ℕ, suc, ◌+◌, ◌-◌, ◌≤◌, ◌<◌}
use mathlib.Core.Path.{◌≡◌, refl, ◌∙◌}
use mathlib.Core.Bool.{Bool, true, false, cond, ◌||◌}
use mathlib.Core.List.{List, [], ◌∷◌}
use native.Mathlib.Omega.{arith}
use native.Mathlib.Numerals.{add-one}
use lib.Dec.{eqb}
use lib.ListN.{length, drop, get_or, drop_of_length-le}
use lib.Seq.{drop-cons}
use Rattle.records.specs.Lists.{any}
use Rattle.records.specs.House.{House, draft_at, no_draft}
use Rattle.records.specs.Lookups.{first_from, draft_is, find_draft, draft}

-- ---- a search from the front: the element at hand, and then the rest
module _ {A : Type 0} (p : A → Bool) (l : List A) (i : ℕ) where
  pub first_more : (d : A) → i < length l → first_from i p (drop i l) ≡ cond (p (get_or l i d)) (Some i) (first_from (i + 1) p (drop (i + 1) l))
  first_more d h = rw (drop-cons l i d h, add-one)

  pub first_end : length l ≤ i → first_from i p (drop i l) ≡ None
  first_end h = rw (drop_of_length-le l h)

-- ---- no draft before place i has that number: for every script the search goes on there
abbrev pub From : House → ℕ → ℕ → Type 0
From h v i = (s : ℕ) → find_draft h s v ≡ first_from i (draft_is s v) (drop i h.drafts)

pub passed : (h : House) (v i j : ℕ) → i < length h.drafts → j ≡ i + 1 → eqb (draft_at h i).number v ≡ false → From h v i → From h v j
passed h v i j below next other from s = rw next (from s ∙ first_more (draft_is s v) h.drafts i no_draft below ∙ rw other)

-- ---- what a search found: a place of the list, where the test holds
pub record Stands {A : Type 0} (n : ℕ) (p : A → Bool) (l : List A) (d : A) (i : ℕ) : Type 0 where
  pub from : n ≤ i
  pub below : i < n + length l
  pub holds : p (get_or l (i - n) d) ≡ true

module _ {A : Type 0} (p : A → Bool) where
  pub first_stands : (n : ℕ) (l : List A) (d : A) (i : ℕ) → first_from n p l ≡ Some i → Stands n p l d i
  first_stands n [] d i e = absurd (let z : ◌≡◌ {A = ℕ} 0 1 = cc in omega arith)
  first_stands n (x ∷ xs) d i e = go (first_stands (suc n) xs d i) (p x) refl e
    where
      go : (first_from (suc n) p xs ≡ Some i → Stands (suc n) p xs d i) → (b : Bool) → p x ≡ b → cond b (Some n) (first_from (suc n) p xs) ≡ Some i → Stands n p (x ∷ xs) d i
      go rest true h f =
          let z : n ≡ i = cc in
          let y : i - n ≡ 0 = omega arith in
          record { from = omega arith; below = omega arith; holds = rw y h }
      go rest false h f =
          let r = rest f in
          let y : i - n ≡ suc (i - suc n) = omega arith in
          record { from = omega arith; below = omega arith; holds = rw y r.holds }

  -- nothing is found exactly where the test holds of none
  pub first_nothing : (n : ℕ) (l : List A) → first_from n p l ≡ None → any p l ≡ false
  first_nothing n [] e = refl
  first_nothing n (x ∷ xs) e = go (first_nothing (suc n) xs) (p x) e
    where
      go : (first_from (suc n) p xs ≡ None → any p xs ≡ false) → (b : Bool) → cond b (Some n) (first_from (suc n) p xs) ≡ None → (b || any p xs) ≡ false
      go rest true f = absurd (let z : ◌≡◌ {A = ℕ} 0 1 = cc in omega arith)
      go rest false f = rest f

  pub nothing_first : (n : ℕ) (l : List A) → any p l ≡ false → first_from n p l ≡ None
  nothing_first n [] e = refl
  nothing_first n (x ∷ xs) e = go (nothing_first (suc n) xs) (p x) e
    where
      go : (any p xs ≡ false → first_from (suc n) p xs ≡ None) → (b : Bool) → (b || any p xs) ≡ false → cond b (Some n) (first_from (suc n) p xs) ≡ None
      go rest true f = absurd (let z : ◌≡◌ {A = ℕ} 0 1 = cc in omega arith)
      go rest false f = rest f

-- ---- a draft by script and number
module _ (h : House) (s v : ℕ) where
  pub found_draft : (i : ℕ) → find_draft h s v ≡ Some i → draft h s v ≡ draft_at h i
  found_draft i e = rw e

  pub found_is : (i : ℕ) → find_draft h s v ≡ Some i → draft_is s v (draft_at h i) ≡ true
  found_is i e =
      let z : i - 0 ≡ i = omega arith in
      rw z at (first_stands (draft_is s v) 0 h.drafts no_draft i e).holds

  pub found_below : (i : ℕ) → find_draft h s v ≡ Some i → i < length h.drafts
  found_below i e = omega (arith, (first_stands (draft_is s v) 0 h.drafts no_draft i e).below)

  pub no_draft_lem : find_draft h s v ≡ None → any (draft_is s v) h.drafts ≡ false
  no_draft_lem = first_nothing (draft_is s v) 0 h.drafts

  pub draft_none : any (draft_is s v) h.drafts ≡ false → find_draft h s v ≡ None
  draft_none = nothing_first (draft_is s v) 0 h.drafts
