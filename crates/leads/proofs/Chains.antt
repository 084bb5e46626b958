-- A chain over the places of a list, 0, 1, .. to its length, asks what is asked of the list: of one of its elements, of each, of how many.
use Prim.Native.Nat.{ℕ, suc, ◌+◌}
use mathlib.Core.Path.{◌≡◌, refl, ap, ◌∙◌}
use mathlib.Core.Bool.{Bool, true, false, cond, ◌&&◌}
use mathlib.Core.List.{List, [], ◌∷◌}
use native.Mathlib.Omega.{arith}
use native.Mathlib.Nat.{zero-add}
use native.Mathlib.Numerals.{add-one}
use lib.ListN.{length, get_or}
use denote.Param.Members.{Mut}
use Rattle.std.specs.Fn.{Called}
use Rattle.std.specs.Iterator.{YieldsThen}
use Rattle.std.specs.List.{FoldsTo, range_with_len, list_any, list_all, filter}
use Rattle.std.specs.Option.{MatchOption}
use Rattle.std.specs.declared.ops.Range.{Range}
use Rattle.std.specs.declared.option.Option.{Option}
use Rattle.std.proofs.iter.Yields.{nat_range_steps}
use Rattle.std.proofs.lemmas.Iterator.{YieldsList-from_range}
use Rattle.std.proofs.lemmas.Iterator.Search.{any_from_yields_List, all_from_yields_List}
use Rattle.records.specs.Lists.{any, all, all_from, count}

-- ---- f asks p of each place and the element there; past the end stands d
module _ {A : Type 0} (p : ℕ → A → Bool) (d : A) (f : ℕ → Bool) where
  abbrev Asks : ℕ → List A → Type 0
  Asks a l = (k : ℕ) → f (a + k) ≡ p (a + k) (get_or l k d)

  first : (a : ℕ) (x : A) (xs : List A) → Asks a (x ∷ xs) → f a ≡ p a x
  first a x xs h = let e : a + 0 ≡ a = omega arith in rw e at (h 0)

  rest : (a : ℕ) (x : A) (xs : List A) → Asks a (x ∷ xs) → Asks (a + 1) xs
  rest a x xs h k = let e : a + suc k ≡ a + 1 + k = omega arith in rw e at (h (suc k))

  all_places : (a : ℕ) (l : List A) → Asks a l → list_all f (range_with_len a (length l)) ≡ all_from a p l
  all_places a [] h = refl
  all_places a (x ∷ xs) h = rw (first a x xs h, all_places (a + 1) xs (rest a x xs h), add-one a)

module _ {A : Type 0} (p : A → Bool) (d : A) (f : ℕ → Bool) where
  any_places : (a : ℕ) (l : List A) → Asks (λ _. p) d f a l → list_any f (range_with_len a (length l)) ≡ any p l
  any_places a [] h = refl
  any_places a (x ∷ xs) h = rw (first (λ _. p) d f a x xs h, any_places (a + 1) xs (rest (λ _. p) d f a x xs h))

  count_places : (a : ℕ) (l : List A) → Asks (λ _. p) d f a l → length (filter f (range_with_len a (length l))) ≡ count p l
  count_places a [] h = refl
  count_places a (x ∷ xs) h = rw (first (λ _. p) d f a x xs h) (go (p x) (count_places (a + 1) xs (rest (λ _. p) d f a x xs h)))
    where
      go : (b : Bool) → length (filter f (range_with_len (a + 1) (length xs))) ≡ count p xs
          → length (cond b (a ∷ filter f (range_with_len (a + 1) (length xs))) (filter f (range_with_len (a + 1) (length xs)))) ≡ cond b (suc (count p xs)) (count p xs)
      go true e = ap suc e
      go false e = e

every : {A : Type 0} (p : A → Bool) (a : ℕ) (l : List A) → all_from a (λ _. p) l ≡ all p l
every p a [] = refl
every p a (x ∷ xs) = ap (λ (b : Bool). p x && b) (every p (suc a) xs)

-- ---- a chain over a..b: it goes on at one answer of the test g, ends at the other, and then returned r
module _ {F : Type 0} (g : Mut F (ℕ × Unit {0}) Bool) (f : F) where
  abbrev pub Walked : ℕ → Range ℕ → Bool → Bool → Bool → Type 0
  Walked b u r on off = (xs : List ℕ) × (o : Option ℕ) × (j : F) × YieldsThen nat_range_steps (record { start = 0; end = b }) xs o u
      × FoldsTo (λ h x k. Called g h (x, tt) on k) f xs j × MatchOption o (r ≡ on) (λ x. (r ≡ off) × ((k : F) × Called g j (x, tt) off k))

  -- g, from f on, computes t, and is the same after it
  abbrev pub Tests : (ℕ → Bool) → Type 0
  Tests t = (i : ℕ) (b : Bool) (k : F) → Called g f (i, tt) b k → (k ≡ f) × (b ≡ t i)

-- ---- of a list of n elements
module _ {A : Type 0} (d : A) (l : List A) (n : ℕ) (long : length l ≡ n) where
  abbrev pub asked : (A → Bool) → ℕ → Bool
  asked p i = p (get_or l i d)

  asks : (p : A → Bool) → Asks (λ _. p) d (asked p) 0 l
  asks p k = ap (asked p) (zero-add k)

  pub count_of : (p : A → Bool) → length (filter (asked p) (range_with_len 0 n)) ≡ count p l
  count_of p = rw (← long) (count_places p d (asked p) 0 l (asks p))

  module _ {F : Type 0} {g : Mut F (ℕ × Unit {0}) Bool} {f : F} {u : Range ℕ} {r : Bool} where
    pub any_of : (p : A → Bool) → Walked g f n u r false true → Tests g f (asked p) → r ≡ any p l
    any_of p e t = any_from_yields_List (asked p) u f r e (YieldsList-from_range 0 n n refl (omega arith)) t ∙ rw (← long) (any_places p d (asked p) 0 l (asks p))

    -- of each element and its place
    pub all_from_of : (p : ℕ → A → Bool) → Walked g f n u r true false → Tests g f (λ i. p i (get_or l i d)) → r ≡ all_from 0 p l
    all_from_of p e t =
        all_from_yields_List (λ i. p i (get_or l i d)) u f r e (YieldsList-from_range 0 n n refl (omega arith)) t
        ∙ rw (← long) (all_places p d (λ i. p i (get_or l i d)) 0 l (λ k. ap (λ (i : ℕ). p (0 + k) (get_or l i d)) (zero-add k)))

    pub all_of : (p : A → Bool) → Walked g f n u r true false → Tests g f (asked p) → r ≡ all p l
    all_of p e t = all_from_of (λ _. p) e t ∙ every p 0 l
