-- What two shapes of loop have done to a list after i turns: a filter by moving up, a search.
use Prim.Native.Nat.{ℕ, suc, ◌+◌, ◌≤◌, ◌<◌}
use mathlib.Core.Path.{◌≡◌, refl, sym, ap, ◌∙◌}
use mathlib.Core.Bool.{Bool, true, false, cond, ◌||◌, or-false, or_comm}
use mathlib.Core.List.{List, [], ◌∷◌, ◌++◌, append-nil}
use native.Mathlib.Numerals.{add-one}
use native.Mathlib.Nat.{add-zero}
use native.Mathlib.Omega.{arith}
use lib.ListN.{length, take, drop, get_or, set, length-set, drop_of_length-le}
use lib.Dec.{eqb}
use borrow.Author.Tests.{eqb-true, eqb-false}
use lib.Seq.{get_or-set_same, get_or-set_other, take-suc, drop-cons, take_all, take-suc-set, drop-set-lt, get_or-drop, drop-drop}
use Rattle.records.specs.Lists.{any, filter}

-- ---- a filter by moving up: i elements of l were passed, and those of which p holds stand in the first n places of a
pub record MovedUp {A : Type 0} (p : A → Bool) (l : List A) (i n : ℕ) (a : List A) : Type 0 where
  pub behind : n ≤ i
  pub size : length a ≡ length l
  pub front : take n a ≡ filter p (take i l)
  pub rest : drop i a ≡ drop i l

module _ {A : Type 0} (p : A → Bool) where
  keep_append : (xs ys : List A) → filter p (xs ++ ys) ≡ filter p xs ++ filter p ys
  keep_append [] ys = refl
  keep_append (x ∷ xs) ys = rw (keep_append xs ys, either (p x))
    where
      either : (b : Bool) → cond b (x ∷ (filter p xs ++ filter p ys)) (filter p xs ++ filter p ys) ≡ cond b (x ∷ filter p xs) (filter p xs) ++ filter p ys
      either true = refl
      either false = refl

  module _ (l : List A) where
    -- the first i stay where they are
    pub none_moved : (i : ℕ) → filter p (take i l) ≡ take i l → MovedUp p l i i l
    none_moved i e = record { behind = omega arith; size = refl; front = sym e; rest = refl }

    pub stays_next : (i : ℕ) (d : A) → i < length l → p (get_or l i d) ≡ true → filter p (take i l) ≡ take i l → filter p (take (i + 1) l) ≡ take (i + 1) l
    stays_next i d h t e = rw (add-one i, take-suc l i d h, keep_append (take i l) (get_or l i d ∷ []), e, t)

    pub stays_stored : (i : ℕ) (v : A) → i < length l → p v ≡ true → filter p (take i l) ≡ take i l → filter p (take (i + 1) (set l i v)) ≡ take (i + 1) (set l i v)
    stays_stored i v h t e = rw (add-one i, take-suc-set l i v h, keep_append (take i l) (v ∷ []), e, t)

    module _ (i n : ℕ) (a : List A) (d : A) (m : MovedUp p l i n a) where
      -- the next element is as it was
      pub moved_next : get_or a i d ≡ get_or l i d
      moved_next = ap (λ (k : ℕ). get_or a k d) (sym (add-zero i)) ∙ sym (get_or-drop i a 0 d) ∙ rw (m.rest, get_or-drop i l 0 d, add-zero)

      module _ (h : i < length l) where
        passed : filter p (take (suc i) l) ≡ take n a ++ filter p (get_or a i d ∷ [])
        passed = rw (take-suc l i d h, keep_append (take i l) (get_or l i d ∷ []), m.front, moved_next)

        later : drop (suc i) a ≡ drop (suc i) l
        later = rw (← add-one i, ← drop-drop 1 i a, ← drop-drop 1 i l, m.rest)

        pub moved_kept : p (get_or a i d) ≡ true → MovedUp p l (i + 1) (n + 1) (set a n (get_or a i d))
        moved_kept t = record {
          behind = omega (arith, m.behind);
          size = length-set a n (get_or a i d) ∙ m.size;
          front = rw (add-one i, add-one n, take-suc-set a n (get_or a i d) (omega (arith, m.behind, m.size)), passed, t);
          rest = rw (add-one i, drop-set-lt (suc i) a n (get_or a i d) (omega (arith, m.behind)), later);
        }

        pub moved_cut : p (get_or a i d) ≡ false → MovedUp p l (i + 1) n a
        moved_cut t = record {
          behind = omega (arith, m.behind);
          size = m.size;
          front = rw (add-one i, passed, t, append-nil);
          rest = rw (add-one i, later);
        }

    pub moved_all : (i n : ℕ) (a : List A) → MovedUp p l i n a → length l ≤ i → take n a ≡ filter p l
    moved_all i n a m h = m.front ∙ rw (take_all i l h)

-- ---- marks at the keys of the elements passed: of i elements of l each has marked the place of its key, below n
pub record Marked {A : Type 0} (key : A → ℕ) (n : ℕ) (l : List A) (i : ℕ) (m : List Bool) : Type 0 where
  pub size : length m ≡ n
  pub marks : (k : ℕ) → k < n → (get_or m k false || any (λ x. eqb (key x) k) (drop i l)) ≡ any (λ x. eqb (key x) k) l

module _ {A : Type 0} (key : A → ℕ) (n : ℕ) (l : List A) where
  pub none_marked : (m : List Bool) → length m ≡ n → ((k : ℕ) → k < n → get_or m k false ≡ false) → Marked key n l 0 m
  none_marked m z f = record { size = z; marks = λ k h. rw (f k h) }

  module _ (i : ℕ) (m : List Bool) (d : A) (h : i < length l) (before : Marked key n l i m) where
    further : (k : ℕ) → any (λ x. eqb (key x) k) (drop i l) ≡ (eqb (key (get_or l i d)) k || any (λ x. eqb (key x) k) (drop (i + 1) l))
    further k = rw (drop-cons l i d h, add-one)

    pub marked_more : (x : ℕ) → x ≡ key (get_or l i d) → x < n → Marked key n l (i + 1) (set m x true)
    marked_more x e below = record { size = length-set m x true ∙ before.size; marks = λ k b. go k (eqb x k) refl (rw (further k, ← e) at (before.marks k b)) }
      where
        go : (k : ℕ) (t : Bool) → eqb x k ≡ t → (get_or m k false || (eqb x k || any (λ x. eqb (key x) k) (drop (i + 1) l))) ≡ any (λ x. eqb (key x) k) l
            → (get_or (set m x true) k false || any (λ x. eqb (key x) k) (drop (i + 1) l)) ≡ any (λ x. eqb (key x) k) l
        go k true q is =
            let same : x ≡ k = eqb-true x k q in
            let there : get_or (set m x true) k false ≡ true = ap (λ (j : ℕ). get_or (set m x true) j false) (sym same) ∙ get_or-set_same m x true false (omega (arith, before.size)) in
            rw there (sym (or_comm (get_or m k false) true) ∙ (rw q at is))
        go k false q is = rw (get_or-set_other m x k true false (λ z. eqb-false x k q (sym z))) (rw q at is)

  pub marked_all : (i : ℕ) (m : List Bool) → length l ≤ i → Marked key n l i m → (k : ℕ) → k < n → get_or m k false ≡ any (λ x. eqb (key x) k) l
  marked_all i m h done k b = sym (or-false (get_or m k false)) ∙ (rw (drop_of_length-le l h) at (done.marks k b))
