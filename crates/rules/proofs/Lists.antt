-- Lists: what a new element, a map, a filter and one element more do to what stands at a place, to a rule of each, and to whether there is one.
use Prim.Native.Nat.{ℕ, zero, suc, ◌+◌, ◌≤◌, ◌<◌}
use mathlib.Core.Path.{◌≡◌, refl, sym, ap, ◌∙◌, subst}
use mathlib.Core.Bool.{Bool, true, false, cond, ◌||◌}
use mathlib.Core.List.{List, [], ◌∷◌, ◌++◌, map}
use native.Mathlib.Omega.{arith}
use native.Mathlib.Nat.{add-zero, zero-add, add-suc, suc-add}
use native.Mathlib.Decide.{ℕ_discrete}
use lib.Dec.{leb}
use borrow.Author.Tests.{le-leb}
use lib.ListN.{length, take, get_or, set, get_or-map}
use lib.Seq.{get_or-set_same, get_or-set_other}
use Rattle.records.specs.Lists.{any, all, all_from, count, filter, map_from}
use Rattle.rules.specs.Lists.{Each, Somewhere}
use Rattle.rules.specs.Facts.{Is}
use Rattle.rules.proofs.Bools.{clash, either, second, said, ◌and◌}

-- ---- what stands at a place
module _ {A : Type 0} (d : A) where
  pub at_set : (P : A → Type 0) (l : List A) (i : ℕ) (v : A) (j : ℕ) → i < length l → (j ≡ i → P v) → ((j ≡ i → ⊥) → P (get_or l j d)) → P (get_or (set l i v) j d)
  at_set P l i v j h same other = go (ℕ_discrete j i)
    where
      go : Dec (j ≡ i) → P (get_or (set l i v) j d)
      go (yes e) = rw (e, get_or-set_same l i v d h) (same e)
      go (no n) = rw (get_or-set_other l i j v d n) (other n)

  pub at_map : (f : A → A) → f d ≡ d → (l : List A) (i : ℕ) → get_or (map f l) i d ≡ f (get_or l i d)
  at_map f e l i = ap (λ (x : A). get_or (map f l) i x) (sym e) ∙ get_or-map f l i d

  at_map_from : (f : ℕ → A → A) → ((k : ℕ) → f k d ≡ d) → (n : ℕ) (l : List A) (i : ℕ) → get_or (map_from n f l) i d ≡ f (n + i) (get_or l i d)
  at_map_from f e n [] i = sym (e (n + i))
  at_map_from f e n (x ∷ xs) zero = rw add-zero
  at_map_from f e n (x ∷ xs) (suc i) = rw (add-suc n i, ← suc-add n i) (at_map_from f e (suc n) xs i)

  pub at_places : (f : ℕ → A → A) → ((k : ℕ) → f k d ≡ d) → (l : List A) (i : ℕ) → get_or (map_from 0 f l) i d ≡ f i (get_or l i d)
  at_places f e l i = at_map_from f e 0 l i ∙ rw zero-add

pub length_map_from : {A : Type 0} (f : ℕ → A → A) (n : ℕ) (l : List A) → length (map_from n f l) ≡ length l
length_map_from f n [] = refl
length_map_from f n (x ∷ xs) = ap suc (length_map_from f (suc n) xs)

-- ---- a rule of each
module _ {A : Type 0} where
  pub each_imp : (P Q : A → Type 0) (l : List A) → ((x : A) → P x → Q x) → Each P l → Each Q l
  each_imp P Q [] f e = tt
  each_imp P Q (x ∷ xs) f e = (f x e.0, each_imp P Q xs f e.1)

  pub each_both : (P Q : A → Type 0) (l : List A) → Each P l → Each Q l → Each (λ x. P x × Q x) l
  each_both P Q [] e g = tt
  each_both P Q (x ∷ xs) e g = ((e.0, g.0), each_both P Q xs e.1 g.1)

  pub each_at : (P : A → Type 0) (l : List A) (d : A) (i : ℕ) → i < length l → Each P l → P (get_or l i d)
  each_at P [] d i h e = absurd (omega arith)
  each_at P (x ∷ xs) d zero h e = e.0
  each_at P (x ∷ xs) d (suc i) h e = each_at P xs d i (omega arith) e.1

  pub each_set : (P : A → Type 0) (l : List A) (i : ℕ) (v : A) → P v → Each P l → Each P (set l i v)
  each_set P [] i v p e = tt
  each_set P (x ∷ xs) zero v p e = (p, e.1)
  each_set P (x ∷ xs) (suc i) v p e = (e.0, each_set P xs i v p e.1)

  pub each_map : (P Q : A → Type 0) (f : A → A) (l : List A) → ((x : A) → P x → Q (f x)) → Each P l → Each Q (map f l)
  each_map P Q f [] g e = tt
  each_map P Q f (x ∷ xs) g e = (g x e.0, each_map P Q f xs g e.1)

  pub each_keep : (P Q : A → Type 0) (p : A → Bool) (l : List A) → ((x : A) → p x ≡ true → P x → Q x) → Each P l → Each Q (filter p l)
  each_keep P Q p [] f e = tt
  each_keep P Q p (x ∷ xs) f e = go (each_keep P Q p xs f e.1) (p x) refl
    where
      go : Each Q (filter p xs) → (b : Bool) → p x ≡ b → Each Q (cond b (x ∷ filter p xs) (filter p xs))
      go r true q = (f x q e.0, r)
      go r false q = r

  pub each_more : (P : A → Type 0) (l : List A) (x : A) → Each P l → P x → Each P (l ++ (x ∷ []))
  each_more P [] x e p = (p, tt)
  each_more P (y ∷ ys) x e p = (e.0, each_more P ys x e.1 p)

  pub each_take : (P : A → Type 0) (n : ℕ) (l : List A) → Each P l → Each P (take n l)
  each_take P zero l e = tt
  each_take P (suc n) [] e = tt
  each_take P (suc n) (x ∷ xs) e = (e.0, each_take P n xs e.1)

  -- one of them made anew of itself
  pub each_anew : (P : A → Type 0) (f : A → A) → ((x : A) → P x → P (f x)) → (d : A) (l : List A) (i : ℕ) → Each P l → Each P (set l i (f (get_or l i d)))
  each_anew P f k d [] i e = tt
  each_anew P f k d (x ∷ xs) zero e = (k x e.0, e.1)
  each_anew P f k d (x ∷ xs) (suc i) e = (e.0, each_anew P f k d xs i e.1)

  pub length_keep : (p : A → Bool) (l : List A) → length (filter p l) ≤ length l
  length_keep p [] = omega arith
  length_keep p (x ∷ xs) = go (length_keep p xs) (p x)
    where
      go : length (filter p xs) ≤ length xs → (b : Bool) → length (cond b (x ∷ filter p xs) (filter p xs)) ≤ suc (length xs)
      go h true = omega arith
      go h false = omega arith

  -- ---- whether there is one
  pub any_more : (p : A → Bool) (l : List A) (x : A) → any p l ≡ true → any p (l ++ (x ∷ [])) ≡ true
  any_more p [] x h = clash h refl
  any_more p (y ∷ ys) x h = either (p y) (any_more p ys x) h

  pub any_last : (p : A → Bool) (l : List A) (x : A) → p x ≡ true → any p (l ++ (x ∷ [])) ≡ true
  any_last p [] x h = rw h
  any_last p (y ∷ ys) x h = second (p y) (any_last p ys x h)

  pub any_set : (p : A → Bool) (l : List A) (d : A) (i : ℕ) (v : A) → p v ≡ p (get_or l i d) → any p (set l i v) ≡ any p l
  any_set p [] d i v e = refl
  any_set p (x ∷ xs) d zero v e = rw e
  any_set p (x ∷ xs) d (suc i) v e = rw (any_set p xs d i v e)

  -- one of which p holds, with its rule
  pub record One (p : A → Bool) (P : A → Type 0) : Type 0 where
    pub it : A
    pub holds : p it ≡ true
    pub rule : P it

  pub any_one : (P : A → Type 0) (p : A → Bool) (l : List A) → any p l ≡ true → Each P l → One p P
  any_one P p [] h e = clash h refl
  any_one P p (x ∷ xs) h e = go (λ r. any_one P p xs r e.1) (p x) refl h
    where
      go : (any p xs ≡ true → One p P) → (b : Bool) → p x ≡ b → (b || any p xs) ≡ true → One p P
      go s true q r = record { it = x; holds = q; rule = e.0 }
      go s false q r = s r

  pub any_none : (p : A → Bool) (l : List A) → any p l ≡ false → Each (λ x. p x ≡ false) l
  any_none p [] h = tt
  any_none p (x ∷ xs) h = go (any_none p xs) (p x) refl h
    where
      go : (any p xs ≡ false → Each (λ y. p y ≡ false) xs) → (b : Bool) → p x ≡ b → (b || any p xs) ≡ false → Each (λ y. p y ≡ false) (x ∷ xs)
      go f true q r = clash refl r
      go f false q r = (q, f r)

  -- a test that holds of x itself finds one where x stands
  pub each_any : (t : A → A → Bool) → ((x : A) → t x x ≡ true) → (l : List A) → Each (λ x. any (t x) l ≡ true) l
  each_any t r [] = tt
  each_any t r (x ∷ xs) =
      (rw (r x), each_imp (λ y. any (t y) xs ≡ true) (λ y. (t y x || any (t y) xs) ≡ true) xs (λ y h. second (t y x) h) (each_any t r xs))

-- ---- tests over a list and what they say: of what stands at every place, past the end too; of each; of some place, and of another one
module _ {A : Type 0} where
  pub each_is : (t : A → Bool) (P : A → Type 0) → ((x : A) → Is (t x) (P x)) → (l : List A) → Is (all t l) (Each P l)
  each_is t P s [] = record { says = λ _. tt; shown = λ _. refl }
  each_is t P s (x ∷ xs) = s x and each_is t P s xs

module _ {A : Type 0} (d : A) where
  pub everywhere : (t : A → Bool) (P : A → Type 0) → ((x : A) → Is (t x) (P x)) → P d → (l : List A) → Is (all t l) ((i : ℕ) → P (get_or l i d))
  everywhere t P s z [] = record { says = λ _ i. z; shown = λ _. refl }
  everywhere t P s z (x ∷ xs) = said (s x and everywhere t P s z xs) to (λ f. (f zero, (λ i. f (suc i))))
    where
      to : P x × ((i : ℕ) → P (get_or xs i d)) → (i : ℕ) → P (get_or (x ∷ xs) i d)
      to p zero = p.0
      to p (suc i) = p.1 i

  from : (t : ℕ → A → Bool) (P : ℕ → A → Type 0) → ((n : ℕ) (x : A) → Is (t n x) (P n x)) → ((n : ℕ) → P n d) → (n : ℕ) (l : List A)
      → Is (all_from n t l) ((i : ℕ) → P (n + i) (get_or l i d))
  from t P s z n [] = record { says = λ _ i. z (n + i); shown = λ _. refl }
  from t P s z n (x ∷ xs) = said (s n x and from t P s z (suc n) xs) to back
    where
      to : P n x × ((i : ℕ) → P (suc n + i) (get_or xs i d)) → (i : ℕ) → P (n + i) (get_or (x ∷ xs) i d)
      to p zero = rw add-zero p.0
      to p (suc i) = rw (add-suc n i, ← suc-add n i) (p.1 i)

      back : ((i : ℕ) → P (n + i) (get_or (x ∷ xs) i d)) → P n x × ((i : ℕ) → P (suc n + i) (get_or xs i d))
      back f = (rw add-zero at (f zero), (λ i. rw (suc-add n i, ← add-suc n i) (f (suc i))))

  pub places_are : (t : ℕ → A → Bool) (P : ℕ → A → Type 0) → ((n : ℕ) (x : A) → Is (t n x) (P n x)) → ((n : ℕ) → P n d) → (l : List A)
      → Is (all_from 0 t l) ((i : ℕ) → P i (get_or l i d))
  places_are t P s z l = said (from t P s z 0 l) (λ f i. rw zero-add at (f i)) (λ f i. rw zero-add (f i))

  -- p holds at some place
  pub somewhere : (p : A → Bool) → p d ≡ false → (l : List A) → Is (any p l) (Somewhere d p l)
  somewhere p z [] = record { says = λ h. clash h refl; shown = λ e. clash e.holds z }
  somewhere p z (x ∷ xs) = go (p x) refl (somewhere p z xs)
    where
      go : (b : Bool) → p x ≡ b → Is (any p xs) (Somewhere d p xs) → Is (b || any p xs) (Somewhere d p (x ∷ xs))
      go true q s = record { says = λ _. record { where_it_is = 0; holds = q }; shown = λ _. refl }
      go false q s = record {
        says = λ h. let e = s.says h in record { where_it_is = suc e.where_it_is; holds = e.holds };
        shown = λ e. s.shown (later e.where_it_is e.holds);
      }
        where
          later : (i : ℕ) → p (get_or (x ∷ xs) i d) ≡ true → Somewhere d p xs
          later zero h = clash h q
          later (suc i) h = record { where_it_is = i; holds = h }

  module _ (p : A → Bool) (z : p d ≡ false) where
    -- where one or more are counted there is one
    count_any : (l : List A) → leb 1 (count p l) ≡ any p l
    count_any [] = refl
    count_any (x ∷ xs) = go (p x) (count_any xs)
      where
        go : (b : Bool) → leb 1 (count p xs) ≡ any p xs → leb 1 (cond b (suc (count p xs)) (count p xs)) ≡ (b || any p xs)
        go true e = le-leb 1 (suc (count p xs)) (omega arith)
        go false e = e

    pub counted : (l : List A) → Is (leb 1 (count p l)) (Somewhere d p l)
    counted l = subst (λ (b : Bool). Is b (Somewhere d p l)) (sym (count_any l)) (somewhere p z l)

    -- where two or more are counted there is one at another place than w
    pub record Elsewhere (l : List A) (w : ℕ) : Type 0 where
      pub place : ℕ
      pub holds : p (get_or l place d) ≡ true
      pub other : place ≡ w → ⊥

    behind : (x : A) (xs : List A) → 1 ≤ count p xs → Elsewhere (x ∷ xs) 0
    behind x xs n = let s = (counted xs).says (le-leb 1 (count p xs) n) in record { place = suc s.where_it_is; holds = s.holds; other = λ e. omega arith }

    pub elsewhere : (l : List A) (w : ℕ) → 2 ≤ count p l → Elsewhere l w
    elsewhere [] w n = absurd (omega arith)
    elsewhere (x ∷ xs) w n = go (p x) refl w n (elsewhere xs)
      where
        go : (b : Bool) → p x ≡ b → (w : ℕ) → 2 ≤ cond b (suc (count p xs)) (count p xs) → ((w : ℕ) → 2 ≤ count p xs → Elsewhere xs w) → Elsewhere (x ∷ xs) w
        go true q zero n later = behind x xs (omega arith)
        go true q (suc w) n later = record { place = 0; holds = q; other = λ e. omega arith }
        go false q zero n later = behind x xs (omega arith)
        go false q (suc w) n later = let o = later w n in record { place = suc o.place; holds = o.holds; other = λ e. o.other (omega arith) }
