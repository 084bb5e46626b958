-- What is taken in one after the other makes the list again, or the set.
use Prim.Native.Nat.{ℕ, zero, suc, ◌+◌, ◌≤◌}
use mathlib.Core.Path.{◌≡◌, refl, sym, ap, ◌∙◌}
use mathlib.Core.Bool.{Bool, true, false, cond, ◌&&◌, ◌||◌}
use mathlib.Core.List.{List, [], ◌∷◌, ◌++◌, append-nil}
use native.Mathlib.Omega.{arith}
use lib.Dec.{eqb}
use lib.ListN.{length, take, get_or, set, replicate, length-append}
use lib.Seq.{set-append_seam, append_snoc, take_all}
use borrow.Author.Tests.{eqb-true}
use Rattle.records.specs.Lists.{any}
use Rattle.records.specs.Places.{has, with}
use Rattle.records.proofs.Places.{has_same, has_none, has_with}
use Rattle.rules.specs.Lists.{Each}

longer : {A : Type 0} (done : List A) (x : A) → length (done ++ (x ∷ [])) ≡ suc (length done)
longer done x = length-append done (x ∷ []) ∙ omega arith

-- each put in by its place
abbrev pub fills : {A S : Type 0} → (ℕ → A → S → S) → ℕ → List A → S → S
fills put n [] s = s
fills put n (x ∷ xs) s = fills put (suc n) xs (put n x s)

-- where it is there
abbrev pub put_if : {A S : Type 0} → (A → Bool) → (ℕ → A → S → S) → ℕ → A → S → S
put_if there put n x s = cond (there x) (put n x s) s

-- what is put into a part is put into the whole
pub fill_part : {A S T : Type 0} (put : ℕ → A → S → S) (into : ℕ → A → T → T) (whole : T → S)
    → ((n : ℕ) (x : A) (t : T) → put n x (whole t) ≡ whole (into n x t))
    → (n : ℕ) (xs : List A) (t : T) → fills put n xs (whole t) ≡ whole (fills into n xs t)
fill_part put into whole is n [] t = refl
fill_part put into whole is n (x ∷ xs) t = ap (fills put (suc n) xs) (is n x t) ∙ fill_part put into whole is (suc n) xs (into n x t)

module _ {A : Type 0} (there : A → Bool) (none : A) where
  -- a table: each goes to its place, where none was
  from_place : (done xs : List A) → Each (λ x. there x ≡ false → x ≡ none) xs
      → fills (put_if there (λ n x l. set l n x)) (length done) xs (done ++ replicate (length xs) none) ≡ done ++ xs
  from_place done [] e = refl
  from_place done (x ∷ xs) e =
      let rep = replicate (length xs) none in
      let on = fills (put_if there (λ n x l. set l n x)) in
      ap (on (suc (length done)) xs) (step (there x) refl) ∙ ap (λ (n : ℕ). on n xs (done ++ (x ∷ []) ++ rep)) (sym (longer done x))
      ∙ from_place (done ++ (x ∷ [])) xs e.1 ∙ append_snoc done x xs
    where
      step : (t : Bool) → there x ≡ t
          → cond t (set (done ++ none ∷ replicate (length xs) none) (length done) x) (done ++ none ∷ replicate (length xs) none)
          ≡ done ++ (x ∷ []) ++ replicate (length xs) none
      step true k = set-append_seam done none (replicate (length xs) none) x ∙ sym (append_snoc done x (replicate (length xs) none))
      step false k =
          ap (λ (y : A). done ++ y ∷ replicate (length xs) none) (sym (e.0 k)) ∙ sym (append_snoc done x (replicate (length xs) none))

  pub fill_table : (count : ℕ) (xs : List A) → length xs ≡ count → Each (λ x. there x ≡ false → x ≡ none) xs
      → fills (put_if there (λ n x l. set l n x)) 0 xs (replicate count none) ≡ xs
  fill_table count xs l e = ap (λ (n : ℕ). fills (put_if there (λ n x l. set l n x)) 0 xs (replicate n none)) (sym l) ∙ from_place [] xs e

-- a list with so much room: each goes behind the others
pub fill_list : {A : Type 0} (room n : ℕ) (done xs : List A) → length done + length xs ≤ room
    → fills (λ _ x l. take room (l ++ (x ∷ []))) n xs done ≡ done ++ xs
fill_list room n done [] h = sym (append-nil done)
fill_list room n done (x ∷ xs) h =
    let z = longer done x in
    let fits : length (done ++ (x ∷ [])) ≤ room = omega arith in
    ap (fills (λ _ y l. take room (l ++ (y ∷ []))) (suc n) xs) (take_all room (done ++ (x ∷ [])) fits)
    ∙ fill_list room (suc n) (done ++ (x ∷ [])) xs (omega arith) ∙ append_snoc done x xs

-- ---- a set, place by place
or_true : (b : Bool) → true ≡ (b || true)
or_true true = refl
or_true false = refl

or_never : (b c : Bool) → b ≡ (b || (c && false))
or_never true c = refl
or_never false true = refl
or_never false false = refl

module _ (places : ℕ) where
  filled : (n : ℕ) (rs : List ℕ) (s q : ℕ) → Each (λ r. r ≤ 31) rs
      → has (fills (put_if (has places) (λ _ r s. with s r)) n rs s) q ≡ (has s q || (has places q && any (λ r. eqb r q) rs))
  filled n [] s q h = or_never (has s q) (has places q)
  filled n (r ∷ rs) s q h = filled (suc n) rs (cond (has places r) (with s r) s) q h.1 ∙ step (has places r) refl (eqb r q) refl
    where
      step : (t : Bool) → has places r ≡ t → (e : Bool) → eqb r q ≡ e
          → (has (cond t (with s r) s) q || (has places q && any (λ r. eqb r q) rs)) ≡ (has s q || (has places q && (e || any (λ r. eqb r q) rs)))
      step true p true e =
          let x : has places q ≡ true = ap (has places) (sym (eqb-true r q e)) ∙ p in
          rw (has_with s r h.0 q, e, x) (or_true (has s q))
      step true p false e = rw (has_with s r h.0 q, e)
      step false p true e =
          let x : has places q ≡ false = ap (has places) (sym (eqb-true r q e)) ∙ p in
          rw x
      step false p false e = refl

  -- all of the set, where rs has each of its places
  pub fill_set : (rs : List ℕ) → Each (λ r. r ≤ 31) rs → ((q : ℕ) → has places q ≡ true → any (λ r. eqb r q) rs ≡ true)
      → fills (put_if (has places) (λ _ r s. with s r)) 0 rs 0 ≡ places
  fill_set rs low each = has_same _ places (λ q. filled 0 rs 0 q low ∙ rw (has_none q) (both q (has places q) refl))
    where
      both : (q : ℕ) (t : Bool) → has places q ≡ t → (t && any (λ r. eqb r q) rs) ≡ t
      both q true e = each q e
      both q false e = refl

-- a rule of what stands at every place is one of each
pub each_place : {A : Type 0} (P : A → Type 0) (d : A) (l : List A) → ((i : ℕ) → P (get_or l i d)) → Each P l
each_place P d [] f = tt
each_place P d (x ∷ xs) f = (f zero, each_place P d xs (λ i. f (suc i)))
