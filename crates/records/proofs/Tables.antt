-- What any table shows once cells are stored: its new element, its other elements, and nothing new where the store lies outside it.
use Prim.Native.Nat.{ℕ, zero, suc, ◌+◌, ◌*◌, ◌≤◌, ◌<◌, min}
use mathlib.Core.Path.{◌≡◌, refl, sym, ap, ◌∙◌}
use mathlib.Core.Logic.{◌⊎◌, ⊎_elim}
use mathlib.Core.List.{List, [], ◌∷◌}
use native.Mathlib.Omega.{arith}
use native.Mathlib.Nat.{mul-suc, mul-le-mul_left}
use native.Mathlib.Decide.{ℕ_discrete, dec_le}
use lib.ListN.{length, get_or, set, take, replicate, length-set, length-take, length-replicate, get_or-replicate, get_or-eq_default}
use lib.Seq.{get_or-set_same, get_or-set_other, set_out, get_or-take, ext_get_or}
use Rattle.records.specs.Tables.{Table, at, tabulate, table, puts, put_at}

-- ---- lists by their elements
module _ {A : Type 0} where
  pub length_tabulate : (n : ℕ) (f : ℕ → A) → length (tabulate n f) ≡ n
  unfolding tabulate
  length_tabulate zero f = refl
  length_tabulate (suc n) f = ap suc (length_tabulate n (λ i. f (suc i)))

  pub get_d_tabulate : (n : ℕ) (f : ℕ → A) (i : ℕ) (d : A) → i < n → get_or (tabulate n f) i d ≡ f i
  unfolding tabulate
  get_d_tabulate zero f i d h = absurd (omega arith)
  get_d_tabulate (suc n) f zero d h = refl
  get_d_tabulate (suc n) f (suc i) d h = get_d_tabulate n (λ j. f (suc j)) i d (omega arith)

-- zeros, also past their end
pub zeros_at : (n i : ℕ) → ◌≡◌ {A = ℕ} (get_or (replicate n 0) i 0) 0
zeros_at zero i = refl
zeros_at (suc n) zero = refl
zeros_at (suc n) (suc i) = zeros_at n i

-- ---- cells that a store leaves: all but those from lo up to hi
abbrev pub Outside : ℕ → ℕ → ℕ → Type 0
Outside lo hi j = lo ≤ j → j < hi → ⊥

abbrev pub Same : ℕ → ℕ → List ℕ → List ℕ → Type 0
Same lo hi s r = (j : ℕ) → Outside lo hi j → get_or r j 0 ≡ get_or s j 0

pub same_set : (s : List ℕ) (k v : ℕ) → Same k (suc k) s (set s k v)
same_set s k v j o = get_or-set_other s k j v 0 (λ e. o (omega arith) (omega arith))

pub length_puts : (s : List ℕ) (b k : ℕ) (vs : List ℕ) → length (puts s b k vs) ≡ length s
length_puts s b k [] = refl
length_puts s b k (v ∷ vs) = length_puts (set s (b + k) v) b (suc k) vs ∙ length-set s (b + k) v

same_puts : (s : List ℕ) (b k : ℕ) (vs : List ℕ) → Same (b + k) (b + k + length vs) s (puts s b k vs)
same_puts s b k [] j o = refl
same_puts s b k (v ∷ vs) j o =
    same_puts (set s (b + k) v) b (suc k) vs j (λ l h. o (omega arith) (omega arith)) ∙ get_or-set_other s (b + k) j v 0 (λ e. o (omega arith) (omega arith))

puts_at : (s : List ℕ) (b k : ℕ) (vs : List ℕ) (j : ℕ) → j < length vs → b + k + length vs ≤ length s
    → get_or (puts s b k vs) (b + (k + j)) 0 ≡ get_or vs j 0
puts_at s b k [] j h l = absurd (omega arith)
puts_at s b k (v ∷ vs) zero h l =
    let e : b + (k + 0) ≡ b + k = omega arith in
    rw (e, same_puts (set s (b + k) v) b (suc k) vs (b + k) (λ m n. omega arith), get_or-set_same s (b + k) v 0 (omega arith))
puts_at s b k (v ∷ vs) (suc j) h l =
    let e : b + (k + suc j) ≡ b + (suc k + j) = omega arith in
    let z = length-set s (b + k) v in
    rw (e, puts_at (set s (b + k) v) b (suc k) vs j (omega arith) (omega arith))

-- ---- a table that is laid out well: its cells are all there is to an element
pub record Laid {A : Type 0} (t : Table A) : Type 0 where
  pub near : (f g : ℕ → ℕ) → ((k : ℕ) → k < t.width → g k ≡ f k) → t.of g ≡ t.of f
  pub wide : (a : A) → length (t.cells a) ≡ t.width

-- an element's own cells say it again
abbrev pub Again : {A : Type 0} → Table A → A → Type 0
Again t a = t.of (λ k. get_or (t.cells a) k 0) ≡ a

-- element i ends before element n begins
row : (w i n : ℕ) → i < n → w * i + w ≤ w * n
row w i n h = rw (mul-suc w i) at (mul-le-mul_left w h)

-- where element i begins, and where the table ends
abbrev pub start : {A : Type 0} → Table A → ℕ → ℕ
start t i = t.base + t.width * i

abbrev end : {A : Type 0} → Table A → ℕ
end t = start t t.count

module _ {A : Type 0} (t : Table A) (laid : Laid t) where
  pub length_table : (s : List ℕ) → length (table t s) ≡ t.count
  unfolding table
  length_table s = length_tabulate t.count (at t s)

  pub table_at : (s : List ℕ) (i : ℕ) (d : A) → i < t.count → get_or (table t s) i d ≡ at t s i
  unfolding table
  table_at s i d h = get_d_tabulate t.count (at t s) i d h

  pub table_past : (s : List ℕ) (i : ℕ) (d : A) → t.count ≤ i → get_or (table t s) i d ≡ d
  table_past s i d h = let z = length_table s in get_or-eq_default (table t s) d (omega arith)

  pub table_kept : (s : List ℕ) (i : ℕ) (a : A) → t.count ≤ i → set (table t s) i a ≡ table t s
  table_kept s i a h = let z = length_table s in set_out (table t s) i a (omega arith)

  -- the first n elements
  pub first_length : (s : List ℕ) (n : ℕ) → length (take n (table t s)) ≡ min n t.count
  first_length s n = rw (length-take n (table t s), length_table s)

  pub first_at : (s : List ℕ) (n i : ℕ) (d : A) → i < length (take n (table t s)) → get_or (take n (table t s)) i d ≡ at t s i
  first_at s n i d h =
      let z = first_length s n in
      get_or-take n (table t s) i d (omega arith) ∙ table_at s i d (omega arith)

  -- a list that is as long and has the same elements
  table_is : (s : List ℕ) (l : List A) (d : A) → length l ≡ t.count → ((i : ℕ) → i < t.count → at t s i ≡ get_or l i d) → table t s ≡ l
  table_is s l d n e =
      let z = length_table s in
      ext_get_or d (table t s) l (z ∙ sym n) (λ i h. table_at s i d (omega arith) ∙ e i (omega arith))

  -- a store that lies before the table or behind it
  pub table_same : {lo hi : ℕ} (s r : List ℕ) → Same lo hi s r → (end t ≤ lo) ⊎ (hi ≤ t.base) → table t r ≡ table t s
  table_same s r m h =
      table_is r (table t s) (at t s 0) (length_table s) (λ i k. laid.near _ _ (λ j l.
      let z = row t.width i t.count k in
      m (start t i + j) (λ a b. ⊎_elim (λ x. omega arith) (λ x. omega arith) h)) ∙ sym (table_at s i (at t s 0) k))

  -- nothing but zeros
  pub table_zeros : (n : ℕ) (none : A) → t.of (λ _. 0) ≡ none → table t (replicate n 0) ≡ replicate t.count none
  table_zeros n none e =
      table_is (replicate n 0) (replicate t.count none) none (length-replicate t.count none)
      (λ i h. laid.near _ _ (λ j l. zeros_at n (start t i + j)) ∙ e ∙ sym (get_or-replicate t.count i none none h))

  module _ (s : List ℕ) (i : ℕ) (a : A) (h : i < t.count) where
    pub same_put : Same t.base (end t) s (put_at t s i a)
    same_put j o =
        let z = row t.width i t.count h in
        let w = laid.wide a in
        same_puts s (start t i) 0 (t.cells a) j (λ l k. o (omega arith) (omega arith))

    pub put_other : (j : ℕ) → (j ≡ i → ⊥) → at t (put_at t s i a) j ≡ at t s j
    put_other j n =
        laid.near _ _ (λ k l.
        same_puts s (start t i) 0 (t.cells a) (start t j + k) (λ x y. apart k l x y (dec_le (suc j) i) (dec_le (suc i) j)))
      where
        apart : (k : ℕ) → k < t.width → start t i + 0 ≤ start t j + k
            → start t j + k < start t i + 0 + length (t.cells a) → Dec (suc j ≤ i) → Dec (suc i ≤ j) → ⊥
        apart k l x y (yes b) q = let z = row t.width j i b in omega arith
        apart k l x y (no b) (yes q) =
            let z = row t.width i j q in
            let w = laid.wide a in
            omega arith
        apart k l x y (no b) (no q) = n (omega arith)

    pub put_here : Again t a → end t ≤ length s → at t (put_at t s i a) i ≡ a
    put_here again f =
        laid.near _ _ (λ k l.
        let z = row t.width i t.count h in
        let w = laid.wide a in
        let e : 0 + k ≡ k = omega arith in
        rw e at (puts_at s (start t i) 0 (t.cells a) k (omega arith) (omega arith))) ∙ again

    pub table_put : Again t a → end t ≤ length s → table t (put_at t s i a) ≡ set (table t s) i a
    table_put again f =
        table_is (put_at t s i a) (set (table t s) i a) a (length-set (table t s) i a ∙ length_table s) (λ j k. go j k (ℕ_discrete j i))
      where
        go : (j : ℕ) → j < t.count → Dec (j ≡ i) → at t (put_at t s i a) j ≡ get_or (set (table t s) i a) j a
        go j k (yes e) =
            let z = length_table s in
            rw (e, put_here again f, get_or-set_same (table t s) i a a (omega arith))
        go j k (no n) = put_other j n ∙ sym (table_at s j a k) ∙ sym (get_or-set_other (table t s) i j a a n)
