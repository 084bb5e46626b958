-- What an answer to some lines says: that all hold, or the reason of the first that fails, whose number is the lowest that applies, by the order of refusals.
use Rattle.std.specs.Prelude.{Ok, Err}
use Prim.Native.Nat.{ℕ, suc, ◌≤◌}
use mathlib.Core.Path.{◌≡◌, refl, sym, ap, ◌∙◌}
use mathlib.Core.Bool.{Bool, true, false, not, cond, ◌&&◌, ◌||◌}
use mathlib.Core.List.{List, [], ◌∷◌, ◌++◌}
use native.Mathlib.Omega.{arith}
use lib.Dec.{eqb, leb}
use borrow.Author.Tests.{leb-true, le-leb, eqb-true, eq-eqb}
use Rattle.records.specs.Lists.{all, any}
use Rattle.reasons.specs.Reasons.{reason, zeros}
use Rattle.reasons.specs.Asking.{Line, ◌unless◌, ◌because◌, asked, told, AllHold, none, more, FirstFailing, here, later, Failing, this, that, applies, numbers, once_after}
use Rattle.reasons.specs.Order.{order, is_refusal, before, rank, ascend_from}
use Rattle.reasons.specs.declared.Reason.{Reason}

pub all_hold : {ls : List Line} → AllHold ls → asked ls ≡ Ok tt
unfolding asked
all_hold none = refl
all_hold (more e a) = rw e (all_hold a)

pub first_fails : {r : Reason} {ls : List Line} → FirstFailing r ls → asked ls ≡ Err r
unfolding asked
first_fails (here e q) = rw (e, q)
first_fails (later e f) = rw e (first_fails f)

-- a list has the one or the other
pub data Verdict (ls : List Line) : Type 0 where
  grant : AllHold ls → Verdict ls
  refusal : (r : Reason) → FirstFailing r ls → Verdict ls

pub verdict : (ls : List Line) → Verdict ls
verdict [] = grant none
verdict (n unless b because d ∷ ls) = go b refl (verdict ls)
  where
    go : (t : Bool) → b ≡ t → Verdict ls → Verdict (n unless b because d ∷ ls)
    go false e v = refusal (reason n d) (here e refl)
    go true e (grant a) = grant (more e a)
    go true e (refusal r f) = refusal r (later e f)

-- ---- 01: "The lowest n that applies is given"
pub split : (a b : Bool) → (a && b) ≡ true → (a ≡ true) × (b ≡ true)
split true b e = (refl, e)
split false b e = (e, cc)

pub ascends : (i n : ℕ) (ns : List ℕ) → ascend_from i (n ∷ ns) ≡ true → (is_refusal n ≡ true) × (leb i (rank n) ≡ true) × (ascend_from (rank n) ns ≡ true)
ascends i n ns a =
    let x = split (is_refusal n && leb i (rank n)) (ascend_from (rank n) ns) a in
    let y = split (is_refusal n) (leb i (rank n)) x.0 in
    (y.0, y.1, x.1)

from_lower : (i j : ℕ) (ns : List ℕ) → i ≤ j → ascend_from j ns ≡ true → ascend_from i ns ≡ true
from_lower i j [] le a = refl
from_lower i j (n ∷ ns) le a =
    let x = ascends j n ns a in
    let y = leb-true j (rank n) x.1 in
    rw (x.0, le-leb i (rank n) (omega arith)) x.2

at_least : {k : ℕ} (i : ℕ) {ls : List Line} → ascend_from i (numbers ls) ≡ true → Failing k ls → i ≤ rank k
at_least {k} i a (this {b} {d} {ls} e) = leb-true i (rank k) (ascends i k (numbers ls) a).1
at_least {k} i a (that {m = n} {ls = ls} f) =
    let x = ascends i n (numbers ls) a in
    let y = leb-true i (rank n) x.1 in
    let z = at_least (rank n) x.2 f in
    omega arith

-- in ascending lines none that fails stands before the first in the order of refusals
pub lowest : {r : Reason} {k : ℕ} (i : ℕ) {ls : List Line} → ascend_from i (numbers ls) ≡ true → FirstFailing r ls → Failing k ls → rank r.number ≤ rank k
lowest {r} {k} i a (here {n} e q) (this d) =
    let y : rank r.number ≡ rank k = ap (λ (t : Reason). rank t.number) q in
    omega arith
lowest {r} i a (here {n} {b} {d} {ls} e q) (that f) =
    let y : rank r.number ≡ rank n = ap (λ (t : Reason). rank t.number) q in
    let z = at_least (rank n) (ascends i n (numbers ls) a).2 f in
    omega arith
lowest i a (later e f) (this d) = absurd (let z : ◌≡◌ {A = ℕ} 0 1 = cc in omega arith)
lowest i a (later {n = j} {ls = ls} e f) (that d) = lowest (rank j) (ascends i j (numbers ls) a).2 f d

-- ascending numbers are refusals
pub all_refusals : (i : ℕ) (ns : List ℕ) → ascend_from i ns ≡ true → all is_refusal ns ≡ true
all_refusals i [] a = refl
all_refusals i (n ∷ ns) a = let x = ascends i n ns a in rw x.0 (all_refusals (rank n) ns x.2)

-- and so they are where each stands once
-- what ascends does so without its end, and with another end that ascends wherever that does
pub ascend_front : (i : ℕ) (ns ms : List ℕ) → ascend_from i (ns ++ ms) ≡ true → ascend_from i ns ≡ true
ascend_front i [] ms a = refl
ascend_front i (n ∷ ns) ms a = let x = ascends i n (ns ++ ms) a in rw (x.0, x.1) (ascend_front (rank n) ns ms x.2)

pub ascend_behind : (ms ks : List ℕ) → ((j : ℕ) → ascend_from j ms ≡ true → ascend_from j ks ≡ true) → (i : ℕ) (ns : List ℕ)
    → ascend_from i (ns ++ ms) ≡ true → ascend_from i (ns ++ ks) ≡ true
ascend_behind ms ks f i [] a = f i a
ascend_behind ms ks f i (n ∷ ns) a = let x = ascends i n (ns ++ ms) a in rw (x.0, x.1) (ascend_behind ms ks f (rank n) ns x.2)

pub numbers_more : (ls ks : List Line) → numbers (ls ++ ks) ≡ numbers ls ++ numbers ks
numbers_more [] ks = refl
numbers_more (n unless b because d ∷ ls) ks = ap (λ (ns : List ℕ). n ∷ ns) (numbers_more ls ks)

pub once_ascends : (i m : ℕ) (ns : List ℕ) → ascend_from i ns ≡ true → ascend_from i (once_after m ns) ≡ true
once_ascends i m [] a = refl
once_ascends i m (n ∷ ns) a = go (eqb m n) (ascends i n ns a) (once_ascends (rank n) n ns (ascends i n ns a).2)
  where
    go : (same : Bool) → (is_refusal n ≡ true) × (leb i (rank n) ≡ true) × (ascend_from (rank n) ns ≡ true) → ascend_from (rank n) (once_after n ns) ≡ true
        → ascend_from i (cond same (once_after n ns) (n ∷ once_after n ns)) ≡ true
    go true x rest = from_lower i (rank n) (once_after n ns) (leb-true i (rank n) x.1) rest
    go false x rest = rw (x.0, x.1) rest

-- two refusals of one rank are one
one_before : (m n : ℕ) (ms : List ℕ) → any (eqb m) ms ≡ true → before m ms ≡ before n ms → m ≡ n
one_before m n [] t e = absurd (let z : ◌≡◌ {A = ℕ} 0 1 = cc in omega arith)
one_before m n (k ∷ ms) t e = at (eqb m k) refl (eqb n k) refl t e (one_before m n ms)
  where
    at : (x : Bool) → eqb m k ≡ x → (y : Bool) → eqb n k ≡ y → (x || any (eqb m) ms) ≡ true
        → ◌≡◌ {A = ℕ} (cond x 0 (suc (before m ms))) (cond y 0 (suc (before n ms)))
        → (any (eqb m) ms ≡ true → before m ms ≡ before n ms → m ≡ n) → m ≡ n
    at true p true q t e f = eqb-true m k p ∙ sym (eqb-true n k q)
    at true p false q t e f = absurd (omega arith)
    at false p true q t e f = absurd (omega arith)
    at false p false q t e f = f t (omega arith)

pub one_rank : (m n : ℕ) → is_refusal m ≡ true → rank m ≡ rank n → m ≡ n
one_rank m n = one_before m n order

-- what all the numbers have, the first that fails has
pub holds_at : (p : ℕ → Bool) {r : Reason} {ls : List Line} → all p (numbers ls) ≡ true → FirstFailing r ls → p r.number ≡ true
holds_at p a (here {n} {b} {d} {ls} e q) = rw q (split (p n) (all p (numbers ls)) a).0
holds_at p a (later {n} {b} {d} {ls} e f) = holds_at p (split (p n) (all p (numbers ls)) a).1 f

-- the first that fails is one that fails
pub failing : {r : Reason} {ls : List Line} → FirstFailing r ls → Failing r.number ls
failing (here e q) = rw q (this e)
failing (later e f) = that (failing f)

-- ---- a number applies exactly where a line of it fails
module _ (n : ℕ) where
  pub applies_failing : (ls : List Line) → applies n ls ≡ true → Failing n ls
  applies_failing [] e = absurd (let z : ◌≡◌ {A = ℕ} 0 1 = cc in omega arith)
  applies_failing (m unless b because d ∷ ls) e = go (eqb n m) refl b refl e (applies_failing ls)
    where
      go : (s : Bool) → eqb n m ≡ s → (t : Bool) → b ≡ t → ((s && not t) || applies n ls) ≡ true → (applies n ls ≡ true → Failing n ls) → Failing n (m unless b because d ∷ ls)
      go true p false q e next = rw (← eqb-true n m p) (this q)
      go true p true q e next = that (next e)
      go false p t q e next = that (next e)

  pub failing_applies : {ls : List Line} → Failing n ls → applies n ls ≡ true
  failing_applies (this {b} {d} {ls} e) = rw (eq-eqb n n refl, e)
  failing_applies (that {m} {b} {d} {ls} f) = go (eqb n m && not b) (failing_applies f)
    where
      go : (t : Bool) → applies n ls ≡ true → (t || applies n ls) ≡ true
      go true e = refl
      go false e = e

-- ---- "a grant is explained exactly when all conditions hold": 0 is no refusal's, and so a grant's alone
pub zeros_if_all : {ls : List Line} → AllHold ls → told (asked ls) ≡ zeros
zeros_if_all a = rw (all_hold a)

pub all_if_zero : (ls : List Line) → ascend_from 0 (numbers ls) ≡ true → (told (asked ls)).number ≡ 0 → AllHold ls
all_if_zero ls a e = go (verdict ls)
  where
    go : Verdict ls → AllHold ls
    go (grant g) = g
    go (refusal r f) =
        let y : told (asked ls) ≡ r = rw (first_fails f) in
        let z : r.number ≡ 0 = rw y at e in
        let w : is_refusal r.number ≡ true = holds_at is_refusal (all_refusals 0 (numbers ls) a) f in
        let x : is_refusal 0 ≡ true = rw z at w in
        absurd (let v : ◌≡◌ {A = ℕ} 0 1 = cc in omega arith)
