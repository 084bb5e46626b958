-- Bytes laid behind bytes.
use Prim.Native.Nat.{ℕ, ◌+◌, ◌≤◌}
use mathlib.Core.Path.{◌≡◌, sym, ap, ◌∙◌}
use mathlib.Core.List.{List, [], ◌++◌, append_assoc, append-nil}
use native.Mathlib.Omega.{arith}
use lib.ListN.{length, take, drop, length-append, length-drop, take-append-drop}
use lib.Seq.{length-take-le, take_at, drop_at, drop-drop}
use Rattle.image.specs.Puts.{Put, Laid}

pub put_length : {xs b ys : List ℕ} {at r : ℕ} → Put xs at b r ys → r ≤ length xs → length ys ≡ length xs
put_length {xs} {b} {ys} {at} {r} p h =
    let e = p.ends in
    ap length p.list ∙ length-append (take at xs ++ b) (drop r xs)
    ∙ omega (arith, length-append (take at xs) b, length-take-le at xs (omega arith), length-drop r xs)

-- nothing laid
pub put_none : (xs : List ℕ) (at : ℕ) → Put xs at [] at xs
put_none xs at = record { ends = omega arith; list = sym (ap (λ (m : List ℕ). m ++ drop at xs) (append-nil (take at xs)) ∙ take-append-drop at xs) }

-- bytes behind bytes
pub put_put : {xs a ys b zs : List ℕ} {at n r : ℕ} → Put xs at a n ys → Put ys n b r zs → r ≤ length xs → Put xs at (a ++ b) r zs
put_put {xs} {a} {ys} {b} {zs} {at} {n} {r} p q h =
    let e = p.ends in
    let f = q.ends in
    let front : length (take at xs ++ a) ≡ n = length-append (take at xs) a ∙ omega (arith, length-take-le at xs (omega arith)) in
    let kept : take n ys ≡ take at xs ++ a = ap (take n) p.list ∙ take_at (take at xs ++ a) (drop n xs) n front in
    let behind : drop n ys ≡ drop n xs = ap (drop n) p.list ∙ drop_at (take at xs ++ a) (drop n xs) n front in
    let rest : drop r ys ≡ drop r xs =
    ap (λ (k : ℕ). drop k ys) f ∙ sym (drop-drop (length b) n ys) ∙ ap (drop (length b)) behind ∙ drop-drop (length b) n xs ∙ ap (λ (k : ℕ). drop k xs) (sym f) in
    record {
      ends = f ∙ omega (arith, length-append a b);
      list = q.list ∙ (λ i. kept i ++ b ++ rest i) ∙ ap (λ (m : List ℕ). m ++ drop r xs) (append_assoc (take at xs) a b);
    }

-- ---- with the room that they take
pub laid_laid : {xs a ys b zs : List ℕ} {m k at n r : ℕ} → Laid m xs at a n ys → Laid k ys n b r zs → at + (m + k) ≤ length xs → Laid (m + k) xs at (a ++ b) r zs
laid_laid p q h = record {
  within = omega (arith, p.within, q.within);
  put = put_put p.put q.put (omega (arith, p.within, q.within));
}
