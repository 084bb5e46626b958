-- A request in nine bytes: zeros follow what is written out, and it is read as that request.
use Rattle.std.specs.Prelude.{Ok, Err}
use mathlib.Core.Path.{◌≡◌, refl, sym, ap, ◌∙◌}
use mathlib.Core.Bool.{Bool, true, false, cond}
use mathlib.Core.List.{List, [], ◌∷◌, ◌++◌}
use Prim.Native.Nat.{ℕ, zero, suc, ◌≤◌}
use native.Mathlib.Omega.{arith}
use lib.Dec.{leb}
use lib.ListN.{length, take, replicate, length-append, length-replicate}
use lib.Seq.{length-take-le}
use Rattle.request.specs.Bytes.{◌#◌}
use Rattle.request.specs.Kinds.{Sought, at, none, rows, find}
use Rattle.request.specs.Reading.{fields_from, request_at, request_of, frame_at, frame_of}
use Rattle.request.specs.Writing.{written, framed}
use Rattle.request.specs.declared.Request.{Request}
use Rattle.request.proofs.Absurd.{differ}
use Rattle.request.proofs.Ways.{by_row}
use Rattle.request.proofs.RoundTrip.{written_is_read}
use Rattle.request.proofs.Framing.{whole_is}
use Rattle.request.specs.declared.FrameError.TheVariants.{Cut}

pub framed_length : (q : Request) → length (framed q) ≡ 9
framed_length q = length-take-le 9 (written q ++ replicate 9 0) (omega (arith, length-append (written q) (replicate 9 0), length-replicate {A = ℕ} 9 0))

-- what is written out has nine bytes at most
record Begins (xs l : List ℕ) : Type 0 where
  rest : List ℕ
  is : l ≡ xs ++ rest

take_on : (xs ys : List ℕ) (k : ℕ) → length xs ≤ k → Begins xs (take k (xs ++ ys))
take_on [] ys k h = record { rest = take k ys; is = refl }
take_on (x ∷ xs) ys zero h = absurd (omega arith)
take_on (x ∷ xs) ys (suc k) h = let r = take_on xs ys k (omega arith) in record { rest = r.rest; is = ap (λ (t : List ℕ). x ∷ t) r.is }

framed_is_read : (q : Request) → frame_of (framed q) ≡ Ok q
framed_is_read q =
    let w = whole_is (written q ++ []) q (written_is_read q []) in
    let o = take_on (written q) (replicate 9 0) 9 (omega (arith, w.size, w.few)) in
    ap frame_of o.is ∙ written_is_read q o.rest

-- ---- and these nine bytes make it again
whole_makes : (s : Sought) (b : List ℕ) (q : Request) → frame_at s b ≡ Ok q → request_at s b ≡ q
whole_makes (at r) b q e = go (leb (length b) r.length) e
  where
    go : (t : Bool) → cond t (Err Cut) (Ok (fields_from b 1 r.body)) ≡ Ok q → fields_from b 1 r.body ≡ q
    go true e = differ (cc)
    go false e = cc
whole_makes none b q e = differ (cc)

pub framed_makes : (q : Request) → request_of (framed q # 0) (framed q) ≡ q
framed_makes q =
    let z = framed_length q in
    whole_makes (find rows (framed q # 0)) (framed q) q (sym (by_row (framed q) (λ e. omega arith) (find rows (framed q # 0)) refl) ∙ framed_is_read q)
