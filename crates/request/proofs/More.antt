-- More bytes behind a whole request change nothing of what is read.
use Rattle.std.specs.Prelude.{Ok, Err}
use mathlib.Core.Path.{◌≡◌, refl}
use mathlib.Core.Bool.{Bool, true, false, cond}
use mathlib.Core.List.{List, [], ◌++◌}
use Prim.Native.Nat.{ℕ, ◌+◌, ◌<◌}
use native.Mathlib.Omega.{arith}
use lib.Dec.{leb}
use lib.ListN.{length, length-append, get_or-append}
use borrow.Author.Tests.{leb-false, lt-leb, ne_eqb}
use Rattle.request.specs.Bytes.{◌#◌}
use Rattle.request.specs.Kinds.{Sought, at, none, rows, find}
use Rattle.request.specs.Reading.{fields_from, frame_at, frame_of}
use Rattle.request.specs.declared.Request.{Request}
use Rattle.request.proofs.Rows.{found}
use Rattle.request.proofs.Spelling.{Right, all_right, fields_alike}
use Rattle.request.proofs.Absurd.{differ}
use Rattle.request.specs.declared.FrameError.TheVariants.{Cut}

module _ (a b : List ℕ) where
  byte : (i : ℕ) → i < length a → (a ++ b) # i ≡ a # i
  byte i h = get_or-append a b 0 i h

  row_more : (s : Sought) (k : ℕ) → find rows k ≡ s → (q : Request) → frame_at s a ≡ Ok q → frame_at s (a ++ b) ≡ Ok q
  row_more none k e q f = f
  row_more (at r) k e q f = go (leb (length a) r.length) refl f
    where
      go : (t : Bool) → leb (length a) r.length ≡ t → cond t (Err Cut) (Ok (fields_from a 1 r.body)) ≡ Ok q
          → frame_at (at r) (a ++ b) ≡ Ok q
      go true l f = differ cc
      go false l f =
          let in-a : r.length < length a = leb-false (length a) r.length l in
          let in_both : r.length < length (a ++ b) = simp length-append (omega arith) in
          let same : fields_from (a ++ b) 1 r.body ≡ fields_from a 1 r.body =
          fields_alike r.kind (1 + r.length) (a ++ b) a (λ j h. byte j (omega (arith, in-a, h))) r.body [] 1 (found Right k r rows all_right e).holds in
          rw (lt-leb (length (a ++ b)) r.length in_both, same) f

  pub kind_more : 0 < length a → (a ++ b) # 0 ≡ a # 0
  kind_more h = byte 0 h

  pub frame_more : 0 < length a → (q : Request) → frame_of a ≡ Ok q → frame_of (a ++ b) ≡ Ok q
  unfolding frame_of
  frame_more h q f =
      let some-a : length a ≡ 0 → ⊥ = λ e. omega arith in
      let some-both : length (a ++ b) ≡ 0 → ⊥ = λ e. omega (arith, length-append a b) in
      let f' : frame_at (find rows (a # 0)) a ≡ Ok q = rw (ne_eqb (length a) 0 some-a) at f in
      rw (ne_eqb (length (a ++ b)) 0 some-both, byte 0 h) (row_more (find rows (a # 0)) (a # 0) refl q f')
