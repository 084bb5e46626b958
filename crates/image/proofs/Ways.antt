-- What the answer of `save` tells.
use Rattle.std.specs.Prelude.{Ok, Err}
use Prim.Native.Nat.{ℕ, ◌≤◌, ◌<◌}
use mathlib.Core.Path.{◌≡◌, refl}
use mathlib.Core.Bool.{Bool, true, false, cond}
use mathlib.Core.List.{List}
use native.Mathlib.Omega.{arith}
use lib.Dec.{leb}
use lib.ListN.{length}
use borrow.Author.Tests.{leb-false}
use Rattle.records.specs.House.{view}
use Rattle.records.specs.declared.Rule.{Rule}
use Rattle.image.specs.Image.{image_of}
use Rattle.image.specs.Saving.{too_small, saved_answer}
use Rattle.image.specs.declared.TooSmall.{TooSmall}
use Rattle.image.proofs.Lengths.{image_length}

-- what is refused is longer than the buffer
longer : (i out : List ℕ) (why : TooSmall) → Err why ≡ saved_answer i out → length out < length i
longer i out why e = go (leb (length i) (length out)) refl e
  where
    go : (t : Bool) → leb (length i) (length out) ≡ t → Err why ≡ cond t (Ok (length i)) (Err too_small) → length out < length i
    go true l e = absurd (let z : ◌≡◌ {A = ℕ} 0 1 = cc in omega arith)
    go false l e = leb-false (length i) (length out) l

-- a buffer of 4454 bytes is never too small
pub never_refused : (s : List ℕ) (last : ℕ) (rule : Rule) (out : List ℕ) (why : TooSmall) → 4454 ≤ length out → Err why ≡ saved_answer (image_of (view s) last rule) out → ⊥
never_refused s last rule out why h e = omega (arith, longer (image_of (view s) last rule) out why e, image_length s last rule)
