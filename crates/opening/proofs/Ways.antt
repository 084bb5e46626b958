-- Each way through `take_image`.
use Rattle.std.specs.Prelude.{Ok, Err}
use Rattle.std.specs.Result.{IsErrAnd}
use Prim.Native.Nat.{ℕ}
use mathlib.Core.Path.{◌≡◌, sym, ap, ◌∙◌}
use mathlib.Core.Bool.{Bool, true, false, cond}
use mathlib.Core.List.{List}
use lib.Dec.{eqb}
use lib.ListN.{length}
use Rattle.request.specs.declared.FrameError.{FrameError}
use Rattle.reader.specs.Reading.{Saved, blank, Taken, Walk, stopped, walked}
use Rattle.opening.specs.Opening.{of_frame, image, keeps, Opening, refused, accepted, settled, same_bytes, by_walk, opened_by}
use Rattle.opening.specs.declared.OpenError.TheVariants.{Cut, NoImage}

pub no_bytes : (b : List ℕ) → eqb (length b) 0 ≡ true → refused Cut ≡ opened_by b
unfolding opened_by
no_bytes b e = rw e

-- the walk over b stopped by w and took s in
module _ (b : List ℕ) (some : eqb (length b) 0 ≡ false) (w : Walk) (s : Saved) (e : stopped w s ≡ walked 0 blank b) where
  by : opened_by b ≡ by_walk (stopped w s) b w
  unfolding opened_by
  by = rw some (sym (ap (λ (t : Taken). by_walk t b t.stop) e))

  pub no_frame : (why : FrameError) → w ≡ Err why → (r : Opening) → IsErrAnd r (λ o. o ≡ of_frame why) → settled r s ≡ opened_by b
  no_frame why k (Ok _) is = elim is [ ]
  no_frame why k (Err o) is = ap refused is ∙ sym (by ∙ ap (by_walk (stopped w s) b) k)

  module _ (end : w ≡ Ok tt) where
    pub breaks_rule : keeps s ≡ false → refused NoImage ≡ opened_by b
    breaks_rule k = sym (by ∙ ap (by_walk (stopped w s) b) end ∙ rw k)

    pub is_kept : keeps s ≡ true → (t : Bool) → t ≡ same_bytes (image s) b → cond t (accepted s) (refused NoImage) ≡ opened_by b
    is_kept k t e = sym (by ∙ ap (by_walk (stopped w s) b) end ∙ rw (k, e))
