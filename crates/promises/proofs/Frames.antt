-- A request that is read off bytes fits its bytes.
use Rattle.std.specs.Prelude.{Ok, Err}
use Prim.Native.Nat.{ℕ, ◌+◌, ◌<◌}
use mathlib.Core.Path.{◌≡◌, refl, sym, subst}
use mathlib.Core.Bool.{Bool, true, false, cond, ◌&&◌}
use mathlib.Core.List.{List, [], ◌∷◌, ◌++◌}
use native.Mathlib.Omega.{arith}
use lib.Dec.{eqb, leb}
use lib.ListN.{length}
use borrow.Author.Tests.{lt-ltb}
use Rattle.records.specs.Lists.{all}
use Rattle.request.specs.Bytes.{◌#◌, pair_at, quad_at}
use Rattle.request.specs.Kinds.{Body, one, two, four, make, Row, Sought, at, none, rows, find}
use Rattle.request.specs.Reading.{fields_from, frame_at, frame_of}
use Rattle.request.specs.Writing.{Field, Spelling}
use Rattle.request.specs.declared.Request.{Request}
use Rattle.request.proofs.Rows.{found}
use Rattle.request.proofs.Spelling.{Spells, Right, all_right}
use Rattle.request.proofs.Absurd.{differ}
use Rattle.promises.specs.Fits.{field_fits, fits}
use Rattle.request.specs.declared.FrameError.TheVariants.{Cut}

fit_more : (fs : List Field) (f : Field) → all field_fits fs ≡ true → field_fits f ≡ true → all field_fits (fs ++ (f ∷ [])) ≡ true
fit_more [] f a e = rw e
fit_more (g ∷ fs) f a e = go (field_fits g) a (λ t. fit_more fs f t e)
  where
    go : (t : Bool) → (t && all field_fits fs) ≡ true → (all field_fits fs ≡ true → all field_fits (fs ++ (f ∷ [])) ≡ true) → (t && all field_fits (fs ++ (f ∷ []))) ≡ true
    go true a later = later a
    go false a later = a

module _ (b : List ℕ) (small : (i : ℕ) → b # i < 256) where
  -- "One byte of kind, then a body": its fields fit, whatever the bytes
  fit_from : (kind end : ℕ) (p : Body) (fs : List Field) (i : ℕ) → Spells kind fs i end p → all field_fits fs ≡ true → fits (fields_from b i p) ≡ true
  fit_from kind end (one f) fs i s a =
      let x = b # i in
      fit_from kind end (f x) (fs ++ (Field.one x ∷ [])) (i + 1) (s x) (fit_more fs (Field.one x) a (lt-ltb x _ (small i)))
  fit_from kind end (two f) fs i s a =
      let x = pair_at b i in
      fit_from kind end (f x) (fs ++ (Field.two x ∷ [])) (i + 2) (s x) (fit_more fs (Field.two x) a (lt-ltb x _ (omega (arith, small i, small (i + 1)))))
  fit_from kind end (four f) fs i s a =
      let x = quad_at b i in
      fit_from kind end (f x) (fs ++ (Field.four x ∷ [])) (i + 4) (s x)
      (fit_more fs (Field.four x) a (lt-ltb x _ (omega (arith, small i, small (i + 1), small (i + 2), small (i + 3)))))
  fit_from kind end (make q) fs i s a = subst (λ (t : Spelling). all field_fits t.fields ≡ true) (sym s.0) a

  pub read_fits : (q : Request) → frame_of b ≡ Ok q → fits q ≡ true
  unfolding frame_of
  read_fits q = first (eqb (length b) 0)
    where
      whole : (r : Row) → Right r → (t : Bool) → cond t (Err Cut) (Ok (fields_from b 1 r.body)) ≡ Ok q → fits q ≡ true
      whole r s true e = differ cc
      whole r s false e =
          let same : fields_from b 1 r.body ≡ q = cc in
          subst (λ (p : Request). fits p ≡ true) same (fit_from r.kind (1 + r.length) r.body [] 1 s refl)

      row : (s : Sought) → find rows (b # 0) ≡ s → frame_at s b ≡ Ok q → fits q ≡ true
      row none f e = differ cc
      row (at r) f e = whole r (found Right (b # 0) r rows all_right f).holds (leb (length b) r.length) e

      first : (t : Bool) → cond t (Err Cut) (frame_at (find rows (b # 0)) b) ≡ Ok q → fits q ≡ true
      first true e = differ cc
      first false e = row (find rows (b # 0)) refl e
