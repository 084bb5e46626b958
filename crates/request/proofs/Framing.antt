-- Bytes cut into requests, one request at a time: where the series ends, how a request goes before the rest, and that the bytes are the requests written out.
use Rattle.std.specs.Prelude.{Result, Ok, Err}
use mathlib.Core.Path.{◌≡◌, refl, sym, ap, ◌∙◌, subst}
use mathlib.Core.Bool.{Bool, true, false, cond}
use mathlib.Core.List.{List, [], ◌∷◌, ◌++◌, append_assoc}
use Prim.Native.Nat.{ℕ, zero, suc, ◌+◌, ◌≤◌, ◌<◌}
use native.Mathlib.Omega.{arith}
use lib.Dec.{leb, eqb}
use lib.ListN.{length, take, drop, length-append}
use lib.Seq.{drop-nil, drop-drop, get_or-drop}
use borrow.Author.Tests.{leb-false}
use Rattle.request.specs.Bytes.{◌#◌, Bytes}
use Rattle.request.specs.Kinds.{Row, Sought, at, none, rows, find, length_at, body_length}
use Rattle.request.specs.Reading.{fields_from, frame_at, frame_of}
use Rattle.request.specs.Writing.{written}
use Rattle.request.specs.Framing.{no_bytes, unknown_kind, cut_body, Series, ends, before, by_frame, series_from, series_of, kind_of, written_out}
use Rattle.request.specs.declared.Request.{Request}
use Rattle.request.proofs.Rows.{Found, found, short_found}
use Rattle.request.proofs.Spelling.{Right, all_right, headed}
use Rattle.request.proofs.Ways.{empty}
use Rattle.request.proofs.RoundTrip.{read_is_written}
use Rattle.request.proofs.Absurd.{differ}
use Rattle.request.specs.declared.FrameError.{FrameError}
use Rattle.request.specs.declared.FrameError.TheVariants.{Unknown, Cut}

-- ---- a whole request has its row's kind and length, and lies within the bytes that it was read off
pub record Whole-is (b : List ℕ) (q : Request) : Type 0 where
  pub kind : kind_of q ≡ b # 0
  pub size : length (written q) ≡ suc (body_length (b # 0))
  pub inside : body_length (b # 0) < length b
  pub few : body_length (b # 0) ≤ 8

module _ (b : List ℕ) where
  record OfRow (q : Request) (n : ℕ) : Type 0 where
    kind : kind_of q ≡ b # 0
    size : length (written q) ≡ suc n
    inside : n < length b
    few : n ≤ 8

  pub whole_is : (q : Request) → frame_of b ≡ Ok q → Whole-is b q
  unfolding frame_of body_length
  whole_is q e = let o = first (eqb (length b) 0) e in record { kind = o.kind; size = o.size; inside = o.inside; few = o.few }
    where
      whole : (r : Row) → Found Right (b # 0) r → r.length ≤ 8 → (t : Bool) → leb (length b) r.length ≡ t
          → cond t (Err Cut) (Ok (fields_from b 1 r.body)) ≡ Ok q → OfRow q r.length
      whole r f few true l e = differ cc
      whole r f few false l e =
          let h = headed b r f.holds in
          let same : fields_from b 1 r.body ≡ q = cc in
          record {
            kind = ap kind_of (sym same) ∙ h.0 ∙ sym f.kind;
            size = let e = ap (λ (p : Request). length (written p)) (sym same) ∙ h.1 in omega (arith, e);
            inside = leb-false (length b) r.length l;
            few = few;
          }

      row_of : (s : Sought) → find rows (b # 0) ≡ s → frame_at s b ≡ Ok q → OfRow q (length_at s)
      row_of none f e = differ cc
      row_of (at r) f e = whole r (found Right (b # 0) r rows all_right f) (short_found (b # 0) r rows tt f) (leb (length b) r.length) refl e

      first : (t : Bool) → cond t (Err Cut) (frame_at (find rows (b # 0)) b) ≡ Ok q → OfRow q (length_at (find rows (b # 0)))
      first true e = differ cc
      first false e = row_of (find rows (b # 0)) refl e

-- ---- one request at a time
pub skipped : (n : ℕ) (b : List ℕ) → series_from n b ≡ series_of (drop n b)
unfolding series_from
skipped zero b = refl
skipped (suc n) [] = refl
skipped (suc n) (x ∷ b) = skipped n b

-- no bytes at all are a cut request
not_unknown : frame_of [] ≡ Err Unknown → ⊥
not_unknown e = let c : Err Cut ≡ frame_of [] = empty [] refl in differ cc

not_whole : (q : Request) → frame_of [] ≡ Ok q → ⊥
not_whole q e = let c : Err Cut ≡ frame_of [] = empty [] refl in differ cc

pub series_empty : series_of [] ≡ ends no_bytes
unfolding series_from
series_empty = refl

pub series_unknown : (b : List ℕ) → frame_of b ≡ Err Unknown → series_of b ≡ ends (unknown_kind (b # 0))
unfolding series_from
series_unknown [] e = absurd (not_unknown e)
series_unknown (kind ∷ rest) e = rw e

pub series_cut : (b : List ℕ) → 0 < length b → frame_of b ≡ Err Cut → series_of b ≡ ends (cut_body (b # 0))
unfolding series_from
series_cut [] l e = absurd (omega (arith, l))
series_cut (kind ∷ rest) l e = rw e

pub series_whole : (b : List ℕ) (q : Request) → frame_of b ≡ Ok q → series_of b ≡ before q (series_of (drop (suc (body_length (b # 0))) b))
unfolding series_from
series_whole [] q e = absurd (not_whole q e)
series_whole (kind ∷ rest) q e = rw (e, skipped (body_length kind) rest)

-- ---- the series of some bytes, taken apart
pub data Cuts : List ℕ → Series → Type 0 where
  nothing : {b : List ℕ} → b ≡ [] → Cuts b (ends no_bytes)
  unknown : {b : List ℕ} → 0 < length b → frame_of b ≡ Err Unknown → Cuts b (ends (unknown_kind (b # 0)))
  cut : {b : List ℕ} → 0 < length b → frame_of b ≡ Err Cut → Cuts b (ends (cut_body (b # 0)))
  whole : {b : List ℕ} → 0 < length b → (q : Request) → frame_of b ≡ Ok q → (s : Series) → Cuts (drop (suc (body_length (b # 0))) b) s → Cuts b (before q s)

cuts_from : (k : ℕ) (b : List ℕ) → Cuts (drop k b) (series_from k b)
unfolding series_from
cuts_from k [] = nothing (drop-nil k)
cuts_from (suc k) (x ∷ b) = cuts_from k b
cuts_from zero (kind ∷ rest) = by_frame_lem (cuts_from (body_length kind) rest) (frame_of (kind ∷ rest)) refl
  where
    by_frame_lem : Cuts (drop (body_length kind) rest) (series_from (body_length kind) rest) → (f : Result Request FrameError) → frame_of (kind ∷ rest) ≡ f
        → Cuts (kind ∷ rest) (by_frame f (ends (unknown_kind kind)) (ends (cut_body kind)) (λ (q : Request). before q (series_from (body_length kind) rest)))
    by_frame_lem later (Err Unknown) e = unknown {b = kind ∷ rest} (omega arith) e
    by_frame_lem later (Err Cut) e = cut {b = kind ∷ rest} (omega arith) e
    by_frame_lem later (Ok q) e = whole {b = kind ∷ rest} (omega arith) q e _ later

pub cuts : (b : List ℕ) → Cuts b (series_of b)
cuts b = cuts_from 0 b

-- ---- bytes are the requests that they are cut into, written out, as far as one takes them, and the rest
pub bytes_behind : (n : ℕ) (b : List ℕ) → Bytes b → Bytes (drop n b)
bytes_behind n b small i = subst (λ (x : ℕ). x < 256) (sym (get_or-drop n b i 0)) (small (n + i))

pub as_written : {b : List ℕ} {s : Series} → Bytes b → Cuts b s → (k : ℕ) → b ≡ written_out (take k s.requests) ++ drop (length (written_out (take k s.requests))) b
as_written {b} small c zero = refl
as_written {b} small (nothing e) (suc k) = refl
as_written {b} small (unknown l f) (suc k) = refl
as_written {b} small (cut l f) (suc k) = refl
as_written {b} small (whole l q f s later) (suc k) =
    let n : ℕ = suc (body_length (b # 0)) in
    let W : List ℕ = written_out (take k s.requests) in
    let is-n : 1 + body_length (b # 0) ≡ n = omega arith in
    let one : b ≡ written q ++ drop n b = read_is_written b small q f ∙ ap (λ (m : ℕ). written q ++ drop m b) is-n in
    let size : length (written q) ≡ n = (whole_is b q f).size in
    let rest : drop n b ≡ W ++ drop (length W) (drop n b) = as_written {b = drop n b} (bytes_behind n b small) later k in
    let gone : drop (length W) (drop n b) ≡ drop (length (written q ++ W)) b =
    drop-drop (length W) n b ∙ ap (λ (m : ℕ). drop m b) (ap (λ (m : ℕ). m + length W) (sym size) ∙ sym (length-append (written q) W)) in
    one ∙ ap (λ (t : List ℕ). written q ++ t) (rest ∙ ap (λ (t : List ℕ). W ++ t) gone) ∙ sym (append_assoc (written q) W _)

pub requests_as_written : (b : List ℕ) → Bytes b → (k : ℕ) → let qs : List Request = take k (series_of b).requests in b ≡ written_out qs ++ drop (length (written_out qs)) b
requests_as_written b small k = as_written small (cuts b) k
