-- What the first bytes hold, when more bytes follow them: one request, and a series.
use Rattle.std.specs.Prelude.{Ok, Err}
use mathlib.Core.Path.{◌≡◌, refl, sym, ap, ◌∙◌, subst}
use mathlib.Core.Bool.{Bool, true, false, cond}
use mathlib.Core.List.{List, [], ◌∷◌, ◌++◌}
use Prim.Native.Nat.{ℕ, suc, ◌+◌, ◌≤◌, ◌<◌}
use native.Mathlib.Omega.{arith}
use lib.Dec.{leb}
use lib.ListN.{length, drop, length-append, length-drop, get_or-append}
use lib.Seq.{drop-drop, drop-append-le}
use borrow.Author.Tests.{leb-true}
use Rattle.request.specs.Bytes.{◌#◌}
use Rattle.request.specs.Kinds.{Row, Sought, at, none, rows, find, body_length}
use Rattle.request.specs.Reading.{fields_from, frame_at, frame_of}
use Rattle.request.specs.Writing.{written}
use Rattle.request.specs.Framing.{End, no_bytes, unknown_kind, cut_body, Series, ends, before, series_of, written_out}
use Rattle.request.specs.declared.Request.{Request}
use Rattle.request.proofs.Rows.{short_found}
use Rattle.request.proofs.More.{frame_more}
use Rattle.request.proofs.Ways.{by_row}
use Rattle.request.proofs.Framing.{whole_is, series_unknown, series_whole, Cuts, nothing, unknown, cut, whole}
use Rattle.request.proofs.Absurd.{differ}
use Rattle.records.specs.House.{House}
use Rattle.records.specs.declared.Rule.{Rule}
use Rattle.effects.specs.declared.Change.{Change}
use Rattle.history.specs.Machine.{Desk, step}
use Rattle.history.specs.Desk.{desk_rules}
use Rattle.desk.specs.Answers.{given_to}
use Rattle.desk.specs.Turns.{reads_on}
use Rattle.request.specs.declared.FrameError.TheVariants.{Unknown, Cut}

-- the row of the first byte decides
row_decides : (kind : ℕ) (rest : List ℕ) → frame_of (kind ∷ rest) ≡ frame_at (find rows kind) (kind ∷ rest)
row_decides kind rest = by_row (kind ∷ rest) (λ e. omega (arith, e)) (find rows kind) refl

module _ (kind : ℕ) (rest : List ℕ) where
  unknown_first : frame_of (kind ∷ rest) ≡ Err Unknown → (later : List ℕ) → frame_of (kind ∷ rest ++ later) ≡ Err Unknown
  unknown_first e later = row_decides kind (rest ++ later) ∙ by (find rows kind) (sym (row_decides kind rest) ∙ e)
    where
      of_row : (r : Row) (t : Bool) → cond t (Err Cut) (Ok (fields_from (kind ∷ rest) 1 r.body)) ≡ Err Unknown → frame_at (at r) (kind ∷ rest ++ later) ≡ Err Unknown
      of_row r true e = differ cc
      of_row r false e = differ cc

      by : (s : Sought) → frame_at s (kind ∷ rest) ≡ Err Unknown → frame_at s (kind ∷ rest ++ later) ≡ Err Unknown
      by none e = refl
      by (at r) e = of_row r (leb (length (kind ∷ rest)) r.length) e

  -- a cut request has at most eight of its bytes
  cut_short : frame_of (kind ∷ rest) ≡ Err Cut → length (kind ∷ rest) ≤ 8
  cut_short e = by (find rows kind) refl (sym (row_decides kind rest) ∙ e)
    where
      of_row : (r : Row) → r.length ≤ 8 → (t : Bool) → leb (length (kind ∷ rest)) r.length ≡ t → cond t (Err Cut) (Ok (fields_from (kind ∷ rest) 1 r.body)) ≡ Err Cut → length (kind ∷ rest) ≤ 8
      of_row r short true l e = let h = leb-true (length (kind ∷ rest)) r.length l in omega (arith, h, short)
      of_row r short false l e = differ cc

      by : (s : Sought) → find rows kind ≡ s → frame_at s (kind ∷ rest) ≡ Err Cut → length (kind ∷ rest) ≤ 8
      by none f e = differ cc
      by (at r) f e = of_row r (short_found kind r rows tt f) (leb (length (kind ∷ rest)) r.length) refl e

whole_more : (b : List ℕ) (q : Request) → frame_of b ≡ Ok q → (later : List ℕ) → frame_of (b ++ later) ≡ Ok q
whole_more [] q e later = absurd (omega (arith, (whole_is [] q e).inside))
whole_more (kind ∷ rest) q e later = frame_more (kind ∷ rest) later (omega arith) q e

unknown_more : (b : List ℕ) → 0 < length b → frame_of b ≡ Err Unknown → (later : List ℕ) → frame_of (b ++ later) ≡ Err Unknown
unknown_more [] l e later = absurd (omega (arith, l))
unknown_more (kind ∷ rest) l e later = unknown_first kind rest e later

cut_few : (b : List ℕ) → frame_of b ≡ Err Cut → length b ≤ 8
cut_few [] e = omega arith
cut_few (kind ∷ rest) e = cut_short kind rest e

-- ---- a series
abbrev pub prepend : List Request → Series → Series
prepend qs s = record { requests = qs ++ s.requests; end = s.end }

-- what follows a series, b being its last bytes and more: nothing after an unknown kind
abbrev pub onwards : End → List ℕ → Series
onwards no_bytes b = series_of b
onwards (unknown_kind kind) b = ends (unknown_kind kind)
onwards (cut_body kind) b = series_of b

-- the bytes of a series' first request, and of the others
both : (b : List ℕ) (q : Request) → frame_of b ≡ Ok q → (W : List ℕ) → length (written q ++ W) ≡ suc (body_length (b # 0)) + length W
both b q f W = length-append (written q) W ∙ ap (λ (n : ℕ). n + length W) (whole_is b q f).size

past_both : (b : List ℕ) (q : Request) → frame_of b ≡ Ok q → (W : List ℕ) → drop (length W) (drop (suc (body_length (b # 0))) b) ≡ drop (length (written q ++ W)) b
past_both b q f W = drop-drop (length W) (suc (body_length (b # 0))) b ∙ ap (λ (n : ℕ). drop n b) (sym (both b q f W))

pub more_follows : {b : List ℕ} {s : Series} → Cuts b s → (later : List ℕ)
    → series_of (b ++ later) ≡ prepend s.requests (onwards s.end (drop (length (written_out s.requests)) b ++ later))
more_follows (nothing e) later = refl
more_follows {b} (unknown l f) later =
    series_unknown (b ++ later) (unknown_more b l f later) ∙ ap (λ (kind : ℕ). ends (unknown_kind kind)) (get_or-append b later 0 0 l)
more_follows (cut l f) later = refl
more_follows {b} (whole l q f s rest) later =
    let n : ℕ = suc (body_length (b # 0)) in
    let inside = (whole_is b q f).inside in
    series_whole (b ++ later) q (whole_more b q f later)
    ∙ ap (λ (kind : ℕ). before q (series_of (drop (suc (body_length kind)) (b ++ later)))) (get_or-append b later 0 0 l)
    ∙ ap (λ (x : List ℕ). before q (series_of x)) (drop-append-le n b later (omega (arith, inside)))
    ∙ ap (before q) (more_follows rest later)
    ∙ ap (λ (x : List ℕ). before q (prepend s.requests (onwards s.end (x ++ later)))) (past_both b q f (written_out s.requests))

-- the bytes of the requests are all there
pub used_inside : {b : List ℕ} {s : Series} → Cuts b s → length (written_out s.requests) ≤ length b
used_inside (nothing e) = omega arith
used_inside (unknown l f) = omega arith
used_inside (cut l f) = omega arith
used_inside {b} (whole l q f s rest) =
    let n : ℕ = suc (body_length (b # 0)) in
    omega (arith, both b q f (written_out s.requests), used_inside rest, length-drop n b, (whole_is b q f).inside)

-- a request that waits has at most eight of its bytes
pub few_wait : {b : List ℕ} {s : Series} → Cuts b s → reads_on false s.end ≡ true → length (drop (length (written_out s.requests)) b) ≤ 8
few_wait (nothing e) goes = omega (arith, ap length e)
few_wait (unknown l f) goes = differ cc
few_wait {b} (cut l f) goes = cut_few b f
few_wait {b} (whole l q f s rest) goes = subst (λ (x : List ℕ). length x ≤ 8) (past_both b q f (written_out s.requests)) (few_wait rest goes)

-- an answer takes a byte at least
pub few_answers : (rule : Rule) {b : List ℕ} {s : Series} → Cuts b s → (ended : Bool) (d : Desk House Change) → length (given_to rule ended d s) ≤ length b
few_answers rule (nothing e) ended d = omega arith
few_answers rule (unknown l f) ended d = omega (arith, l)
few_answers rule (cut l f) true d = omega (arith, l)
few_answers rule (cut l f) false d = omega arith
few_answers rule {b} (whole l q f s rest) ended d =
    let n : ℕ = suc (body_length (b # 0)) in
    omega (arith, few_answers rule rest ended (step (desk_rules rule) d q).desk, length-drop n b, (whole_is b q f).inside)
