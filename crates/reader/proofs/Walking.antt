-- The walk frame by frame: what the frame at a byte does, and that kinds and lengths alone decide where the walk stops.
use Rattle.std.specs.Prelude.{Some, None, Ok, Err}
use Rattle.std.specs.List.{slice_range}
use Prim.Native.Nat.{ℕ, zero, suc, ◌-◌, ◌≤◌, ◌<◌}
use mathlib.Core.Path.{◌≡◌, refl, sym, ap, ◌∙◌}
use mathlib.Core.Bool.{Bool, true, false, cond}
use mathlib.Core.List.{List, [], ◌∷◌, ◌++◌}
use native.Mathlib.Omega.{arith}
use lib.Dec.{ltb}
use lib.ListN.{length, take, drop, length-drop, take-append-drop}
use lib.Seq.{take_all, length-take-le}
use borrow.Author.Tests.{lt-ltb, le-ltb}
use Rattle.request.specs.declared.FrameError.TheVariants.{Unknown, Cut}
use Rattle.request.proofs.Absurd.{differ}
use Rattle.image.specs.Forms.{sizes}
use Rattle.reader.specs.Reading.{Saved, rows, Sought, at, none, find, length_at, taken_in, Walk, Taken, stopped, frame, walked, by_length, stop_of}

-- ---- the bytes of a body are passed over
pub skipped : (xs ys : List ℕ) (s : Saved) → walked (length xs) s (xs ++ ys) ≡ walked 0 s ys
unfolding walked
skipped [] ys s = refl
skipped (x ∷ xs) ys s = skipped xs ys s

-- ---- a frame by its kind's row
module _ (s : Saved) (b : List ℕ) (on : ℕ → Saved → Taken) where
  by_unknown : (q : Sought) → length_at q ≡ None → frame q b s on ≡ stopped (Err Unknown) s
  by_unknown none e = refl
  by_unknown (at r) e = differ (cc)

  by_cut : (q : Sought) (n : ℕ) → length_at q ≡ Some n → length b < n → frame q b s on ≡ stopped (Err Cut) s
  by_cut none n e h = differ (cc)
  by_cut (at r) n e h =
      let z : sizes r.widths ≡ n = cc in
      ap (λ (t : Bool). cond t (stopped (Err Cut) s) (on (sizes r.widths) (taken_in (at r) b s))) (lt-ltb (length b) (sizes r.widths) (omega arith))

  by_whole : (q : Sought) (n : ℕ) → length_at q ≡ Some n → n ≤ length b → frame q b s on ≡ on n (taken_in q b s)
  by_whole none n e h = differ (cc)
  by_whole (at r) n e h =
      let z : sizes r.widths ≡ n = cc in
      ap (λ (t : Bool). cond t (stopped (Err Cut) s) (on (sizes r.widths) (taken_in (at r) b s))) (le-ltb (length b) (sizes r.widths) (omega arith))
      ∙ ap (λ (k : ℕ). on k (taken_in (at r) b s)) z

-- ---- the frame in front of `rest`
module _ (s : Saved) (kind : ℕ) (rest : List ℕ) where
  pub unknown_here : None ≡ length_at (find rows kind) → walked 0 s (kind ∷ rest) ≡ stopped (Err Unknown) s
  unfolding walked
  unknown_here e = by_unknown s rest _ (find rows kind) (sym e)

  pub cut_here : (n : ℕ) → Some n ≡ length_at (find rows kind) → length rest < n → walked 0 s (kind ∷ rest) ≡ stopped (Err Cut) s
  unfolding walked
  cut_here n e l = by_cut s rest _ (find rows kind) n (sym e) l

  pub whole_here : (n : ℕ) → Some n ≡ length_at (find rows kind) → n ≤ length rest
      → walked 0 s (kind ∷ rest) ≡ walked 0 (taken_in (find rows kind) rest s) (slice_range rest n (length rest))
  unfolding walked
  whole_here n e l =
      let t = taken_in (find rows kind) rest s in
      by_whole s rest _ (find rows kind) n (sym e) l
      ∙ sym (λ j. walked (length-take-le n rest l j) t (take-append-drop n rest j))
      ∙ skipped (take n rest) (drop n rest) t ∙ ap (walked 0 t) (sym (take_all (length rest - n) (drop n rest) (omega (arith, length-drop n rest))))

pub at_end_lem : (s : Saved) (b : List ℕ) → length b ≡ 0 → walked 0 s b ≡ stopped (Ok tt) s
unfolding walked
at_end_lem s [] h = refl
at_end_lem s (x ∷ rest) h = absurd (omega arith)

-- the ways through a turn of `take_all`, and its end
pub ruleset turns = (unknown_here, cut_here, whole_here, at_end_lem)

-- ---- the stop of a walk depends on kinds and lengths alone
stop_by : (q : Sought) (b : List ℕ) (s : Saved) (on : ℕ → Saved → Taken) (off : ℕ → Walk) → ((n : ℕ) (t : Saved) → (on n t).stop ≡ off n)
    → (frame q b s on).stop ≡ by_length (length_at q) (length b) off
stop_by none b s on off e = refl
stop_by (at r) b s on off e = go (ltb (length b) (sizes r.widths))
  where
    go : (t : Bool) → (cond t (stopped (Err Cut) s) (on (sizes r.widths) (taken_in (at r) b s))).stop ≡ cond t (Err Cut) (off (sizes r.widths))
    go true = refl
    go false = e (sizes r.widths) (taken_in (at r) b s)

pub walk_stops : (skip : ℕ) (s : Saved) (b : List ℕ) → (walked skip s b).stop ≡ stop_of skip b
unfolding walked stop_of
walk_stops skip s [] = refl
walk_stops (suc skip) s (x ∷ rest) = walk_stops skip s rest
walk_stops zero s (kind ∷ rest) = stop_by (find rows kind) rest s (λ n t. walked n t rest) (λ n. stop_of n rest) (λ n t. walk_stops n t rest)
