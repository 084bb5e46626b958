-- The batch of specs/, one request at a time.
use Rattle.std.specs.Prelude.{Ok, Err}
use mathlib.Core.Path.{◌≡◌, refl, sym, ap, ◌∙◌}
use mathlib.Core.List.{List, [], ◌++◌, append_assoc}
use Prim.Native.Nat.{ℕ, suc, ◌+◌, ◌-◌, ◌≤◌, ◌<◌}
use native.Mathlib.Nat.{add_assoc, zero-add}
use native.Mathlib.Omega.{arith}
use lib.Dec.{lit≤}
use lib.ListN.{length, drop, length-append}
use borrow.Author.Tests.{lt-ltb, le-ltb}
use Rattle.request.specs.Bytes.{◌#◌}
use Rattle.request.specs.Kinds.{body_length}
use Rattle.request.specs.Reading.{frame_of}
use Rattle.request.specs.Writing.{written}
use Rattle.request.specs.Framing.{no_bytes, unknown_kind, cut_body, Series, ends, before, series_of, written_out}
use Rattle.request.specs.declared.Request.{Request}
use Rattle.request.proofs.Framing.{Cuts, nothing, unknown, cut, whole, cuts, whole_is, series_empty, series_unknown, series_cut, series_whole}
use Rattle.records.specs.House.{House}
use Rattle.records.specs.declared.Rule.{Rule}
use Rattle.effects.specs.declared.Change.{Change}
use Rattle.history.specs.Machine.{Outcome, step, answers}
use Rattle.history.specs.Desk.{desk_rules, answer_bytes}
use Rattle.history.specs.declared.Answer.{Answer}
use Rattle.batch.specs.Batch.{State, Result, bytes_of, taken_of, left_of, stop_at, closing, run_over, run_batch}
use Rattle.batch.specs.Pieces.{behind}
use Rattle.batch.specs.declared.Stop.{Stop}
use Rattle.request.specs.declared.FrameError.TheVariants.{Unknown, Cut}

pub at_most_five : (a : Answer) → length (answer_bytes a) ≤ 5
at_most_five Answer.Granted = lit≤ tt
at_most_five (Answer.Numbered n) = lit≤ tt
at_most_five (Answer.Refused n) = lit≤ tt

-- the bytes of the answer to a request
abbrev pub answered : Rule → State → Request → List ℕ
answered rule d q = answer_bytes (step (desk_rules rule) d q).answer

-- the batch ends here, with what it still writes
abbrev pub stopped : State → Stop → List ℕ → Result
stopped d s bytes = record { desk = d; stop = s; used = 0; bytes = bytes }

pub behind_none : (r : Result) → r ≡ behind 0 [] r
behind_none r = ap (λ (n : ℕ). record { desk = r.desk; stop = r.stop; used = n; bytes = r.bytes }) (sym (zero-add r.used))

pub behind_behind : (m n : ℕ) (xs ys : List ℕ) (r : Result) → behind m xs (behind n ys r) ≡ behind (m + n) (xs ++ ys) r
behind_behind m n xs ys r = λ i. record { desk = r.desk; stop = r.stop; used = sym (add_assoc m n r.used) i; bytes = sym (append_assoc xs ys r.bytes) i }

minus_none : (n : ℕ) → n - 0 ≡ n
minus_none n = omega arith

-- ---- of a series
module _ (rule : Rule) (d : State) (room : ℕ) where
  pub over_none : run_over rule d (ends no_bytes) room ≡ stopped d Stop.End []
  over_none = refl

  pub over_unknown : (kind : ℕ) → 5 ≤ room → run_over rule d (ends (unknown_kind kind)) room ≡ stopped d Stop.Unknown (answer_bytes (Answer.Refused 1))
  over_unknown kind h = rw (minus_none room, le-ltb room 5 h)

  pub over_cut : (kind : ℕ) → 5 ≤ room → run_over rule d (ends (cut_body kind)) room ≡ stopped d Stop.Cut (answer_bytes (Answer.Refused 2))
  over_cut kind h = rw (minus_none room, le-ltb room 5 h)

  pub over_no_room : {b : List ℕ} {s : Series} → Cuts b s → 0 < length b → room < 5 → run_over rule d s room ≡ stopped d Stop.NoRoom []
  over_no_room (nothing e) l h = absurd (omega (arith, ap length e))
  over_no_room (unknown some f) l h = rw (minus_none room, lt-ltb room 5 h)
  over_no_room (cut some f) l h = rw (minus_none room, lt-ltb room 5 h)
  over_no_room (whole some q f s later) l h = rw (lt-ltb room 5 h)

  -- a request: the desk judges it, its answer is written, the batch goes on behind it
  pub over_request : (q : Request) (s : Series) → 5 ≤ room
      → run_over rule d (before q s) room
      ≡ behind (length (written q)) (answered rule d q) (run_over rule (step (desk_rules rule) d q).desk s (room - length (answered rule d q)))
  over_request q s h =
      let e : State = (step (desk_rules rule) d q).desk in
      let bs : List ℕ = answered rule d q in
      let left : ℕ = room - length bs in
      let T : List Request = taken_of rule e s.requests left in
      let W : List ℕ = bytes_of (answers (desk_rules rule) e T) in
      let stop : ℕ → Stop = λ (k : ℕ). stop_at (left_of rule e s.requests left) s.end k in
      let same : room - length (bs ++ W) ≡ left - length W = simp length-append (omega arith) in
      rw (le-ltb room 5 h)
      (λ i.
      record {
        desk = (run_over rule e s left).desk;
        stop = stop (same i);
        used = length-append (written q) (written_out T) i;
        bytes = (append_assoc bs W (closing (stop (room - length (bs ++ W)))) ∙ ap (λ (k : ℕ). bs ++ (W ++ closing (stop k))) same) i;
      })

-- ---- of bytes
module _ (rule : Rule) (d : State) (room : ℕ) where
  pub with_no_bytes : run_batch rule d [] room ≡ stopped d Stop.End []
  unfolding run_batch
  with_no_bytes = ap (λ (s : Series). run_over rule d s room) series_empty

  pub with_no_room : (b : List ℕ) → 0 < length b → room < 5 → run_batch rule d b room ≡ stopped d Stop.NoRoom []
  unfolding run_batch
  with_no_room b l h = over_no_room rule d room (cuts b) l h

  pub with_unknown : (b : List ℕ) → 5 ≤ room → frame_of b ≡ Err Unknown → run_batch rule d b room ≡ stopped d Stop.Unknown (answer_bytes (Answer.Refused 1))
  unfolding run_batch
  with_unknown b h f = ap (λ (s : Series). run_over rule d s room) (series_unknown b f) ∙ over_unknown rule d room (b # 0) h

  pub with_cut : (b : List ℕ) → 0 < length b → 5 ≤ room → frame_of b ≡ Err Cut → run_batch rule d b room ≡ stopped d Stop.Cut (answer_bytes (Answer.Refused 2))
  unfolding run_batch
  with_cut b l h f = ap (λ (s : Series). run_over rule d s room) (series_cut b l f) ∙ over_cut rule d room (b # 0) h

  pub with_request : (b : List ℕ) → 5 ≤ room → (q : Request) → frame_of b ≡ Ok q → (o : Outcome House Change) → step (desk_rules rule) d q ≡ o
      → (n : ℕ) → body_length (b # 0) ≡ n
      → run_batch rule d b room ≡ behind (suc n) (answer_bytes o.answer) (run_batch rule o.desk (drop (suc n) b) (room - length (answer_bytes o.answer)))
  unfolding run_batch
  with_request b h q f o is-o n is-n =
      let size : length (written q) ≡ suc n = (whole_is b q f).size ∙ ap (λ (k : ℕ). suc k) is-n in
      ap (λ (s : Series). run_over rule d s room) (series_whole b q f) ∙ over_request rule d room q (series_of (drop (suc (body_length (b # 0))) b)) h
      ∙ (λ i.
      behind (size i) (answer_bytes (is-o i).answer)
      (run_over rule (is-o i).desk (series_of (drop (suc (is-n i)) b)) (room - length (answer_bytes (is-o i).answer))))
