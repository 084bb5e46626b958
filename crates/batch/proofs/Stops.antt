-- "the batch ends at the first of four stops": what each stop says of the bytes used and written.
use Rattle.std.specs.Prelude.{Result as Framed}
use mathlib.Core.Path.{◌≡◌, refl, sym, ap, ◌∙◌, subst}
use mathlib.Core.List.{List, [], ◌∷◌, ◌++◌, append_assoc}
use Prim.Native.Nat.{ℕ, suc, ◌+◌, ◌-◌, ◌<◌}
use native.Mathlib.Omega.{arith}
use lib.ListN.{length, drop, length-append, length-drop}
use lib.Seq.{drop-drop}
use Rattle.request.specs.Bytes.{◌#◌}
use Rattle.request.specs.Kinds.{body_length}
use Rattle.request.specs.Reading.{frame_of}
use Rattle.request.proofs.Framing.{whole_is}
use Rattle.batch.specs.Batch.{State, Result, run_batch, Batched}
use Rattle.batch.specs.Stops.{AtFrame, Means}
use Rattle.batch.specs.declared.Stop.{Stop}
use Rattle.batch.specs.declared.Ran.{Ran}
use Rattle.batch.proofs.Steps.{answered}
use Rattle.batch.proofs.Runs.{Runs, no_bytes, no_room, unknown, cut, request, runs}
use Rattle.records.specs.declared.Rule.{Rule}
use Rattle.request.specs.declared.FrameError.{FrameError}
use Rattle.request.specs.declared.Request.{Request}

-- what holds behind a request holds of the whole
module _ (b : List ℕ) (room n : ℕ) (inside : n < length b) (bs : List ℕ) where
  left : length (drop (suc n) b) ≡ length b - suc n
  left = length-drop (suc n) b

  frame_before : {f : Framed Request FrameError} {x used : ℕ} {bytes : List ℕ} → AtFrame f x (drop (suc n) b) used bytes → AtFrame f x b (suc n + used) (bs ++ bytes)
  frame_before {f} {x} {used} {bytes} a =
      record {
        bytes_left = omega (arith, a.bytes_left, left);
        frame = ap frame_of (sym (drop-drop used (suc n) b)) ∙ a.frame;
        last_byte = record {
          front = bs ++ a.last_byte.front;
          is = ap (λ (l : List ℕ). bs ++ l) a.last_byte.is ∙ sym (append_assoc bs a.last_byte.front (x ∷ []));
        };
      }

  before : (s : Stop) (used : ℕ) (bytes : List ℕ) → Means s (drop (suc n) b) (room - length bs) used bytes → Means s b room (suc n + used) (bs ++ bytes)
  before Stop.End used bytes m = omega (arith, m, left)
  before Stop.NoRoom used bytes m = (omega (arith, m.0, left), simp length-append (omega (arith, m.1)))
  before Stop.Unknown used bytes m = frame_before m
  before Stop.Cut used bytes m = frame_before m

means : {rule : Rule} {d : State} {b : List ℕ} {room : ℕ} {r : Result} → Runs rule d b room r → Means r.stop b room r.used r.bytes
means {rule} (no_bytes e) = sym (ap length e)
means {rule} (no_room l h) = (l, omega arith)
means {rule} (unknown l h f) = record { bytes_left = l; frame = f; last_byte = record { front = []; is = refl } }
means {rule} (cut l h f) = record { bytes_left = l; frame = f; last_byte = record { front = []; is = refl } }
means {rule} {d} {b} {room} (request l h q f r later) =
    before b room (body_length (b # 0)) (whole_is b q f).inside (answered rule d q) r.stop r.used r.bytes (means later)

-- each stop says why the batch ended there
pub stop_means : (rule : Rule) (d : State) (b : List ℕ) (room : ℕ) → Means (run_batch rule d b room).stop b room (run_batch rule d b room).used (run_batch rule d b room).bytes
stop_means rule d b room = means (runs rule d b room)

all_used : (s : Stop) (b : List ℕ) (room used : ℕ) (bytes : List ℕ) → Means s b room used bytes → used ≡ length b → s ≡ Stop.End
all_used Stop.End b room used bytes m e = refl
all_used Stop.NoRoom b room used bytes m e = absurd (omega (arith, m.0))
all_used Stop.Unknown b room used bytes m e = absurd (omega (arith, m.bytes_left))
all_used Stop.Cut b room used bytes m e = absurd (omega (arith, m.bytes_left))

module _ {rule : Rule} {d : State} {R A : List ℕ} {place : ℕ} {d' : State} {r : Ran} {A' : List ℕ} (b : Batched rule d R A place d' r A') where
  -- the same of what a batch returns
  pub returned_means : Means r.stop R (length A - place) r.used (run_batch rule d R (length A - place)).bytes
  returned_means =
      subst (λ (t : Stop × ℕ). Means t.0 R (length A - place) t.1 (run_batch rule d R (length A - place)).bytes) (λ i. (sym b.stop i, sym b.used i))
      (stop_means rule d R (length A - place))

  -- the stop is 0 exactly when all request bytes were used
  pub end_when_all : r.used ≡ length R → r.stop ≡ Stop.End
  end_when_all e = all_used r.stop R (length A - place) r.used _ returned_means e

  pub all_when_end : r.stop ≡ Stop.End → r.used ≡ length R
  all_when_end e = subst (λ (s : Stop). Means s R (length A - place) r.used (run_batch rule d R (length A - place)).bytes) e returned_means
