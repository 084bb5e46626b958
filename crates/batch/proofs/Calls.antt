-- Two calls do what one call does: over two pieces of the requests, or with a fresh buffer after stop 13.
use mathlib.Core.Path.{◌≡◌, sym, ap, ◌∙◌}
use mathlib.Core.List.{List, ◌++◌, append_assoc}
use Prim.Native.Nat.{ℕ, ◌+◌, ◌-◌, ◌≤◌}
use native.Mathlib.Nat.{add_assoc}
use native.Mathlib.Omega.{arith}
use lib.ListN.{length, take, drop, length-append}
use lib.Seq.{drop-drop}
use Rattle.batch.specs.Batch.{State, Result, run_batch, Batched}
use Rattle.batch.specs.Pieces.{behind, both}
use Rattle.batch.specs.declared.Stop.{Stop}
use Rattle.batch.specs.declared.Ran.{Ran}
use Rattle.batch.proofs.Bounds.{length_stays, behind_stays, up_to_end, written_is}
use Rattle.batch.proofs.Stops.{all_when_end}
use Rattle.batch.proofs.Pieces.{two_pieces, fresh_buffer}
use Rattle.records.specs.declared.Rule.{Rule}

-- a call over a that ends with no bytes left, and one over b from the place reached, do what one call over a ++ b does
pub two_calls : {rule : Rule} {d d₁ d₂ : State} {a b A A₁ A₂ : List ℕ} {place : ℕ} {r s : Ran} → Batched rule d a A place d₁ r A₁ → r.stop ≡ Stop.End
    → Batched rule d₁ b A₁ (place + r.written) d₂ s A₂ → Batched rule d (a ++ b) A place d₂ (both r s) A₂
two_calls {rule} {d} {d₁} {d₂} {a} {b} {A} {A₁} {A₂} {place} {r} {s} first is second =
    let room : ℕ = length A - place in
    let X : List ℕ = (run_batch rule d a room).bytes in
    let R₂ : Result = run_batch rule d₁ b (length A₁ - (place + r.written)) in
    let left : room - length X ≡ length A₁ - (place + r.written) = omega (arith, first.written, length_stays first) in
    let all : length a ≡ r.used = sym (all_when_end first is) in
    let one : run_batch rule d (a ++ b) room ≡ behind r.used X R₂ =
    two_pieces rule d a b room (sym first.stop ∙ is) ∙ (λ i. behind (all i) X (run_batch rule (sym first.desk i) b (left i))) in
    let rest : drop (place + r.written + s.written) A₁ ≡ drop (place + (r.written + s.written)) A =
    sym (drop-drop s.written (place + r.written) A₁) ∙ ap (drop s.written) (behind_stays first) ∙ drop-drop s.written (place + r.written) A
    ∙ ap (λ (k : ℕ). drop k A) (add_assoc place r.written s.written) in
    record {
      desk = second.desk ∙ sym (ap (λ (t : Result). t.desk) one);
      stop = second.stop ∙ sym (ap (λ (t : Result). t.stop) one);
      used = ap (λ (k : ℕ). r.used + k) second.used ∙ sym (ap (λ (t : Result). t.used) one);
      written =
          (λ i. first.written i + second.written i) ∙ sym (length-append X R₂.bytes) ∙ sym (ap (λ (t : Result). length t.bytes) one);
      buffer =
          second.buffer ∙ (λ i. up_to_end first i ++ R₂.bytes ++ rest i)
          ∙ ap (λ (l : List ℕ). l ++ drop (place + (r.written + s.written)) A) (append_assoc (take place A) X R₂.bytes)
          ∙ ap (λ (t : Result). take place A ++ t.bytes ++ drop (place + (r.written + s.written)) A) (sym one);
    }

-- after stop 13, a call over the unused bytes with a fresh buffer B that has room for an answer from `from` on: the two calls do what
-- one batch with their room together does, and its answers are those of the first buffer and then those of the second
pub call_again : {rule : Rule} {d d₁ d₂ : State} {R A A₁ B B₁ : List ℕ} {place from : ℕ} {r s : Ran} → Batched rule d R A place d₁ r A₁ → r.stop ≡ Stop.NoRoom → 5 ≤ length B - from
    → Batched rule d₁ (drop r.used R) B from d₂ s B₁
    → run_batch rule d R (r.written + (length B - from))
    ≡ record { desk = d₂; stop = s.stop; used = r.used + s.used; bytes = take r.written (drop place A₁) ++ take s.written (drop from B₁) }
call_again {rule} {d} {d₁} {d₂} {R} {A} {A₁} {B} {B₁} {place} {from} {r} {s} first is five second =
    let room : ℕ = length A - place in
    let X : List ℕ = (run_batch rule d R room).bytes in
    let fresh : ℕ = length B - from in
    ap (λ (k : ℕ). run_batch rule d R (k + fresh)) first.written ∙ fresh_buffer rule d R room fresh five (sym first.stop ∙ is)
    ∙ (λ i. behind (sym first.used i) (sym (written_is first) i) (run_batch rule (sym first.desk i) (drop (sym first.used i) R) fresh))
    ∙ (λ i. record { desk = sym second.desk i; stop = sym second.stop i; used = r.used + sym second.used i; bytes = take r.written (drop place A₁) ++ sym (written_is second) i })
