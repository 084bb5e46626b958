-- "all other answer bytes stay": what a batch uses and writes lies within the buffers; and the contract leaves no choice.
use mathlib.Core.Path.{◌≡◌, refl, sym, ap, ◌∙◌}
use mathlib.Core.Logic.{◌⊎◌, inl, inr}
use mathlib.Core.List.{List, [], ◌∷◌, ◌++◌, append_assoc, append-nil}
use Prim.Native.Nat.{ℕ, suc, ◌+◌, ◌-◌, ◌≤◌, ◌<◌}
use native.Mathlib.Nat.{add-zero}
use native.Mathlib.Omega.{arith}
use native.Mathlib.Decide.{dec_le}
use lib.ListN.{length, take, drop, length-append, length-drop, take-append-drop}
use lib.Seq.{take_at, drop_at, length-take-le, get_or-take, get_or-drop}
use Rattle.request.specs.Bytes.{◌#◌}
use Rattle.request.specs.Kinds.{body_length}
use Rattle.request.proofs.Framing.{whole_is}
use Rattle.history.specs.Machine.{step}
use Rattle.history.specs.Desk.{desk_rules}
use Rattle.batch.specs.Batch.{State, Result, run_batch, Batched}
use Rattle.batch.specs.declared.Ran.{Ran}
use Rattle.batch.proofs.Steps.{at_most_five, answered}
use Rattle.batch.proofs.Runs.{Runs, no_bytes, no_room, unknown, cut, request, runs}
use Rattle.records.specs.declared.Rule.{Rule}

abbrev Within : List ℕ → ℕ → Result → Type 0
Within b room r = (r.used ≤ length b) × (length r.bytes ≤ room)

pub within : {rule : Rule} {d : State} {b : List ℕ} {room : ℕ} {r : Result} → Runs rule d b room r → Within b room r
within {rule} (no_bytes e) = (omega arith, omega arith)
within {rule} (no_room l h) = (omega arith, omega arith)
within {rule} (unknown l h f) = (omega arith, omega arith)
within {rule} (cut l h f) = (omega arith, omega arith)
within {rule} {d} {b} {room} (request l h q f r later) =
    let n : ℕ = body_length (b # 0) in
    let inside : n < length b = (whole_is b q f).inside in
    let small : length (answered rule d q) ≤ 5 = at_most_five (step (desk_rules rule) d q).answer in
    let i = within later in
    let left : length (drop (suc n) b) ≡ length b - suc n = length-drop (suc n) b in
    (omega (arith, i.0), simp length-append (omega (arith, i.1)))

none : (l : List ℕ) → length l ≤ 0 → l ≡ []
none [] h = refl
none (x ∷ l) h = absurd (omega arith)

module _ {rule : Rule} {d : State} {R A : List ℕ} {place : ℕ} {d' : State} {r : Ran} {A' : List ℕ} (b : Batched rule d R A place d' r A') where
  -- no more request bytes are used than there are
  pub used_within : r.used ≤ length R
  used_within = omega (arith, b.used, (within (runs rule d R (length A - place))).0)

  -- no more answer bytes are written than the buffer has from the place on
  pub written_within : r.written ≤ length A - place
  written_within = omega (arith, b.written, (within (runs rule d R (length A - place))).1)

  past_end : length A < place → A' ≡ A
  past_end far =
      let w : r.written ≡ 0 = omega (arith, written_within) in
      let e : (run_batch rule d R (length A - place)).bytes ≡ [] = none _ (omega (arith, b.written)) in
      b.buffer ∙ simp (e, w, append-nil, add-zero, take-append-drop)

  -- the buffer is as long as before
  pub length_stays : length A' ≡ length A
  length_stays =
      elim (dec_le place (length A)) [
        | yes le ↦ ap length b.buffer ∙ simp (length-append, length-take-le place A le, length-drop) (omega (arith, b.written, written_within))
        | no far ↦ ap length (past_end (omega (arith, far)))
      ]

  -- the bytes before the place stay
  pub before_stays : take place A' ≡ take place A
  before_stays =
      elim (dec_le place (length A)) [
        | yes le ↦ let X : List ℕ = (run_batch rule d R (length A - place)).bytes in let D : List ℕ = drop (place + r.written) A in
            ap (take place) (b.buffer ∙ append_assoc (take place A) X D) ∙ take_at (take place A) (X ++ D) place (length-take-le place A le)
        | no far ↦ ap (take place) (past_end (omega (arith, far)))
      ]

  -- the bytes behind what was written stay
  pub behind_stays : drop (place + r.written) A' ≡ drop (place + r.written) A
  behind_stays =
      elim (dec_le place (length A)) [
        | yes le ↦ ap (drop (place + r.written)) b.buffer
            ∙ drop_at (take place A ++ (run_batch rule d R (length A - place)).bytes) _ (place + r.written)
            (simp (length-append, length-take-le place A le) (ap (λ (k : ℕ). place + k) (sym b.written)))
        | no far ↦ ap (drop (place + r.written)) (past_end (omega (arith, far)))
      ]

  -- up to its end the written part is what was there before the place, and then the answers
  pub up_to_end : take (place + r.written) A' ≡ take place A ++ (run_batch rule d R (length A - place)).bytes
  up_to_end =
      let X : List ℕ = (run_batch rule d R (length A - place)).bytes in
      elim (dec_le place (length A)) [
        | yes le ↦ ap (take (place + r.written)) b.buffer
            ∙ take_at (take place A ++ X) (drop (place + r.written) A) (place + r.written)
            (simp (length-append, length-take-le place A le) (ap (λ (k : ℕ). place + k) (sym b.written)))
        | no far ↦ let w : r.written ≡ 0 = omega (arith, written_within) in
            let e : X ≡ [] = none X (omega (arith, b.written)) in
            ap (take (place + r.written)) (past_end (omega (arith, far))) ∙ simp (w, add-zero, e, append-nil)
      ]

  -- the answers stand from the place on
  pub written_is : take r.written (drop place A') ≡ (run_batch rule d R (length A - place)).bytes
  written_is =
      let X : List ℕ = (run_batch rule d R (length A - place)).bytes in
      let D : List ℕ = drop (place + r.written) A in
      elim (dec_le place (length A)) [
        | yes le ↦ ap (λ (l : List ℕ). take r.written (drop place l)) (b.buffer ∙ append_assoc (take place A) X D)
            ∙ ap (take r.written) (drop_at (take place A) (X ++ D) place (length-take-le place A le)) ∙ take_at X D r.written (sym b.written)
        | no far ↦ let w : r.written ≡ 0 = omega (arith, written_within) in
            let e : X ≡ [] = none X (omega (arith, b.written)) in
            simp (w, e)
      ]

  -- every byte outside the written part stays
  pub outside_stays : (i : ℕ) → (i < place) ⊎ (place + r.written ≤ i) → A' # i ≡ A # i
  outside_stays i (inl l) = sym (get_or-take place A' i 0 l) ∙ ap (λ (l : List ℕ). l # i) before_stays ∙ get_or-take place A i 0 l
  outside_stays i (inr g) =
      let m : ℕ = place + r.written in
      let e : m + (i - m) ≡ i = omega arith in
      ap (λ (k : ℕ). A' # k) (sym e) ∙ sym (get_or-drop m A' (i - m) 0) ∙ ap (λ (l : List ℕ). l # (i - m)) behind_stays ∙ get_or-drop m A (i - m) 0
      ∙ ap (λ (k : ℕ). A # k) e

-- any two results that the contract allows coincide: the desk, what is returned, the answer buffer
pub one_result : {rule : Rule} {d : State} {R A : List ℕ} {place : ℕ} {d₁ d₂ : State} {r₁ r₂ : Ran} {A₁ A₂ : List ℕ}
    → Batched rule d R A place d₁ r₁ A₁ → Batched rule d R A place d₂ r₂ A₂ → (d₁ ≡ d₂) × ((r₁ ≡ r₂) × (A₁ ≡ A₂))
one_result {rule} {r₁ = r₁} {r₂ = r₂} b c =
    let w : r₁.written ≡ r₂.written = b.written ∙ sym c.written in (
      b.desk ∙ sym c.desk,
      (
        (λ i. record { stop = (b.stop ∙ sym c.stop) i; used = (b.used ∙ sym c.used) i; written = w i }),
        b.buffer ∙ rw w (sym c.buffer),
      ),
    )
