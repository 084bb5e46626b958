-- What a turn of the batch's loop does to the lists.
use Rattle.std.specs.Prelude.{Result as Framed, Ok, Err}
use mathlib.Core.Path.{◌≡◌, refl, sym, ap, ◌∙◌, subst}
use mathlib.Core.List.{List, [], ◌++◌, append_assoc, append-nil}
use Prim.Native.Nat.{ℕ, suc, ◌+◌, ◌-◌, ◌≤◌, ◌<◌}
use native.Mathlib.Nat.{add-zero}
use native.Mathlib.Omega.{arith}
use lib.ListN.{length, take, drop, length-append, length-drop, take-append-drop, drop_of_length-le}
use lib.Seq.{take_all, take_at, drop_at, drop-drop, length-take-le}
use Rattle.request.specs.Bytes.{◌#◌}
use Rattle.request.specs.Kinds.{body_length}
use Rattle.request.specs.Reading.{request_of, frame_of, length_in, start_of}
use Rattle.request.specs.declared.Request.{Request}
use Rattle.request.proofs.Framing.{whole_is}
use Rattle.request.proofs.Ways.{framed, as_framed}
use Rattle.history.specs.Machine.{outcome, step}
use Rattle.history.specs.Desk.{desk_rules, answer_bytes}
use Rattle.history.specs.declared.Answer.{Answer}
use Rattle.batch.specs.Batch.{State, Result, run_batch, Batched}
use Rattle.batch.specs.Pieces.{behind}
use Rattle.batch.specs.declared.Ran.{Ran}
use Rattle.batch.specs.declared.Stop.{Stop}
use Rattle.batch.proofs.Steps.{at_most_five, stopped, behind_none, behind_behind, with_no_bytes, with_no_room, with_unknown, with_cut, with_request}
use Rattle.records.specs.declared.Rule.{Rule}
use Rattle.request.specs.declared.FrameError.{FrameError}
use Rattle.request.specs.declared.FrameError.TheVariants.{Unknown, Cut}

-- the buffer A once its part from `at` on has come back as ys
abbrev pub back : List ℕ → ℕ → List ℕ → List ℕ
back A at ys = take at A ++ (ys ++ drop (length A - at) (drop at A))

-- a part that came back with bs in front and otherwise as it was
lent : (A ys bs : List ℕ) (at k : ℕ) → k ≡ length A - at → ys ≡ bs ++ drop (length bs) (take k (drop at A))
    → take at A ++ (ys ++ drop k (drop at A)) ≡ take at A ++ (bs ++ drop (at + length bs) A)
lent A ys bs at k is-k is-ys =
    let l : length (drop at A) ≤ k = simp length-drop (omega arith) in
    simp (is-ys, take_all k (drop at A) l, drop_of_length-le (drop at A) l, drop-drop, append-nil)

length_or0 : Framed ℕ FrameError → ℕ
length_or0 (Ok n) = n
length_or0 (Err Unknown) = 0
length_or0 (Err Cut) = 0

-- where the loop turns: the requests R, the buffer A₀ and the desk d₀ at the start, the buffer A and the desk d now
pub record Underway (rule : Rule) (R A₀ : List ℕ) (place : ℕ) (d₀ : State) (A : List ℕ) (d : State) (used at : ℕ) : Type 0 where
  pub bytes : List ℕ
  pub in_requests : used ≤ length R
  pub same_length : length A ≡ length A₀
  pub place_now : at ≡ place + length bytes
  pub buffer : A ≡ take place A₀ ++ bytes ++ drop at A₀
  pub so_far : run_batch rule d₀ R (length A₀ - place) ≡ behind used bytes (run_batch rule d (drop used R) (length A₀ - at))

-- where the loop was left by the stop s
abbrev pub Over : Rule → (R A₀ : List ℕ) (place : ℕ) (d₀ d : State) (used : ℕ) (A : List ℕ) (at : ℕ) (s : Stop) → Type 0
Over rule R A₀ place d₀ d used A at s =
    Batched rule d₀ R A₀ place d (record { stop = s; used = used; written = at - place }) A × ((length A ≡ length A₀) × (place ≤ at))

pub as_left : {rule : Rule} {R A₀ : List ℕ} {place : ℕ} {d₀ d : State} {used : ℕ} {A A' : List ℕ} {at at' : ℕ} {s s' : Stop} → A' ≡ A → at' ≡ at → s' ≡ s
    → Over rule R A₀ place d₀ d used A at s → Over rule R A₀ place d₀ d used A' at' s'
as_left {rule} {R} {A₀} {place} {d₀} {d} {used} p q r x =
    subst (λ (t : List ℕ × ℕ × Stop). Over rule R A₀ place d₀ d used t.0 t.1 t.2) (λ i. (sym p i, sym q i, sym r i)) x

pub as_returned : {rule : Rule} {d d' : State} {R A A' : List ℕ} {place : ℕ} {r r' : Ran} → r' ≡ r → Batched rule d R A place d' r A' → Batched rule d R A place d' r' A'
as_returned {rule} {d} {d'} {R} {A} {A'} {place} e b = subst (λ (r : Ran). Batched rule d R A place d' r A') (sym e) b

pub at_start : (rule : Rule) (R A₀ : List ℕ) (place : ℕ) (d₀ : State) → Underway rule R A₀ place d₀ A₀ d₀ 0 place
at_start rule R A₀ place d₀ =
    record {
      bytes = [];
      in_requests = omega arith;
      same_length = refl;
      place_now = sym (add-zero place);
      buffer = simp (append-nil, take-append-drop);
      so_far = behind_none _;
    }

module _ {rule : Rule} {R A₀ : List ℕ} {place : ℕ} {d₀ : State} {A : List ℕ} {d : State} {used at : ℕ} (h : Underway rule R A₀ place d₀ A d used at) where
  -- bs at the present place of the buffer
  wrote : (bs : List ℕ) → at ≤ length A → take at A ++ (bs ++ drop (at + length bs) A) ≡ take place A₀ ++ (h.bytes ++ bs) ++ drop (at + length bs) A₀
  wrote bs in-A =
      let front : List ℕ = take place A₀ ++ h.bytes in
      let le : place ≤ length A₀ = omega arith in
      let len : length front ≡ at = simp (length-append, length-take-le place A₀ le) (sym h.place_now) in
      let before : take at A ≡ front = ap (take at) h.buffer ∙ take_at front (drop at A₀) at len in
      let rear : drop at A ≡ drop at A₀ = ap (drop at) h.buffer ∙ drop_at front (drop at A₀) at len in
      let rest : drop (at + length bs) A ≡ drop (at + length bs) A₀ =
      sym (drop-drop (length bs) at A) ∙ ap (drop (length bs)) rear ∙ drop-drop (length bs) at A₀ in
      simp (before, rest, append_assoc)

  -- the batch ends here, and bs is the last that it wrote
  finish : (s : Stop) (bs : List ℕ) (A' : List ℕ) → run_batch rule d (drop used R) (length A₀ - at) ≡ stopped d s bs
      → A' ≡ take place A₀ ++ (h.bytes ++ bs) ++ drop (at + length bs) A₀
      → Batched rule d₀ R A₀ place d (record { stop = s; used = used; written = at + length bs - place }) A'
  finish s bs A' e b =
      let q : run_batch rule d₀ R (length A₀ - place) ≡ behind used h.bytes (stopped d s bs) = h.so_far ∙ ap (behind used h.bytes) e in
      let n : length (run_batch rule d₀ R (length A₀ - place)).bytes ≡ length h.bytes + length bs =
      ap (λ (r : Result). length r.bytes) q ∙ length-append h.bytes bs in
      let w : place + (at + length bs - place) ≡ at + length bs = omega (arith, h.place_now) in
      record {
        desk = sym (ap (λ (r : Result). r.desk) q);
        stop = sym (ap (λ (r : Result). r.stop) q);
        used = sym (ap (λ (r : Result). r.used) q ∙ add-zero used);
        written = omega (arith, h.place_now, n);
        buffer = b ∙ simp (ap (λ (r : Result). r.bytes) q, w);
      }

  -- the batch ends and writes nothing more
  stay : (s : Stop) → run_batch rule d (drop used R) (length A₀ - at) ≡ stopped d s [] → Over rule R A₀ place d₀ d used A at s
  stay s e =
      let r = finish s [] A e (h.buffer ∙ simp (append-nil, add-zero)) in (
        subst (λ (k : ℕ). Batched rule d₀ R A₀ place d (record { stop = s; used = used; written = k - place }) A) (add-zero at) r,
        (h.same_length, omega (arith, h.place_now)),
      )

  pub at_end_lem : length R ≤ used → Over rule R A₀ place d₀ d used A at Stop.End
  at_end_lem e = stay Stop.End (ap (λ (l : List ℕ). run_batch rule d l (length A₀ - at)) (drop_of_length-le R e) ∙ with_no_bytes rule d (length A₀ - at))

  some_left : used < length R → 0 < length (drop used R)
  some_left l = simp length-drop (omega arith)

  pub no_room : used < length R → (room : ℕ) → room ≡ length A - at → room < 5 → Over rule R A₀ place d₀ d used A at Stop.NoRoom
  no_room in-R room is-room l = stay Stop.NoRoom (with_no_room rule d (length A₀ - at) (drop used R) (some_left in-R) (omega (arith, h.same_length)))

  -- the part of the buffer from the present place on came back with bs in front
  module _ (bs ys : List ℕ) (fits : at + length bs ≤ length A) (is-ys : ys ≡ bs ++ drop (length bs) (take (length A - at) (drop at A))) where
    came_back : back A at ys ≡ take place A₀ ++ (h.bytes ++ bs) ++ drop (at + length bs) A₀
    came_back = lent A ys bs at (length A - at) refl is-ys ∙ wrote bs (omega arith)

    as_long : length (back A at ys) ≡ length A₀
    as_long =
        ap length (lent A ys bs at (length A - at) refl is-ys)
        ∙ simp (length-append, length-take-le at A (omega arith), length-drop) (omega (arith, h.same_length))

  -- a turn: there are request bytes and answer room, and the rest of the bytes begins so
  module _ (in-R : used < length R) (room : ℕ) (is-room : room ≡ length A - at) (five : 5 ≤ room) (f : Framed ℕ FrameError) (is_f : f ≡ start_of (take (length R - used) (drop used R))) where
    room₀ : 5 ≤ length A₀ - at
    room₀ = omega (arith, h.same_length)

    all_of_it : take (length R - used) (drop used R) ≡ drop used R
    all_of_it = take_all (length R - used) (drop used R) (simp length-drop (omega arith))

    begins : start_of (drop used R) ≡ f
    begins = sym (is_f ∙ ap start_of all_of_it)

    -- the frame there, where f is s
    ahead : (s : Framed ℕ FrameError) → f ≡ s → frame_of (drop used R) ≡ framed s (request_of (drop used R # 0) (drop used R))
    ahead s is = as_framed (drop used R) ∙ ap (λ (t : Framed ℕ FrameError). framed t (request_of (drop used R # 0) (drop used R))) (begins ∙ is)

    -- the answer a of r bytes is written, and the batch ends by the stop s
    ends : (s : Stop) (a : Answer) → run_batch rule d (drop used R) (length A₀ - at) ≡ stopped d s (answer_bytes a)
        → (r : ℕ) → r ≡ length (answer_bytes a) → (ys : List ℕ) → ys ≡ answer_bytes a ++ drop (length (answer_bytes a)) (take (length A - at) (drop at A))
        → Over rule R A₀ place d₀ d used (back A at ys) (at + r) s
    ends s a e r is-r ys is-ys =
        let bs : List ℕ = answer_bytes a in
        let small : length bs ≤ 5 = at_most_five a in
        let fits : at + length bs ≤ length A = omega arith in
        let b = finish s bs (back A at ys) e (came_back bs ys fits is-ys) in (
          subst (λ (k : ℕ). Batched rule d₀ R A₀ place d (record { stop = s; used = used; written = at + k - place }) (back A at ys)) (sym is-r) b,
          (as_long bs ys fits is-ys, omega (arith, h.place_now)),
        )

    pub unknown : f ≡ Err Unknown → (r : ℕ) → r ≡ length (answer_bytes (Answer.Refused 1))
        → (ys : List ℕ) → ys ≡ answer_bytes (Answer.Refused 1) ++ drop (length (answer_bytes (Answer.Refused 1))) (take (length A - at) (drop at A))
        → Over rule R A₀ place d₀ d used (back A at ys) (at + r) Stop.Unknown
    unknown u = ends Stop.Unknown (Answer.Refused 1) (with_unknown rule d (length A₀ - at) (drop used R) room₀ (ahead (Err Unknown) u))

    pub cut : f ≡ Err Cut → (r : ℕ) → r ≡ length (answer_bytes (Answer.Refused 2))
        → (ys : List ℕ) → ys ≡ answer_bytes (Answer.Refused 2) ++ drop (length (answer_bytes (Answer.Refused 2))) (take (length A - at) (drop at A))
        → Over rule R A₀ place d₀ d used (back A at ys) (at + r) Stop.Cut
    cut u = ends Stop.Cut (Answer.Refused 2) (with_cut rule d (length A₀ - at) (drop used R) (some_left in-R) room₀ (ahead (Err Cut) u))

    module _ (n : ℕ) (is-n : f ≡ Ok n) (q : Request) (is-q : q ≡ request_of (take (length R - used) (drop used R) # 0) (take (length R - used) (drop used R))) where
      whole_ahead : frame_of (drop used R) ≡ Ok q
      whole_ahead = ahead (Ok n) is-n ∙ ap Ok (sym (is-q ∙ ap (λ (b : List ℕ). request_of (b # 0) b) all_of_it))

      kind_ahead : body_length (drop used R # 0) ≡ n
      unfolding body_length length_or0
      kind_ahead = ap length_or0 (sym (ap (length_in (drop used R # 0)) whole_ahead) ∙ begins ∙ is-n)

      -- the request's bytes are all there
      pub inside : used + (1 + n) ≤ length R
      inside =
          let w = (whole_is (drop used R) q whole_ahead).inside in
          let l : length (drop used R) ≡ length R - used = length-drop used R in
          omega (arith, kind_ahead, w)

      -- the desk answers a and is d' then; r bytes are written
      pub next : (d' : State) (a : Answer) → outcome d' a ≡ step (desk_rules rule) d q → (r : ℕ) → r ≡ length (answer_bytes a)
          → (ys : List ℕ) → ys ≡ answer_bytes a ++ drop (length (answer_bytes a)) (take (length A - at) (drop at A))
          → Underway rule R A₀ place d₀ (back A at ys) d' (used + (1 + n)) (at + r)
      next d' a is r is-r ys is-ys =
          let bs : List ℕ = answer_bytes a in
          let small : length bs ≤ 5 = at_most_five a in
          let fits : at + length bs ≤ length A = omega arith in
          let step : run_batch rule d (drop used R) (length A₀ - at) ≡ behind (suc n) bs (run_batch rule d' (drop (suc n) (drop used R)) (length A₀ - at - length bs)) =
          with_request rule d (length A₀ - at) (drop used R) room₀ q whole_ahead (outcome d' a) (sym is) n kind_ahead in
          let e₁ : used + suc n ≡ used + (1 + n) = omega arith in
          let e₂ : length A₀ - at - length bs ≡ length A₀ - (at + r) = omega (arith, is-r) in
          let e₃ : drop (suc n) (drop used R) ≡ drop (used + (1 + n)) R = drop-drop (suc n) used R ∙ ap (λ (k : ℕ). drop k R) e₁ in
          record {
            bytes = h.bytes ++ bs;
            in_requests = inside;
            same_length = as_long bs ys fits is-ys;
            place_now = simp length-append (omega (arith, h.place_now, is-r));
            buffer = came_back bs ys fits is-ys ∙ ap (λ (k : ℕ). take place A₀ ++ (h.bytes ++ bs) ++ drop (at + k) A₀) (sym is-r);
            so_far =
                h.so_far ∙ ap (behind used h.bytes) step ∙ behind_behind used (suc n) h.bytes bs _
                ∙ (λ i. behind (e₁ i) (h.bytes ++ bs) (run_batch rule d' (e₃ i) (e₂ i)));
          }
