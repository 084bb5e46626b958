-- What a batch takes and answers, of what a call returns: it is a run, the bytes used are its requests written out, and the bytes written are their answers'.
use mathlib.Core.Path.{◌≡◌, refl, sym, ap, ◌∙◌}
use mathlib.Core.Logic.{◌⊎◌, inl, inr}
use mathlib.Core.List.{List, [], ◌∷◌, ◌++◌, append_assoc}
use Prim.Native.Nat.{ℕ, ◌-◌}
use native.Mathlib.Omega.{arith}
use lib.ListN.{length, take, drop}
use lib.Seq.{take_at}
use Rattle.request.specs.Bytes.{◌#◌, Bytes}
use Rattle.request.specs.Framing.{series_of, written_out}
use Rattle.request.specs.declared.Request.{Request}
use Rattle.request.proofs.Framing.{requests_as_written}
use Rattle.history.specs.Machine.{step, run, answers}
use Rattle.history.specs.Desk.{desk_rules, answer_byte, answer_bytes}
use Rattle.history.specs.declared.Answer.{Answer}
use Rattle.batch.specs.Batch.{State, stop_number, bytes_of, room_for, taken, closing, run_batch, Batched}
use Rattle.batch.specs.declared.Stop.{Stop}
use Rattle.batch.specs.declared.Ran.{Ran}
use Rattle.batch.proofs.Bounds.{written_is}
use Rattle.records.specs.declared.Rule.{Rule}

-- ---- of the batch of specs/
module _ (rule : Rule) (d : State) (b : List ℕ) (room : ℕ) where
  pub batch_runs : (run_batch rule d b room).desk ≡ run (desk_rules rule) d (taken rule d b room)
  unfolding run_batch
  batch_runs = refl

  pub batch_used : (run_batch rule d b room).used ≡ length (written_out (taken rule d b room))
  unfolding run_batch
  batch_used = refl

  pub batch_writes : (run_batch rule d b room).bytes ≡ bytes_of (answers (desk_rules rule) d (taken rule d b room)) ++ closing (run_batch rule d b room).stop
  unfolding run_batch
  batch_writes = refl

-- ---- of what a call returns
module _ {rule : Rule} {d : State} {R A : List ℕ} {place : ℕ} {d' : State} {r : Ran} {A' : List ℕ} (b : Batched rule d R A place d' r A') where
  abbrev room : ℕ
  room = length A - place

  -- the desk is that of a run of the requests taken
  pub desk_runs : d' ≡ run (desk_rules rule) d (taken rule d R room)
  desk_runs = b.desk ∙ batch_runs rule d R room

  -- the bytes used are those requests written out
  pub used_are_taken : Bytes R → take r.used R ≡ written_out (taken rule d R room)
  used_are_taken small =
      let W : List ℕ = written_out (taken rule d R room) in
      let n : r.used ≡ length W = b.used ∙ batch_used rule d R room in
      let split : R ≡ W ++ drop (length W) R = requests_as_written R small (room_for room (answers (desk_rules rule) d (series_of R).requests)) in
      ap (take r.used) split ∙ take_at W (drop (length W) R) r.used (sym n)

  -- the bytes written are their answers', and the stop's own byte
  pub written_are_answers : take r.written (drop place A') ≡ bytes_of (answers (desk_rules rule) d (taken rule d R room)) ++ closing r.stop
  written_are_answers =
      written_is b ∙ batch_writes rule d R room ∙ ap (λ (s : Stop). bytes_of (answers (desk_rules rule) d (taken rule d R room)) ++ closing s) (sym b.stop)

-- ---- a refused request touches one byte
pub refused_one : (n : ℕ) → answer_bytes (Answer.Refused n) ≡ answer_byte (Answer.Refused n) ∷ []
refused_one n = refl

answers_apart : (rule : Rule) (d : State) (qs : List Request) (q : Request) (more : List Request)
    → bytes_of (answers (desk_rules rule) d (qs ++ (q ∷ more)))
    ≡ bytes_of (answers (desk_rules rule) d qs) ++ (answer_bytes (step (desk_rules rule) (run (desk_rules rule) d qs) q).answer ++ bytes_of (answers (desk_rules rule) (step (desk_rules rule) (run (desk_rules rule) d qs) q).desk more))
answers_apart rule d [] q more = refl
answers_apart rule d (p ∷ qs) q more =
    ap (λ (l : List ℕ). answer_bytes (step (desk_rules rule) d p).answer ++ l) (answers_apart rule (step (desk_rules rule) d p).desk qs q more)
    ∙ sym (append_assoc (answer_bytes (step (desk_rules rule) d p).answer) (bytes_of (answers (desk_rules rule) (step (desk_rules rule) d p).desk qs)) _)

-- where the requests taken are qs, then one that is refused, then more: behind the bytes of the answers to qs stands its one byte, and then the next answers'
pub refused_one_byte : {rule : Rule} {d : State} {R A : List ℕ} {place : ℕ} {d' : State} {r : Ran} {A' : List ℕ} → Batched rule d R A place d' r A'
    → (qs : List Request) (q : Request) (more : List Request) → taken rule d R (length A - place) ≡ qs ++ (q ∷ more)
    → (n : ℕ) → (step (desk_rules rule) (run (desk_rules rule) d qs) q).answer ≡ Answer.Refused n
    → take r.written (drop place A')
    ≡ bytes_of (answers (desk_rules rule) d qs) ++ (answer_byte (Answer.Refused n) ∷ bytes_of (answers (desk_rules rule) (step (desk_rules rule) (run (desk_rules rule) d qs) q).desk more)) ++ closing r.stop
refused_one_byte {rule} {d} {r = r} b qs q more is n refused =
    let e : State = (step (desk_rules rule) (run (desk_rules rule) d qs) q).desk in
    written_are_answers b
    ∙ ap (λ (l : List Request). bytes_of (answers (desk_rules rule) d l) ++ closing r.stop) is
    ∙ ap (λ (l : List ℕ). l ++ closing r.stop) (answers_apart rule d qs q more)
    ∙ ap (λ (a : Answer). bytes_of (answers (desk_rules rule) d qs) ++ (answer_bytes a ++ bytes_of (answers (desk_rules rule) e more)) ++ closing r.stop) refused

-- ---- the numbers of the stops
pub distinct_numbers : (s t : Stop) → stop_number s ≡ stop_number t → s ≡ t
distinct_numbers Stop.End Stop.End e = refl
distinct_numbers Stop.End Stop.NoRoom e = absurd (omega (arith, e))
distinct_numbers Stop.End Stop.Unknown e = absurd (omega (arith, e))
distinct_numbers Stop.End Stop.Cut e = absurd (omega (arith, e))
distinct_numbers Stop.NoRoom Stop.End e = absurd (omega (arith, e))
distinct_numbers Stop.NoRoom Stop.NoRoom e = refl
distinct_numbers Stop.NoRoom Stop.Unknown e = absurd (omega (arith, e))
distinct_numbers Stop.NoRoom Stop.Cut e = absurd (omega (arith, e))
distinct_numbers Stop.Unknown Stop.End e = absurd (omega (arith, e))
distinct_numbers Stop.Unknown Stop.NoRoom e = absurd (omega (arith, e))
distinct_numbers Stop.Unknown Stop.Unknown e = refl
distinct_numbers Stop.Unknown Stop.Cut e = absurd (omega (arith, e))
distinct_numbers Stop.Cut Stop.End e = absurd (omega (arith, e))
distinct_numbers Stop.Cut Stop.NoRoom e = absurd (omega (arith, e))
distinct_numbers Stop.Cut Stop.Unknown e = absurd (omega (arith, e))
distinct_numbers Stop.Cut Stop.Cut e = refl

-- a stop's own byte is C1 or C2, or none
pub closing_is : (s : Stop) → (closing s ≡ []) ⊎ ((closing s ≡ 0xC1 ∷ []) ⊎ (closing s ≡ 0xC2 ∷ []))
closing_is Stop.End = inl refl
closing_is Stop.NoRoom = inl refl
closing_is Stop.Unknown = inr (inl refl)
closing_is Stop.Cut = inr (inr refl)

-- so 13 is never written for a stop
pub closing_never_13 : (s : Stop) → closing s ≡ answer_bytes (Answer.Refused 13) → ⊥
closing_never_13 Stop.End e = omega (arith, ap length e)
closing_never_13 Stop.NoRoom e = omega (arith, ap length e)
closing_never_13 Stop.Unknown e = omega (arith, ap (λ (l : List ℕ). l # 0) e)
closing_never_13 Stop.Cut e = omega (arith, ap (λ (l : List ℕ). l # 0) e)
