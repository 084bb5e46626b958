-- The program and the batch give the same answers: those of a run of the requests that the bytes are cut into, and the end's own.
use Prim.Native.Nat.{ℕ, ◌-◌, ◌*◌, ◌≤◌}
use mathlib.Core.Bool.{true}
use mathlib.Core.Path.{◌≡◌, refl, ap, ◌∙◌}
use mathlib.Core.List.{List, [], ◌∷◌, ◌++◌}
use native.Mathlib.Omega.{arith}
use lib.ListN.{length}
use Rattle.request.specs.Bytes.{◌#◌}
use Rattle.request.specs.Framing.{Series, series_of}
use Rattle.request.specs.declared.Request.{Request}
use Rattle.request.proofs.Framing.{Cuts, nothing, unknown, cut, whole, cuts}
use Rattle.records.specs.House.{House}
use Rattle.records.specs.declared.Rule.{Rule}
use Rattle.effects.specs.declared.Change.{Change}
use Rattle.history.specs.Machine.{Desk, step, answers}
use Rattle.history.specs.Desk.{desk_rules}
use Rattle.history.specs.declared.Answer.{Answer}
use Rattle.batch.specs.Batch.{Result, bytes_of, run_over, run_batch}
use Rattle.batch.proofs.Steps.{at_most_five, answered, over_unknown, over_cut, over_request}
use Rattle.desk.specs.Answers.{Given, replies, at_end, given_to, given, answers_in}

-- ---- the program
of_the_run : (rule : Rule) (d : Desk House Change) (qs : List Request) (gs : List Given) → answers_in (replies rule d qs ++ gs) ≡ answers (desk_rules rule) d qs ++ answers_in gs
of_the_run rule d [] gs = refl
of_the_run rule d (q ∷ qs) gs = ap (λ (l : List Answer). (step (desk_rules rule) d q).answer ∷ l) (of_the_run rule (step (desk_rules rule) d q).desk qs gs)

pub prints_these : (rule : Rule) (d : Desk House Change) (input : List ℕ)
    → answers_in (given rule d input) ≡ answers (desk_rules rule) d (series_of input).requests ++ answers_in (at_end true (series_of input).end)
prints_these rule d input = of_the_run rule d (series_of input).requests (at_end true (series_of input).end)

-- ---- the batch, where its buffer has five bytes of room for each answer
over_these : (rule : Rule) {b : List ℕ} {s : Series} → Cuts b s → (d : Desk House Change) (room : ℕ) → 5 * length (given_to rule true d s) ≤ room
    → (run_over rule d s room).bytes ≡ bytes_of (answers_in (given_to rule true d s))
over_these rule (nothing e) d room h = refl
over_these rule {b} (unknown l f) d room h = ap (λ (r : Result). r.bytes) (over_unknown rule d room (b # 0) (omega (arith, h)))
over_these rule {b} (cut l f) d room h = ap (λ (r : Result). r.bytes) (over_cut rule d room (b # 0) (omega (arith, h)))
over_these rule {b} (whole l q f s later) d room h =
    let e : Desk House Change = (step (desk_rules rule) d q).desk in
    let few = at_most_five (step (desk_rules rule) d q).answer in
    ap (λ (r : Result). r.bytes) (over_request rule d room q s (omega (arith, h)))
    ∙ ap (λ (bytes : List ℕ). answered rule d q ++ bytes) (over_these rule later e (room - length (answered rule d q)) (omega (arith, h, few)))

pub writes_these : (rule : Rule) (d : Desk House Change) (b : List ℕ) (room : ℕ) → 5 * length (given rule d b) ≤ room → (run_batch rule d b room).bytes ≡ bytes_of (answers_in (given rule d b))
unfolding run_batch
writes_these rule d b room h = over_these rule (cuts b) d room h
