-- The ways a batch goes: by its four stops, and by a request with a batch behind it.
use Rattle.std.specs.Prelude.{Ok, Err}
use mathlib.Core.Path.{◌≡◌, sym, ap, ◌∙◌, subst}
use mathlib.Core.List.{List, [], ◌∷◌}
use Prim.Native.Nat.{ℕ, suc, ◌-◌, ◌≤◌, ◌<◌}
use native.Mathlib.Decide.{dec_le}
use native.Mathlib.Omega.{arith}
use lib.ListN.{length, drop}
use Rattle.request.specs.Bytes.{◌#◌}
use Rattle.request.specs.Kinds.{body_length}
use Rattle.request.specs.Reading.{frame_of}
use Rattle.request.specs.Framing.{Series}
use Rattle.request.specs.declared.Request.{Request}
use Rattle.request.proofs.Framing.{Cuts, nothing, whole, cuts, whole_is}
use Rattle.request.proofs.Framing as framing
use Rattle.history.specs.Machine.{step}
use Rattle.history.specs.Desk.{desk_rules}
use Rattle.batch.specs.Batch.{State, Result, run_over, run_batch}
use Rattle.batch.specs.Pieces.{behind}
use Rattle.batch.specs.declared.Stop.{Stop}
use Rattle.batch.proofs.Steps.{answered, stopped, over_none, over_unknown, over_cut, over_no_room, over_request}
use Rattle.records.specs.declared.Rule.{Rule}
use Rattle.request.specs.declared.FrameError.TheVariants.{Unknown, Cut}

pub data Runs (rule : Rule) : State → List ℕ → ℕ → Result → Type 0 where
  no_bytes : {d : State} {b : List ℕ} {room : ℕ} → b ≡ [] → Runs rule d b room (stopped d Stop.End [])
  no_room : {d : State} {b : List ℕ} {room : ℕ} → 0 < length b → room < 5 → Runs rule d b room (stopped d Stop.NoRoom [])
  unknown : {d : State} {b : List ℕ} {room : ℕ} → 0 < length b → 5 ≤ room → frame_of b ≡ Err Unknown → Runs rule d b room (stopped d Stop.Unknown (0xC1 ∷ []))
  cut : {d : State} {b : List ℕ} {room : ℕ} → 0 < length b → 5 ≤ room → frame_of b ≡ Err Cut → Runs rule d b room (stopped d Stop.Cut (0xC2 ∷ []))
  request : {d : State} {b : List ℕ} {room : ℕ} → 0 < length b → 5 ≤ room → (q : Request) → frame_of b ≡ Ok q → (r : Result)
      → Runs rule (step (desk_rules rule) d q).desk (drop (suc (body_length (b # 0))) b) (room - length (answered rule d q)) r
      → Runs rule d b room (behind (suc (body_length (b # 0))) (answered rule d q) r)

runs_over : {rule : Rule} {b : List ℕ} {s : Series} → Cuts b s → (d : State) (room : ℕ) → Runs rule d b room (run_over rule d s room)
runs_over {rule} {b} (nothing e) d room = subst (Runs rule d b room) (sym (over_none rule d room)) (no_bytes e)
runs_over {rule} {b} {s} (framing.unknown l f) d room =
    elim (dec_le 5 room) [
      | yes h ↦ subst (Runs rule d b room) (sym (over_unknown rule d room (b # 0) h)) (unknown l h f)
      | no far ↦ subst (Runs rule d b room) (sym (over_no_room rule d room (framing.unknown l f) l (omega (arith, far)))) (no_room l (omega (arith, far)))
    ]
runs_over {rule} {b} {s} (framing.cut l f) d room =
    elim (dec_le 5 room) [
      | yes h ↦ subst (Runs rule d b room) (sym (over_cut rule d room (b # 0) h)) (cut l h f)
      | no far ↦ subst (Runs rule d b room) (sym (over_no_room rule d room (framing.cut l f) l (omega (arith, far)))) (no_room l (omega (arith, far)))
    ]
runs_over {rule} {b} {s} (whole l q f t later) d room =
    let e : State = (step (desk_rules rule) d q).desk in
    let left : ℕ = room - length (answered rule d q) in
    let on : Runs rule e (drop (suc (body_length (b # 0))) b) left (run_over rule e t left) = runs_over later e left in
    elim (dec_le 5 room) [
      | yes h ↦ subst (Runs rule d b room) (sym (over_request rule d room q t h ∙ ap (λ (n : ℕ). behind n (answered rule d q) (run_over rule e t left)) (whole_is b q f).size))
          (request l h q f (run_over rule e t left) on)
      | no far ↦ subst (Runs rule d b room) (sym (over_no_room rule d room (whole l q f t later) l (omega (arith, far)))) (no_room l (omega (arith, far)))
    ]

pub runs : (rule : Rule) (d : State) (b : List ℕ) (room : ℕ) → Runs rule d b room (run_batch rule d b room)
unfolding run_batch
runs rule d b room = runs_over (cuts b) d room
