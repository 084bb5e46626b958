-- A batch in pieces does what one batch does.
use mathlib.Core.Path.{◌≡◌, refl, ap, ◌∙◌, subst}
use mathlib.Core.List.{List, [], ◌++◌}
use Prim.Native.Nat.{ℕ, suc, ◌+◌, ◌-◌, ◌≤◌, ◌<◌}
use native.Mathlib.Omega.{arith}
use lib.ListN.{length, drop, length-append}
use lib.Seq.{drop-drop, drop-append-le}
use Rattle.request.specs.Bytes.{◌#◌}
use Rattle.request.specs.Kinds.{body_length}
use Rattle.request.proofs.Framing.{whole_is}
use Rattle.request.proofs.Absurd.{differ}
use Rattle.history.specs.Machine.{step}
use Rattle.history.specs.Desk.{desk_rules}
use Rattle.batch.specs.Batch.{State, Result, run_batch}
use Rattle.batch.specs.Stops.{Means}
use Rattle.batch.specs.Pieces.{behind}
use Rattle.batch.specs.declared.Stop.{Stop}
use Rattle.request.proofs.More.{kind_more, frame_more}
use Rattle.batch.proofs.Steps.{answered, behind_none, behind_behind, with_request}
use Rattle.batch.proofs.Runs.{Runs, no_bytes, no_room, unknown, cut, request, runs}
use Rattle.batch.proofs.Stops.{stop_means}
use Rattle.records.specs.declared.Rule.{Rule}

minus_none : (n : ℕ) → n ≡ n - 0
minus_none n = omega arith

-- ---- the request bytes in two pieces
pieces : {rule : Rule} {d : State} {a : List ℕ} {room : ℕ} {r : Result} (b : List ℕ) → Runs rule d a room r → r.stop ≡ Stop.End
    → run_batch rule d (a ++ b) room ≡ behind r.used r.bytes (run_batch rule r.desk b (room - length r.bytes))
pieces {rule} {d} {a} {room} b (no_bytes e) is =
    ap (λ (l : List ℕ). run_batch rule d (l ++ b) room) e ∙ behind_none (run_batch rule d b room) ∙ ap (λ (k : ℕ). behind 0 [] (run_batch rule d b k)) (minus_none room)
pieces {rule} b (no_room l h) is = differ cc
pieces {rule} b (unknown l h f) is = differ cc
pieces {rule} b (cut l h f) is = differ cc
pieces {rule} {d} {a} {room} b (request l h q f r later) is =
    let n : ℕ = body_length (a # 0) in
    let bs : List ℕ = answered rule d q in
    let inside : suc n ≤ length a = (whole_is a q f).inside in
    let first : run_batch rule d (a ++ b) room ≡ behind (suc n) bs (run_batch rule (step (desk_rules rule) d q).desk (drop (suc n) (a ++ b)) (room - length bs)) =
    with_request rule d room (a ++ b) h q (frame_more a b l q f) (step (desk_rules rule) d q) refl n (ap body_length (kind_more a b l)) in
    let room-left : room - length bs - length r.bytes ≡ room - length (bs ++ r.bytes) = simp length-append (omega arith) in
    first ∙ ap (λ (t : List ℕ). behind (suc n) bs (run_batch rule (step (desk_rules rule) d q).desk t (room - length bs))) (drop-append-le (suc n) a b inside)
    ∙ ap (behind (suc n) bs) (pieces b later is) ∙ behind_behind (suc n) r.used bs r.bytes _
    ∙ ap (λ (k : ℕ). behind (suc n + r.used) (bs ++ r.bytes) (run_batch rule r.desk b k)) room-left

-- a batch over a that ends with no bytes left, and then one over b with the room left, is one batch over a ++ b
pub two_pieces : (rule : Rule) (d : State) (a b : List ℕ) (room : ℕ) → (run_batch rule d a room).stop ≡ Stop.End
    → run_batch rule d (a ++ b) room
    ≡ behind (length a) (run_batch rule d a room).bytes (run_batch rule (run_batch rule d a room).desk b (room - length (run_batch rule d a room).bytes))
two_pieces rule d a b room is =
    let r : Result = run_batch rule d a room in
    let all : r.used ≡ length a = subst (λ (s : Stop). Means s a room r.used r.bytes) is (stop_means rule d a room) in
    pieces b (runs rule d a room) is ∙ ap (λ (n : ℕ). behind n r.bytes (run_batch rule r.desk b (room - length r.bytes))) all

-- ---- the answer room in two pieces
goes_on : {rule : Rule} {d : State} {b : List ℕ} {room : ℕ} {r : Result} (more : ℕ) → room ≤ more → Runs rule d b room r → r.stop ≡ Stop.NoRoom
    → run_batch rule d b more ≡ behind r.used r.bytes (run_batch rule r.desk (drop r.used b) (more - length r.bytes))
goes_on {rule} more m (no_bytes e) is = differ cc
goes_on {rule} {d} {b} more m (no_room l h) is = behind_none (run_batch rule d b more) ∙ ap (λ (k : ℕ). behind 0 [] (run_batch rule d b k)) (minus_none more)
goes_on {rule} more m (unknown l h f) is = differ cc
goes_on {rule} more m (cut l h f) is = differ cc
goes_on {rule} {d} {b} {room} more m (request l h q f r later) is =
    let n : ℕ = body_length (b # 0) in
    let bs : List ℕ = answered rule d q in
    let first : run_batch rule d b more ≡ behind (suc n) bs (run_batch rule (step (desk_rules rule) d q).desk (drop (suc n) b) (more - length bs)) =
    with_request rule d more b (omega arith) q f (step (desk_rules rule) d q) refl n refl in
    let on = goes_on (more - length bs) (omega arith) later is in
    let room-left : more - length bs - length r.bytes ≡ more - length (bs ++ r.bytes) = simp length-append (omega arith) in
    first ∙ ap (behind (suc n) bs) on ∙ behind_behind (suc n) r.used bs r.bytes _
    ∙ (λ i. behind (suc n + r.used) (bs ++ r.bytes) (run_batch rule r.desk (drop-drop r.used (suc n) b i) (room-left i)))

-- after stop 13, going on behind the bytes used, with a fresh buffer that has room for an answer, does what one batch with that much more room does
pub fresh_buffer : (rule : Rule) (d : State) (b : List ℕ) (room fresh : ℕ) → 5 ≤ fresh → (run_batch rule d b room).stop ≡ Stop.NoRoom
    → run_batch rule d b (length (run_batch rule d b room).bytes + fresh)
    ≡ behind (run_batch rule d b room).used (run_batch rule d b room).bytes (run_batch rule (run_batch rule d b room).desk (drop (run_batch rule d b room).used b) fresh)
fresh_buffer rule d b room fresh five is =
    let r : Result = run_batch rule d b room in
    let why : (r.used < length b) × (room - length r.bytes < 5) = subst (λ (s : Stop). Means s b room r.used r.bytes) is (stop_means rule d b room) in
    let left : length r.bytes + fresh - length r.bytes ≡ fresh = omega arith in
    goes_on (length r.bytes + fresh) (omega (arith, why.1)) (runs rule d b room) is
    ∙ ap (λ (k : ℕ). behind r.used r.bytes (run_batch rule r.desk (drop r.used b) k)) left
