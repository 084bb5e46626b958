-- What a batch does: the paragraph "A batch takes request bytes and an answer buffer" of 01, "What the desk answers".
use Rattle.std.specs.Prelude.{ℕ, suc, ◌+◌, ◌-◌, ◌≡◌, cond, List, [], ◌∷◌, ◌++◌, ltb, length, take, drop}
use Rattle.request.specs.Framing.{End, no_bytes, unknown_kind, cut_body, Series, series_of, written_out}
use Rattle.request.specs.declared.Request.{Request}
use Rattle.records.specs.House.{House}
use Rattle.records.specs.declared.Rule.{Rule}
use Rattle.effects.specs.declared.Change.{Change}
use Rattle.history.specs.Machine.{Desk, run, answers}
use Rattle.history.specs.Desk.{desk_rules, answer_bytes}
use Rattle.history.specs.declared.Answer.{Answer}
use Rattle.batch.specs.declared.Stop.{Stop}
use Rattle.batch.specs.declared.Ran.{Ran}

-- "no bytes left (stop 0)", "stop 13", "stop 1 or 2"
abbrev pub stop_number : Stop → ℕ
stop_number Stop.End = 0
stop_number Stop.NoRoom = 13
stop_number Stop.Unknown = 1
stop_number Stop.Cut = 2

-- "It returns the stop, request bytes used and answer bytes written"
abbrev pub returned : Stop → ℕ → ℕ → Ran
returned stop used written = record { stop = stop; used = used; written = written }

-- the records before and after the kept changes, those changes, and the last draft number
abbrev pub State : Type 0
State = Desk House Change

-- the bytes of some answers, one behind the other
abbrev pub bytes_of : List Answer → List ℕ
bytes_of [] = []
bytes_of (a ∷ more) = answer_bytes a ++ bytes_of more

-- how many of these answers find room: none any more where "under 5 answer bytes" are left
abbrev pub room_for : ℕ → List Answer → ℕ
room_for room [] = 0
room_for room (a ∷ more) = cond (ltb room 5) 0 (suc (room_for (room - length (answer_bytes a)) more))

-- the requests that are taken, with so much answer room, and those that are left
abbrev pub taken_of : Rule → State → List Request → ℕ → List Request
taken_of rule d qs room = take (room_for room (answers (desk_rules rule) d qs)) qs

abbrev pub left_of : Rule → State → List Request → ℕ → List Request
left_of rule d qs room = drop (room_for room (answers (desk_rules rule) d qs)) qs

-- "in this order: no bytes left (stop 0); under 5 answer bytes left, or the place beyond the buffer (stop 13); unknown kind or cut body":
-- the stop, where these requests are left, and behind them this end, and so much answer room
abbrev pub stop_at : List Request → End → ℕ → Stop
stop_at (q ∷ qs) end room = Stop.NoRoom
stop_at [] no_bytes room = Stop.End
stop_at [] (unknown_kind kind) room = cond (ltb room 5) Stop.NoRoom Stop.Unknown
stop_at [] (cut_body kind) room = cond (ltb room 5) Stop.NoRoom Stop.Cut

-- "C1 or C2 is written"; 13 is "never written"
abbrev pub closing : Stop → List ℕ
closing Stop.End = []
closing Stop.NoRoom = []
closing Stop.Unknown = answer_bytes (Answer.Refused (stop_number Stop.Unknown))
closing Stop.Cut = answer_bytes (Answer.Refused (stop_number Stop.Cut))

-- what a batch leaves: the desk, "the stop, request bytes used" and the answer bytes written
pub record Result : Type 0 where
  pub desk : State
  pub stop : Stop
  pub used : ℕ
  pub bytes : List ℕ

-- a batch is the run under the rule of the requests that it takes: their bytes count as used, their answers are written, and the stop's own byte
abbrev pub run_over : Rule → State → Series → ℕ → Result
run_over rule d s room =
    let qs : List Request = taken_of rule d s.requests room in
    let bytes : List ℕ = bytes_of (answers (desk_rules rule) d qs) in
    let stop : Stop = stop_at (left_of rule d s.requests room) s.end (room - length bytes) in
    record { desk = run (desk_rules rule) d qs; stop = stop; used = length (written_out qs); bytes = bytes ++ closing stop }

-- of the requests that the bytes are cut into
abbrev pub taken : Rule → State → List ℕ → ℕ → List Request
taken rule d requests room = taken_of rule d (series_of requests).requests room

unfoldable pub run_batch : Rule → State → List ℕ → ℕ → Result
run_batch rule d requests room = run_over rule d (series_of requests) room

-- what was returned is the batch's, its bytes stand from the place on, and "all other answer bytes stay";
-- d and answers are the desk and the buffer before, d' and answers' after; room is what the buffer has from the place on
pub record Batched (rule : Rule) (d : State) (requests answers : List ℕ) (place : ℕ) (d' : State) (r : Ran) (answers' : List ℕ) : Type 0 where
  pub desk : d' ≡ (run_batch rule d requests (length answers - place)).desk
  pub stop : r.stop ≡ (run_batch rule d requests (length answers - place)).stop
  pub used : r.used ≡ (run_batch rule d requests (length answers - place)).used
  pub written : r.written ≡ length (run_batch rule d requests (length answers - place)).bytes
  pub buffer : answers' ≡ take place answers ++ (run_batch rule d requests (length answers - place)).bytes ++ drop (place + r.written) answers
