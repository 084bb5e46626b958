-- An input that comes in pieces: what the program does with each, and what it writes for all of them.
use Rattle.std.specs.Prelude.{ℕ, ◌+◌, ◌<◌, ◌≡◌, Bool, true, false, cond, not, ◌&&◌, List, [], ◌∷◌, ◌++◌, eqb, length, take, drop}
use Rattle.request.specs.Framing.{End, no_bytes, unknown_kind, cut_body, Series, series_of, written_out}
use Rattle.records.specs.House.{House}
use Rattle.records.specs.declared.Rule.{Rule}
use Rattle.effects.specs.declared.Change.{Change}
use Rattle.history.specs.Machine.{Desk, run}
use Rattle.history.specs.Desk.{desk_rules}
use Rattle.desk.specs.Answers.{given_to}
use Rattle.desk.specs.Printed.{lines_from}
use Rattle.desk.specs.declared.pieces.Turn.{Turn}

-- what was done with some bytes: the desk and the ordinal of the next line, how many bytes were used, the lines, and whether more is to be read
pub record Done : Type 0 where
  pub desk : Desk House Change
  pub ordinal : ℕ
  pub used : ℕ
  pub text : List ℕ
  pub onward : Bool

-- nothing is read after the end of the input, nor after an unknown kind
abbrev pub reads_on : Bool → End → Bool
reads_on ended no_bytes = not ended
reads_on ended (unknown_kind kind) = false
reads_on ended (cut_body kind) = not ended

-- the requests of a series and its end; `why` is whether the lines have their reasons
abbrev pub done_with : Rule → Bool → Bool → Desk House Change → ℕ → Series → Done
done_with rule why ended d k s =
    record {
      desk = run (desk_rules rule) d s.requests;
      ordinal = k + length (given_to rule ended d s);
      used = length (written_out s.requests);
      text = lines_from why k (given_to rule ended d s);
      onward = reads_on ended s.end;
    }

-- the bytes b on the desk d, with k the ordinal of the next line; `ended` is whether the input ends with them
abbrev pub all_of : Rule → Bool → Bool → Desk House Change → ℕ → List ℕ → Done
all_of rule why ended d k b = done_with rule why ended d k (series_of b)

-- where the program stands between two pieces: the desk, the ordinal of the next line, and the bytes that wait for the rest of their request
pub record Stand : Type 0 where
  pub desk : Desk House Change
  pub ordinal : ℕ
  pub waiting : List ℕ

abbrev pub stand : Desk House Change → ℕ → List ℕ → Stand
stand d k waiting = record { desk = d; ordinal = k; waiting = waiting }

-- before the first piece, with d the desk that the program opened
abbrev pub first : Desk House Change → Stand
first d = stand d 1 []

-- what is written for a piece, where the program stands then, and whether it goes on
pub record Turned : Type 0 where
  pub text : List ℕ
  pub next : Stand
  pub onward : Bool

abbrev pub turned_by : List ℕ → Done → Turned
turned_by b r = record { text = r.text; next = stand r.desk r.ordinal (drop r.used b); onward = r.onward }

-- a piece of no bytes is the end of the input
abbrev pub turn : Rule → Bool → Stand → List ℕ → Turned
turn rule why s piece = turned_by (s.waiting ++ piece) (all_of rule why (eqb (length piece) 0) s.desk s.ordinal (s.waiting ++ piece))

-- what the program writes where it reads these pieces and then the end, as long as it goes on
abbrev pub writes : Rule → Bool → Stand → List (List ℕ) → List ℕ
writes rule why s [] = (turn rule why s []).text
writes rule why s (piece ∷ more) = (turn rule why s piece).text ++ cond (turn rule why s piece).onward (writes rule why (turn rule why s piece).next more) []

-- where it stands after these pieces, and whether it went on after each
abbrev pub stand_after : Rule → Bool → Stand → List (List ℕ) → Stand
stand_after rule why s [] = s
stand_after rule why s (piece ∷ more) = stand_after rule why (turn rule why s piece).next more

abbrev pub went_on : Rule → Bool → Stand → List (List ℕ) → Bool
went_on rule why s [] = true
went_on rule why s (piece ∷ more) = (turn rule why s piece).onward && went_on rule why (turn rule why s piece).next more

-- the desk that some pieces lead to, from the desk d₀ that the program opened
pub record LedTo (rule : Rule) (why : Bool) (d₀ d : Desk House Change) : Type 0 where
  pub pieces : List (List ℕ)
  pub is : (stand_after rule why (first d₀) pieces).desk ≡ d

-- pieces as reads give them before the input ends, each of some bytes, and the input that they are
abbrev pub Pieces : List (List ℕ) → Type 0
Pieces [] = Unit {0}
Pieces (piece ∷ more) = (0 < length piece) × Pieces more

abbrev pub joined : List (List ℕ) → List ℕ
joined [] = []
joined (piece ∷ more) = piece ++ joined more

-- a turn as the program returns it: the text stands at the front of `out`, and what waits at the front of `buf`
pub record TurnIs (t : Turned) (d : Desk House Change) (r : Turn) (buf out : List ℕ) : Type 0 where
  pub desk : d ≡ t.next.desk
  pub ordinal : r.ordinal ≡ t.next.ordinal
  pub have : r.have ≡ length t.next.waiting
  pub waiting : take r.have buf ≡ t.next.waiting
  pub text_length : r.text ≡ length t.text
  pub text : take r.text out ≡ t.text
  pub onward : r.onward ≡ t.onward
