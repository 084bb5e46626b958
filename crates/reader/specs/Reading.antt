-- What the reader takes in. 02, L2: "The reader walks the frames first". Order, doubles, bounds and rules are not asked here: whoever opens an image tests what was
-- taken in, writes it again and compares.
use Rattle.std.specs.Prelude.{ℕ, zero, suc, cond, List, [], ◌∷◌, eqb, ltb, length, Option, Some, None, Result, Ok, Err}
use Rattle.request.specs.Bytes.{◌#◌}
use Rattle.request.specs.declared.FrameError.{FrameError}
use Rattle.request.specs.declared.FrameError.TheVariants.{Unknown, Cut}
use Rattle.records.specs.Places.{with}
use Rattle.records.specs.House.{House, empty_house, put_user, put_rooms, put_script, put_session, add_draft}
use Rattle.records.specs.declared.User.{User}
use Rattle.records.specs.declared.Script.{Script}
use Rattle.records.specs.declared.Session.{Session}
use Rattle.records.specs.declared.Draft.{Draft}
use Rattle.records.specs.declared.Rule.{Rule}
use Rattle.image.specs.Forms.{Width, sizes, fields_at, Form}
use Rattle.image.specs.Image.{counter_form, rule_form, user_form, room_form, script_form, session_form, draft_form}

-- what an image holds: the records, the last number used, and the rule
pub record Saved : Type 0 where
  pub house : House
  pub last : ℕ
  pub rule : Rule

abbrev pub saved : House → ℕ → Rule → Saved
saved h n rule = record { house = h; last = n; rule = rule }

-- 02, L3: "the empty desk with last number 0 and rule 1"
abbrev pub blank : Saved
blank = saved empty_house 0 Rule.One

-- ---- a record of each kind, put to what was taken in before, whatever that is
abbrev pub take_counter : ℕ → ℕ → Saved → Saved
take_counter _ n s = saved s.house n s.rule

abbrev pub take_rule : ℕ → Rule → Saved → Saved
take_rule _ rule s = saved s.house s.last rule

abbrev pub take_user : ℕ → User → Saved → Saved
take_user i u s = saved (put_user s.house i u) s.last s.rule

abbrev pub take_room : ℕ → ℕ → Saved → Saved
take_room _ room s = saved (put_rooms s.house (with s.house.rooms room)) s.last s.rule

abbrev pub take_script : ℕ → Script → Saved → Saved
take_script i x s = saved (put_script s.house i x) s.last s.rule

abbrev pub take_session : ℕ → Session → Saved → Saved
take_session i x s = saved (put_session s.house i x) s.last s.rule

abbrev pub take_draft : ℕ → Draft → Saved → Saved
take_draft _ d s = saved (add_draft s.house d) s.last s.rule

-- a kind: its fields' widths, and how the record with those fields is taken in; its id is the first field
pub record Row : Type 0 where
  pub kind : ℕ
  pub widths : List Width
  pub put : (ℕ → ℕ) → Saved → Saved

abbrev pub row : {A : Type 0} → Form A → (ℕ → A → Saved → Saved) → Row
row form put = record { kind = form.kind; widths = form.widths; put = λ f s. put (f 0) (form.of f) s }

abbrev pub rows : List Row
rows =
    row counter_form take_counter
    ∷ row rule_form take_rule
    ∷ row user_form take_user
    ∷ row room_form take_room
    ∷ row script_form take_script
    ∷ row session_form take_session
    ∷ row draft_form take_draft
    ∷ []

-- the row of a kind, if there is one
pub data Sought : Type 0 where
  at : Row → Sought
  none : Sought

abbrev pub find : List Row → ℕ → Sought
find [] kind = none
find (r ∷ rs) kind = cond (eqb kind r.kind) (at r) (find rs kind)

abbrev pub length_at : Sought → Option ℕ
length_at (at r) = Some (sizes r.widths)
length_at none = None

-- a body taken in
abbrev pub taken_in : Sought → List ℕ → Saved → Saved
taken_in (at r) body s = r.put (λ k. fields_at r.widths body 0 # k) s
taken_in none body s = s

-- ---- the walk: where it stops, at the end of whole frames or before one that is none, and what was taken in by then
abbrev pub Walk : Type 0
Walk = Result (Unit {0}) FrameError

pub record Taken : Type 0 where
  pub stop : Walk
  pub got : Saved

abbrev pub stopped : Walk → Saved → Taken
stopped w s = record { stop = w; got = s }

-- the frame of a row in front of `rest`; behind it the walk goes on
abbrev pub frame : Sought → List ℕ → Saved → (ℕ → Saved → Taken) → Taken
frame none rest s on = stopped (Err Unknown) s
frame (at r) rest s on = cond (ltb (length rest) (sizes r.widths)) (stopped (Err Cut) s) (on (sizes r.widths) (taken_in (at r) rest s))

-- the frames behind the next `skip` bytes
unfoldable pub walked : ℕ → Saved → List ℕ → Taken
walked skip s [] = stopped (Ok tt) s
walked (suc skip) s (b ∷ rest) = walked skip s rest
walked zero s (kind ∷ rest) = frame (find rows kind) rest s (λ n t. walked n t rest)

-- ---- the same walk for its stop alone: kinds and lengths decide it
abbrev pub by_length : Option ℕ → ℕ → (ℕ → Walk) → Walk
by_length None left on = Err Unknown
by_length (Some n) left on = cond (ltb left n) (Err Cut) (on n)

unfoldable pub stop_of : ℕ → List ℕ → Walk
stop_of skip [] = Ok tt
stop_of (suc skip) (b ∷ rest) = stop_of skip rest
stop_of zero (kind ∷ rest) = by_length (length_at (find rows kind)) (length rest) (λ n. stop_of n rest)
