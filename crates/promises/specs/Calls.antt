-- Desks that bytes reach: an opening with any records and last number, under a rule, then any calls of the batch, each with any bytes, any buffer and any place;
-- and what is promised of them.
use Rattle.std.specs.Prelude.{ℕ, ◌-◌, true, ◌≡◌, length}
use mathlib.Core.List.{List, [], ◌∷◌, ◌++◌, foldl}
use Rattle.request.specs.Bytes.{Bytes}
use Rattle.request.specs.declared.Request.{Request}
use Rattle.request.specs.declared.Request.TheVariants.{Read, TakeBack}
use Rattle.records.specs.House.{House}
use Rattle.records.specs.declared.Rule.{Rule}
use Rattle.effects.specs.Effects.{applied}
use Rattle.conditions.specs.Conditions.{is_room}
use Rattle.reasons.specs.Asking.{AllHold}
use Rattle.judge.specs.Kinds.{lines_of}
use Rattle.history.specs.Machine.{outcome, step, run}
use Rattle.history.specs.Desk.{desk_rules}
use Rattle.history.specs.declared.Answer.{Answer}
use Rattle.batch.specs.Batch.{State, taken, Batched}
use Rattle.batch.specs.declared.Ran.{Ran}
use Rattle.rules.specs.Lists.{Each}
use Rattle.promises.specs.Book.{blank, book_after, numbers, Rising, events, survive}
use Rattle.promises.specs.Events.{event_of, answers_from, kept_now}
use Rattle.promises.specs.Back.{IsChange, TakenBack, ThenBack, AsItStood, at_last}
use Rattle.promises.specs.Seen.{request_no, answer_at, moment, MadeBefore}
use Rattle.promises.specs.Sight.{SessionWithin, ReadWithin}
use Rattle.promises.specs.Leads.{StaffLead}
use Rattle.promises.specs.Grants.{grants}
use Rattle.rules.specs.Rules.{rules}

-- a call of the batch: what it was lent, what it returned and how it left the answer buffer
pub record Call : Type 0 where
  pub requests : List ℕ
  pub buffer : List ℕ
  pub place : ℕ
  pub returned : Ran
  pub after : List ℕ

-- the answer bytes that the buffer has from the place on
abbrev pub room_of : Call → ℕ
room_of c = length c.buffer - c.place

-- these calls, each of which kept the batch's contract, lead from one desk under the rule to another
pub data Calls (rule : Rule) : State → List Call → State → Type 0 where
  none : {d : State} → Calls rule d [] d
  then : {d d₁ d₂ : State} {cs : List Call} (c : Call) → Bytes c.requests
      → Batched rule d c.requests c.buffer c.place d₁ c.returned c.after → Calls rule d₁ cs d₂ → Calls rule d (c ∷ cs) d₂

-- the requests that they took, in order
abbrev pub taken_in : Rule → State → List Call → List Request
taken_in rule d [] = []
taken_in rule d (c ∷ cs) = let qs : List Request = taken rule d c.requests (room_of c) in qs ++ taken_in rule (run (desk_rules rule) d qs) cs

-- ---- what is promised of the desk d that requests lead to from an opening under the rule with the records h and the last number `last`: demand 3, what the user fears, and
-- the record rules
pub record Promised (rule : Rule) (h : House) (last : ℕ) (qs : List Request) (d : State) : Type 0 where
  -- "the records equal those got by starting empty and applying, in order, every granted change that wasn't taken back, each with the draft number it
  -- received", and "demand 3 then starts from the image": starting from h; by the book of survivors, and by requests and answers alone
  pub by_the_book : d.current ≡ foldl applied h (book_after (desk_rules rule) h (blank last) qs).survivors
  pub by_the_answers : d.current ≡ foldl applied h (survive [] (events event_of qs (answers_from rule h last qs)))
  -- "Each draft number is larger than all before it, taken-back ones included"
  pub rising : Rising last (numbers (answers_from rule h last qs))
  -- "refused for want of one exactly when none of the last 32 is left by the counting rule", else "the newest kept change" goes
  pub no_change_left : (u : ℕ) → AllHold (lines_of rule d.current (TakeBack u)) → kept_now rule h last qs ≡ 0 → step (desk_rules rule) d (TakeBack u) ≡ outcome d (Answer.Refused 12)
  pub newest_goes : (u : ℕ) → AllHold (lines_of rule d.current (TakeBack u)) → (kept_now rule h last qs ≡ 0 → ⊥) → TakenBack (desk_rules rule) d (step (desk_rules rule) d (TakeBack u))
  -- "leads close the wrong room .. and need it back as it stood"
  pub back_as_it_stood : (q : Request) (rs : List Request) (u : ℕ) → IsChange q → ThenBack rule d q rs u → AsItStood rule d q (step (desk_rules rule) (at_last rule d q rs) (TakeBack u))
  -- "a number once seen must never name another text": it is given once, and at each moment what bears it was made by the request that got it, or before
  -- the opening, and then no request gets it
  pub given_once : (i j v : ℕ) → answer_at (answers_from rule h last qs) i ≡ Answer.Numbered v → answer_at (answers_from rule h last qs) j ≡ Answer.Numbered v → i ≡ j
  pub live_made : (k : ℕ) → Each (MadeBefore rule h last qs k) (moment rule h last qs k).drafts
  -- 02, L4: "every session is within its owner's label at all times", and a granted Read reads a script within the label that the session's owner has then
  pub sessions_within : (k x : ℕ) → SessionWithin (moment rule h last qs k) x
  pub reads_within : (k x s v : ℕ) → request_no qs k ≡ Read x s v → grants (answer_at (answers_from rule h last qs) k) ≡ true → ReadWithin (moment rule h last qs k) x s
  -- 02, L6: "Every room has at least one staff lead at all times"
  pub always_led : (k room : ℕ) → is_room (moment rule h last qs k) room ≡ true → StaffLead (moment rule h last qs k) room
  -- "Every desk reached from an opening meets these record rules"
  pub meets : rules d.current d.last ≡ true
