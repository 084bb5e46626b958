-- This desk as the machine: its rules, and what its parts show. Also the bytes of an answer.
use Rattle.std.specs.Prelude.{ℕ, ◌+◌, ◌%◌, cond, eqb, ltb, length, take, Result, Ok, Err}
use mathlib.Core.List.{List, [], ◌∷◌, foldl}
use Rattle.request.specs.Bytes.{quad_bytes}
use Rattle.request.specs.declared.Request.{Request}
use Rattle.records.specs.House.{House, empty_house, view}
use Rattle.records.specs.declared.Rule.{Rule}
use Rattle.effects.specs.Effects.{change_of, applied}
use Rattle.effects.specs.declared.Change.{Change}
use Rattle.kept.specs.Log.{past}
use Rattle.judge.specs.Kinds.{ruling_of}
use Rattle.judge.specs.declared.Grant.{Grant}
use Rattle.judge.specs.declared.Grant.TheVariants.{Pass, Keep, KeepNumbered, TakeBack}
use Rattle.reasons.specs.declared.Reason.{Reason}
use Rattle.history.specs.Machine.{Verdict, refuse, pass, make, issue, undo, Rulebook, Desk, opened}
use Rattle.history.specs.declared.Answer.{Answer}
use Rattle.history.specs.declared.NoRule.{NoRule}

abbrev pub verdict_of : Request → Result Grant Reason → Verdict Change
verdict_of q (Err r) = refuse r.number
verdict_of q (Ok Pass) = pass
verdict_of q (Ok Keep) = make (change_of q 0)
verdict_of q (Ok KeepNumbered) = issue (change_of q)
verdict_of q (Ok TakeBack) = undo

-- 02, L3: "A desk is opened under rule 1 or rule 2 for its whole life."
abbrev pub desk_rules : Rule → Rulebook House Change Request
desk_rules rule = record { apply = applied; judge = λ h q. verdict_of q (ruling_of rule h q) }

-- what the parts of a desk and its last number show
abbrev pub shown : List ℕ → List ℕ → List ℕ → ℕ → Desk House Change
shown base log current last = record { base = view base; log = past log; current = view current; last = last }

-- ---- opening a desk: the refusal and its number
abbrev pub no_rule : NoRule
no_rule = record {}

abbrev pub no_rule_number : ℕ
no_rule_number = 3

-- the answer, the desk that is then open, and its rule
pub record Opens : Type 0 where
  pub answer : Result (Unit {0}) NoRule
  pub desk : Desk House Change
  pub rule : Rule

abbrev pub opens : Result (Unit {0}) NoRule → Desk House Change → Rule → Opens
opens answer d rule = record { answer = answer; desk = d; rule = rule }

-- without records; 02, L3: "3 at opening for another rule number; it .. gives the empty desk with last number 0 and rule 1"
abbrev pub opened_under : ℕ → ℕ → Opens
opened_under last rule =
    cond (eqb rule 1) (opens (Ok tt) (opened empty_house last) Rule.One)
    (cond (eqb rule 2) (opens (Ok tt) (opened empty_house last) Rule.Two)
    (opens (Err no_rule) (opened empty_house 0) Rule.One))

-- the base, where one more change is kept: of 32 the oldest goes into it
abbrev pub settled : House → List Change → House
settled h l = cond (ltb (length l) 32) h (foldl applied h (take 1 l))

-- "80 granted; 81 and four bytes, granted with a draft number (09, 14, 15); C0 plus n, refused with n"; the sum is a byte
abbrev pub answer_byte : Answer → ℕ
answer_byte Answer.Granted = 0x80
answer_byte (Answer.Numbered n) = 0x81
answer_byte (Answer.Refused n) = (0xC0 + n) % 256

-- behind 81, the number's four bytes
abbrev pub number_bytes : Answer → List ℕ
number_bytes Answer.Granted = []
number_bytes (Answer.Numbered n) = quad_bytes n []
number_bytes (Answer.Refused n) = []

abbrev pub answer_bytes : Answer → List ℕ
answer_bytes a = answer_byte a ∷ number_bytes a
