-- When a request is granted, with which answer, and what a refusal is. 01: "A request is granted exactly when the published rules .. allow it in the
-- present state"; "A refusal is one listed number, changes nothing in the records".
use Rattle.std.specs.Prelude.{ℕ, ◌+◌, ◌≡◌, Bool, true, false, [], ◌∷◌, eqb, length}
use Rattle.request.specs.declared.Request.{Request}
use Rattle.records.specs.Lists.{any}
use Rattle.records.specs.House.{House}
use Rattle.records.specs.declared.Rule.{Rule}
use Rattle.effects.specs.declared.Change.{Change}
use Rattle.reasons.specs.Asking.{AllHold}
use Rattle.reasons.specs.Order.{is_refusal}
use Rattle.judge.specs.Kinds.{lines_of, grant_of, refusals}
use Rattle.judge.specs.declared.Grant.{Grant}
use Rattle.judge.specs.declared.Grant.TheVariants.{Pass, Keep, KeepNumbered, TakeBack}
use Rattle.counter.specs.Numbers.{top}
use Rattle.history.specs.Machine.{Desk, Outcome}
use Rattle.history.specs.Desk.{answer_bytes}
use Rattle.history.specs.declared.Answer.{Answer}
use Rattle.history.specs.declared.Answer.TheVariants.{Granted, Numbered, Refused}

-- "80 granted; 81 .. granted with a draft number (09, 14, 15)"
abbrev pub grants : Answer → Bool
grants Granted = true
grants (Numbered n) = true
grants (Refused n) = false

-- the rules allow it: every condition of the kind holds in the records, a number is left where one is given, and a kept change for Take back
pub record Allowed (rule : Rule) (d : Desk House Change) (q : Request) : Type 0 where
  pub conditions : AllHold (lines_of rule d.current q)
  pub number_left : grant_of q ≡ KeepNumbered → d.last ≡ top → ⊥
  pub change_left : grant_of q ≡ TakeBack → length d.log ≡ 0 → ⊥

-- granted exactly when the rules allow it
pub record GrantedExactly (rule : Rule) (d : Desk House Change) (q : Request) (a : Answer) : Type 0 where
  pub granted_allowed : grants a ≡ true → Allowed rule d q
  pub allowed_granted : Allowed rule d q → grants a ≡ true

-- the grant of a kind: "one more" than the last number where the kind gets one
abbrev pub grant_after : ℕ → Grant → Answer
grant_after last KeepNumbered = Numbered (last + 1)
grant_after last Keep = Granted
grant_after last Pass = Granted
grant_after last TakeBack = Granted

-- the numbers that a kind can be refused with: those of its row of the refusal table; 11 "the last number issued is 4,294,967,295" where it gets a number;
-- 12 "the kept count is 0" for Take back
pub data Listed (q : Request) (n : ℕ) : Type 0 where
  in_row : any (eqb n) (refusals q) ≡ true → Listed q n
  no_number : n ≡ 11 → grant_of q ≡ KeepNumbered → Listed q n
  no_change : n ≡ 12 → grant_of q ≡ TakeBack → Listed q n

-- what every refusal of q with n is, one of the order of refusals, and leaves
pub record Refusal (d : Desk House Change) (q : Request) (o : Outcome House Change) (n : ℕ) : Type 0 where
  pub listed : Listed q n
  pub in_order : is_refusal n ≡ true
  pub byte : answer_bytes (Refused n) ≡ (0xC0 + n) ∷ []
  pub unchanged : o.desk ≡ d

-- an answer to a request: 1 and 2 are for bytes that are none, and 13 is never written
pub record ToRequest (a : Answer) : Type 0 where
  pub not_1 : a ≡ Refused 1 → ⊥
  pub not_2 : a ≡ Refused 2 → ⊥
  pub not_13 : a ≡ Refused 13 → ⊥
