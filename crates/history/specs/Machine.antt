-- The desk as a machine, over any records S, changes C and requests Q: which changes it keeps, what a take-back does, which numbers it issues.
use Rattle.std.specs.Prelude.{cond, ℕ, ◌-◌, eqb, ltb, length, take, drop, Option, Some, None}
use mathlib.Core.List.{List, [], ◌∷◌, ◌++◌, foldl}
use Rattle.counter.specs.Numbers.{next_after}
use Rattle.history.specs.declared.Answer.{Answer}
use Rattle.history.specs.declared.Answer.TheVariants.{Granted, Numbered, Refused}

-- what the rules say of a request in the present records
pub data Verdict (C : Type 0) : Type 0 where
  refuse : ℕ → Verdict C  -- refused, with this number
  pass : Verdict C  -- granted, and nothing changes
  make : C → Verdict C  -- granted: this change is made and kept
  issue : (ℕ → C) → Verdict C  -- granted, if a number is left: the change that bears it is made and kept
  undo : Verdict C  -- a take-back that the rules allow

-- the rules: the effect of a change, and how a request is judged
pub record Rulebook (S C Q : Type 0) : Type 0 where
  pub apply : S → C → S
  pub judge : S → Q → Verdict C

-- the records before the kept changes, the kept changes (oldest first), the records after them, and the last number issued
pub record Desk (S C : Type 0) : Type 0 where
  pub base : S
  pub log : List C
  pub current : S
  pub last : ℕ

pub record Outcome (S C : Type 0) : Type 0 where
  pub desk : Desk S C
  pub answer : Answer

abbrev pub outcome : {S C : Type 0} → Desk S C → Answer → Outcome S C
outcome d a = record { desk = d; answer = a }

-- a desk opens with records, and with "the last draft number already used"; 02: "An opened image has a kept count of 0"
abbrev pub opened : {S C : Type 0} → S → ℕ → Desk S C
opened s n = record { base = s; log = []; current = s; last = n }

module _ {S C Q : Type 0} (R : Rulebook S C Q) where
  -- the records after some changes, in order
  abbrev pub changed : S → List C → S
  changed s l = foldl R.apply s l

  -- a change is made and kept; of 32 kept ones the oldest goes into the base for good
  unfoldable pub keep_change : Desk S C → C → ℕ → Desk S C
  keep_change d c n =
      cond (ltb (length d.log) 32)
      (record { base = d.base; log = d.log ++ (c ∷ []); current = R.apply d.current c; last = n })
      (record { base = changed d.base (take 1 d.log); log = drop 1 d.log ++ (c ∷ []); current = R.apply d.current c; last = n })

  -- "newest kept change undone in the records; the counter stays"; 12: "the kept count is 0"
  unfoldable pub take_back : Desk S C → Outcome S C
  take_back d =
      cond (eqb (length d.log) 0) (outcome d (Refused 12))
      (outcome (record { base = d.base; log = take (length d.log - 1) d.log; current = changed d.base (take (length d.log - 1) d.log); last = d.last }) Granted)

  -- 11: "the last number issued is 4,294,967,295"
  abbrev pub issued : Desk S C → (ℕ → C) → Option ℕ → Outcome S C
  issued d f (Some n) = outcome (keep_change d (f n) n) (Numbered n)
  issued d f None = outcome d (Refused 11)

  -- "A refusal leaves records, counter and kept changes as they were."
  abbrev pub ruled : Desk S C → Verdict C → Outcome S C
  ruled d (refuse n) = outcome d (Refused n)
  ruled d pass = outcome d Granted
  ruled d (make c) = outcome (keep_change d c d.last) Granted
  ruled d (issue f) = issued d f (next_after d.last)
  ruled d undo = take_back d

  unfoldable pub step : Desk S C → Q → Outcome S C
  step d q = ruled d (R.judge d.current q)

  -- a run of requests: the desk after it, and the answers
  abbrev pub run : Desk S C → List Q → Desk S C
  run d [] = d
  run d (q ∷ qs) = run (step d q).desk qs

  abbrev pub answers : Desk S C → List Q → List Answer
  answers d [] = []
  answers d (q ∷ qs) = (step d q).answer ∷ answers (step d q).desk qs
