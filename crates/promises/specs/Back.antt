-- What is kept, and what a take-back leaves. 01: "Kept changes: every granted request but Read and Take back."; "newest kept change undone in the records;
-- the counter stays".
use Rattle.std.specs.Prelude.{ℕ, ◌-◌, ◌≡◌, true, List, [], ◌∷◌, length, take}
use Rattle.request.specs.declared.Request.{Request}
use Rattle.request.specs.declared.Request.TheVariants.{Read, TakeBack}
use Rattle.records.specs.House.{House}
use Rattle.records.specs.declared.Rule.{Rule}
use Rattle.effects.specs.declared.Change.{Change}
use Rattle.kept.specs.Log.{popped}
use Rattle.history.specs.declared.Answer.{Answer}
use Rattle.history.specs.declared.Answer.TheVariants.{Granted, Numbered, Refused}
use Rattle.history.specs.Machine.{Rulebook, Desk, Outcome, changed, step, run, answers}
use Rattle.history.specs.Desk.{desk_rules}
use Rattle.promises.specs.Grants.{grants}

-- ---- "every granted request but Read and Take back"
pub data IsRead : Request → Type 0 where
  is_read : (x s v : ℕ) → IsRead (Read x s v)

pub data IsTakeBack : Request → Type 0 where
  is_take_back : (u : ℕ) → IsTakeBack (TakeBack u)

pub record IsChange (q : Request) : Type 0 where
  pub no_read : IsRead q → ⊥
  pub no_take_back : IsTakeBack q → ⊥

-- the draft number that a request received; a plain grant has none
abbrev pub number_in : Answer → ℕ
number_in Granted = 0
number_in (Numbered n) = n
number_in (Refused n) = 0

-- ---- what a granted take-back leaves at the desk d
pub record TakenBack {S C Q : Type 0} (R : Rulebook S C Q) (d : Desk S C) (o : Outcome S C) : Type 0 where
  pub answer : o.answer ≡ Granted
  pub log : o.desk.log ≡ take (length d.log - 1) d.log
  pub base : o.desk.base ≡ d.base
  pub last : o.desk.last ≡ d.last
  pub records : o.desk.current ≡ changed R d.base (take (length d.log - 1) d.log)

-- ---- a granted request, then requests that change nothing, then a granted take-back
-- a request that changes nothing: it was refused, or is a Read
pub data Idle (q : Request) (a : Answer) : Type 0 where
  refused : (n : ℕ) → a ≡ Refused n → Idle q a
  reads : IsRead q → Idle q a

-- P holds of each request and its answer
abbrev pub EachAnswered : (Request → Answer → Type 0) → List Request → List Answer → Type 0
EachAnswered P [] more = Unit {0}
EachAnswered P (q ∷ qs) [] = Unit {0}
EachAnswered P (q ∷ qs) (a ∷ more) = P q a × EachAnswered P qs more

module _ (rule : Rule) (d : Desk House Change) (q : Request) where
  -- the desk after q
  abbrev pub next_desk : Desk House Change
  next_desk = (step (desk_rules rule) d q).desk

  -- back as it stood: room, people, scripts and open sessions are those before q; the last number is the one after it
  pub record AsItStood (o : Outcome House Change) : Type 0 where
    pub records : o.desk.current ≡ d.current
    pub number : o.desk.last ≡ next_desk.last

  module _ (rs : List Request) where
    abbrev pub at_last : Desk House Change
    at_last = run (desk_rules rule) next_desk rs

    pub record ThenBack (u : ℕ) : Type 0 where
      pub granted : grants (step (desk_rules rule) d q).answer ≡ true
      pub idle : EachAnswered Idle rs (answers (desk_rules rule) next_desk rs)
      pub back : grants (step (desk_rules rule) at_last (TakeBack u)).answer ≡ true

-- two take-backs: the second takes the change before, and not the first take-back
pub record BothBack (rule : Rule) (d : Desk House Change) (o : Outcome House Change) : Type 0 where
  pub log : o.desk.log ≡ popped (popped d.log)
  pub last : o.desk.last ≡ d.last
  pub records : o.desk.current ≡ changed (desk_rules rule) d.base (popped (popped d.log))
