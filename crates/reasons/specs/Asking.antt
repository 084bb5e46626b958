-- Lines asked in their order. 01: "a fact that can't be asked because an earlier one failed doesn't count."
use Rattle.std.specs.Prelude.{ℕ, ◌≡◌, Bool, true, false, not, cond, ◌&&◌, ◌||◌, List, [], ◌∷◌, eqb, Result, Ok, Err}
use Rattle.reasons.specs.Reasons.{Decided, reason, zeros}
use Rattle.reasons.specs.declared.Reason.{Reason}

-- `n unless fact because ..`: refused with n unless the fact holds, and then because of what decided
infixl 70 ◌unless◌ ◌because◌
pub data Test : Type 0 where
  ◌unless◌ : ℕ → Bool → Test

pub data Line : Type 0 where
  ◌because◌ : Test → Decided → Line

-- all holds, or the first line whose fact fails is told
unfoldable pub asked : List Line → Result (Unit {0}) Reason
asked [] = Ok tt
asked (n unless true because d ∷ lines) = asked lines
asked (n unless false because d ∷ lines) = Err (reason n d)

-- the reason: "A grant is all zeros."
abbrev pub told : Result (Unit {0}) Reason → Reason
told (Ok x) = zeros
told (Err r) = r

-- ---- what that comes to
-- every fact holds
pub data AllHold : List Line → Type 0 where
  none : AllHold []
  more : {n : ℕ} {b : Bool} {d : Decided} {ls : List Line} → b ≡ true → AllHold ls → AllHold (n unless b because d ∷ ls)

-- r is the reason of the first line whose fact fails: that fact is false, and each before it is true
pub data FirstFailing (r : Reason) : List Line → Type 0 where
  here : {n : ℕ} {b : Bool} {d : Decided} {ls : List Line} → b ≡ false → r ≡ reason n d → FirstFailing r (n unless b because d ∷ ls)
  later : {n : ℕ} {b : Bool} {d : Decided} {ls : List Line} → b ≡ true → FirstFailing r ls → FirstFailing r (n unless b because d ∷ ls)

-- a line whose fact fails has number n
pub data Failing (n : ℕ) : List Line → Type 0 where
  this : {b : Bool} {d : Decided} {ls : List Line} → b ≡ false → Failing n (n unless b because d ∷ ls)
  that : {m : ℕ} {b : Bool} {d : Decided} {ls : List Line} → Failing n ls → Failing n (m unless b because d ∷ ls)

-- 01: "n that applies": that there is such a line, as a test
abbrev pub applies : ℕ → List Line → Bool
applies n [] = false
applies n (m unless b because d ∷ ls) = (eqb n m && not b) || applies n ls

-- the lines' numbers
abbrev pub numbers : List Line → List ℕ
numbers [] = []
numbers (n unless b because d ∷ ls) = n ∷ numbers ls

-- each number once, where equal ones stand together; the number before the first is m
abbrev pub once_after : ℕ → List ℕ → List ℕ
once_after m [] = []
once_after m (n ∷ ns) = cond (eqb m n) (once_after n ns) (n ∷ once_after n ns)
