-- From a grant: every condition of the request's kind held.
use Rattle.std.specs.Prelude.{Ok}
use Prim.Native.Nat.{ℕ, zero, suc}
use mathlib.Core.Path.{◌≡◌, refl, sym, ap, ◌∙◌}
use mathlib.Core.Bool.{Bool, true, false}
use mathlib.Core.List.{List, [], ◌∷◌}
use Rattle.records.specs.House.{House}
use Rattle.records.specs.declared.Rule.{Rule}
use Rattle.request.specs.declared.Request.{Request}
use Rattle.reasons.specs.Asking.{Line, ◌unless◌, ◌because◌, AllHold, none, more}
use Rattle.reasons.proofs.Order.{Verdict, grant, refusal, verdict}
use Rattle.judge.specs.declared.Grant.{Grant}
use Rattle.judge.specs.declared.Grant.TheVariants.{Pass, Keep, KeepNumbered, TakeBack}
use Rattle.judge.specs.Kinds.{lines_of, grant_of, ruling_of}
use Rattle.judge.proofs.Order.{all_granted, first_refused}

-- the fact of line k; the first is line 0
abbrev pub fact_at : List Line → ℕ → Bool
fact_at [] k = true
fact_at (n unless b because d ∷ lines) zero = b
fact_at (n unless b because d ∷ lines) (suc k) = fact_at lines k

-- the fact of each line holds
abbrev pub Hold : List Line → Type 0
Hold lines = (k : ℕ) → fact_at lines k ≡ true

pub each_holds : {lines : List Line} → AllHold lines → Hold lines
each_holds none k = refl
each_holds (more e a) zero = e
each_holds (more e a) (suc k) = each_holds a k

-- a request that is offered a grant where the lines hold, and was granted g
pub record Granted (offered : Grant) (lines : List Line) (g : Grant) : Type 0 where
  pub given : offered ≡ g
  pub hold : Hold lines

-- a granted request: all conditions of its kind hold, and the grant is the kind's own
pub conditions : (rule : Rule) (h : House) (q : Request) (g : Grant) → ruling_of rule h q ≡ Ok g → Granted (grant_of q) (lines_of rule h q) g
unfolding ruling_of
conditions rule h q g e = go (verdict (lines_of rule h q))
  where
    go : Verdict (lines_of rule h q) → Granted (grant_of q) (lines_of rule h q) g
    go (grant a) = record { given = cc (all_granted (grant_of q) a); hold = each_holds a }
    go (refusal r f) = cc (first_refused (grant_of q) f)
