-- The ways of one request at any desk: what the answer was, why, and what the desk is then.
use Rattle.std.specs.Prelude.{Err}
use mathlib.Core.Path.{◌≡◌, refl, ap}
use Prim.Native.Nat.{◌+◌}
use native.Mathlib.Decide.{ℕ_discrete}
use lib.ListN.{length}
use Rattle.request.specs.declared.Request.{Request}
use Rattle.records.specs.House.{House}
use Rattle.records.specs.declared.Rule.{Rule}
use Rattle.effects.specs.declared.Change.{Change}
use Rattle.reasons.specs.Asking.{AllHold}
use Rattle.reasons.specs.declared.Reason.{Reason}
use Rattle.reasons.proofs.Order.{Verdict, grant, refusal, verdict}
use Rattle.judge.specs.Kinds.{lines_of, grant_of, ruling_of}
use Rattle.judge.specs.declared.Grant.{Grant}
use Rattle.judge.specs.declared.Grant.TheVariants.{Pass, Keep, KeepNumbered, TakeBack}
use Rattle.judge.proofs.Order.{refused_exactly}
use Rattle.counter.specs.Numbers.{top}
use Rattle.history.specs.Machine.{undo, Desk, Outcome, outcome, keep_change, step}
use Rattle.effects.specs.Effects.{change_of}
use Rattle.history.specs.Desk.{verdict_of, desk_rules}
use Rattle.history.specs.declared.Answer.{Answer}
use Rattle.promises.specs.Back.{TakenBack}
use Rattle.promises.proofs.Trace.{none_left, some_left}
use Rattle.promises.proofs.Demands.{allowed, refused, passed, made, numbered, spent}

pub data Way (rule : Rule) (d : Desk House Change) (q : Request) (o : Outcome House Change) : Type 0 where
  by_rule : (r : Reason) → ruling_of rule d.current q ≡ Err r → o ≡ outcome d (Answer.Refused r.number) → Way rule d q o
  no_number : AllHold (lines_of rule d.current q) → grant_of q ≡ KeepNumbered → d.last ≡ top → o ≡ outcome d (Answer.Refused 11) → Way rule d q o
  no_change : AllHold (lines_of rule d.current q) → grant_of q ≡ TakeBack → length d.log ≡ 0 → o ≡ outcome d (Answer.Refused 12) → Way rule d q o
  read : AllHold (lines_of rule d.current q) → grant_of q ≡ Pass → o ≡ outcome d Answer.Granted → Way rule d q o
  plain : AllHold (lines_of rule d.current q) → grant_of q ≡ Keep → o ≡ outcome (keep_change (desk_rules rule) d (change_of q 0) d.last) Answer.Granted → Way rule d q o
  with_number : AllHold (lines_of rule d.current q) → grant_of q ≡ KeepNumbered → (d.last ≡ top → ⊥)
      → o ≡ outcome (keep_change (desk_rules rule) d (change_of q (d.last + 1)) (d.last + 1)) (Answer.Numbered (d.last + 1)) → Way rule d q o
  back : AllHold (lines_of rule d.current q) → grant_of q ≡ TakeBack → (length d.log ≡ 0 → ⊥) → TakenBack (desk_rules rule) d o → Way rule d q o

pub way : (rule : Rule) (d : Desk House Change) (q : Request) → Way rule d q (step (desk_rules rule) d q)
way rule d q = go (verdict (lines_of rule d.current q))
  where
    by_grant : (g : Grant) → grant_of q ≡ g → AllHold (lines_of rule d.current q) → Way rule d q (step (desk_rules rule) d q)
    by_grant Pass e a = read a e (passed rule d q e a)
    by_grant Keep e a = plain a e (made rule d q e a)
    by_grant KeepNumbered e a = go (ℕ_discrete d.last top)
      where
        go : Dec (d.last ≡ top) → Way rule d q (step (desk_rules rule) d q)
        go (yes l) = no_number a e l (spent rule d q e a l)
        go (no l) = with_number a e l (numbered rule d q e a l)
    by_grant TakeBack e a = go (ℕ_discrete (length d.log) 0)
      where
        undone : (desk_rules rule).judge d.current q ≡ undo
        undone = ap (verdict_of q) (allowed rule d q TakeBack e a)

        go : Dec (length d.log ≡ 0) → Way rule d q (step (desk_rules rule) d q)
        go (yes z) = no_change a e z (none_left (desk_rules rule) d q undone z)
        go (no n) = back a e n (some_left (desk_rules rule) d q undone n)

    go : Verdict (lines_of rule d.current q) → Way rule d q (step (desk_rules rule) d q)
    go (grant a) = by_grant (grant_of q) refl a
    go (refusal r f) = by_rule r ((refused_exactly rule d.current q r).1 f) (refused rule d q r f)
