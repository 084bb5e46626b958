-- "Only refusals 9 and 16 at Import are amended": in every state, and over any run.
use Rattle.std.specs.Prelude.{Option, Some, None, Result, Err}
use Prim.Native.Nat.{ℕ}
use mathlib.Core.Path.{◌≡◌, refl, ap, ◌∙◌}
use mathlib.Core.List.{List, [], ◌∷◌}
use Rattle.request.specs.declared.Request.{Request}
use Rattle.request.specs.declared.Request.TheVariants.{Import}
use Rattle.records.specs.House.{House}
use Rattle.records.specs.declared.Rule.{Rule}
use Rattle.effects.specs.declared.Change.{Change}
use Rattle.counter.specs.Numbers.{next_after}
use Rattle.reasons.specs.declared.Reason.{Reason}
use Rattle.judge.specs.declared.Grant.{Grant}
use Rattle.judge.specs.Kinds.{ruling_of}
use Rattle.judge.specs.Amended.{IsImport, Amended, alike, refuses_9, refuses_16}
use Rattle.judge.proofs.Amended.{judged_alike, import_amended}
use Rattle.history.specs.Machine.{Verdict, refuse, pass, make, issue, undo, Desk, outcome, keep_change, take_back, issued, ruled, step, run, answers}
use Rattle.history.specs.Desk.{desk_rules, verdict_of}
use Rattle.history.specs.declared.Answer.{Answer}
use Rattle.rules.specs.Lists.{Each}
use Rattle.promises.specs.Amended.{StepAmended, one_outcome, refused_9, refused_16}

-- a verdict is carried out alike by any two rules
module _ (r s : Rule) (d : Desk House Change) where
  done_alike : (v : Verdict Change) → ruled (desk_rules r) d v ≡ ruled (desk_rules s) d v
  unfolding keep_change take_back
  done_alike (refuse n) = refl
  done_alike pass = refl
  done_alike (make c) = refl
  done_alike (issue f) = go (next_after d.last)
    where
      go : (n : Option ℕ) → issued (desk_rules r) d f n ≡ issued (desk_rules s) d f n
      go (Some n) = refl
      go None = refl
  done_alike undo = refl

  by_ruling : (q : Request) → ruling_of r d.current q ≡ ruling_of s d.current q → step (desk_rules r) d q ≡ step (desk_rules s) d q
  unfolding step
  by_ruling q e = done_alike (verdict_of q (ruling_of r d.current q)) ∙ ap (λ (x : Result Grant Reason). ruled (desk_rules s) d (verdict_of q x)) e

  -- every request that is no Import
  pub stepped_alike : (q : Request) → (IsImport q → ⊥) → step (desk_rules r) d q ≡ step (desk_rules s) d q
  stepped_alike q other = by_ruling q (judged_alike r s d.current q other)

-- a run without an Import: the same answers, and the same desk
module _ (r s : Rule) where
  pub ran_alike : (d : Desk House Change) (qs : List Request) → Each (λ q. IsImport q → ⊥) qs
      → (answers (desk_rules r) d qs ≡ answers (desk_rules s) d qs) × (run (desk_rules r) d qs ≡ run (desk_rules s) d qs)
  ran_alike d [] others = (refl, refl)
  ran_alike d (q ∷ qs) others =
      let one = stepped_alike r s d q others.0 in
      let then = ran_alike (step (desk_rules r) d q).desk qs others.1 in (
        (λ i. (step (desk_rules r) d q).answer ∷ then.0 i) ∙ (λ i. (one i).answer ∷ answers (desk_rules s) (one i).desk qs),
        then.1 ∙ (λ i. run (desk_rules s) (one i).desk qs),
      )

-- an Import: where the rules part, rule 1 refuses with 9 or 16
module _ (d : Desk House Change) (u k₁ v k₂ room : ℕ) where
  abbrev q : Request
  q = Import u k₁ v k₂ room

  refused_with : (r : Reason) (n : ℕ) → ruling_of Rule.One d.current q ≡ Err r → r.number ≡ n → step (desk_rules Rule.One) d q ≡ outcome d (Answer.Refused n)
  unfolding step
  refused_with r n e is = ap (λ (x : Result Grant Reason). ruled (desk_rules Rule.One) d (verdict_of q x)) e ∙ ap (λ (k : ℕ). outcome d (Answer.Refused k)) is

  pub import_stepped : StepAmended d (step (desk_rules Rule.One) d q) (step (desk_rules Rule.Two) d q)
  import_stepped = go (import_amended d.current u k₁ v k₂ room)
    where
      go : Amended (ruling_of Rule.One d.current q) (ruling_of Rule.Two d.current q) → StepAmended d (step (desk_rules Rule.One) d q) (step (desk_rules Rule.Two) d q)
      go (alike e) = one_outcome (by_ruling Rule.One Rule.Two d q e)
      go (refuses_9 r e n) = refused_9 (refused_with r 9 e n)
      go (refuses_16 r e n) = refused_16 (refused_with r 16 e n)
