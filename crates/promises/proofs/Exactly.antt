-- Demand 2 at the answer, of any desk: a request is granted if and only if the rules allow it, and with which answer.
use mathlib.Core.Path.{◌≡◌, sym, ap, ◌∙◌}
use mathlib.Core.Bool.{true}
use Rattle.request.specs.declared.Request.{Request}
use Rattle.request.proofs.Absurd.{differ}
use Rattle.records.specs.House.{House}
use Rattle.records.specs.declared.Rule.{Rule}
use Rattle.effects.specs.declared.Change.{Change}
use Rattle.judge.specs.Kinds.{grant_of}
use Rattle.judge.proofs.Order.{granted_exactly}
use Rattle.history.specs.Machine.{Desk, Outcome, step}
use Rattle.history.specs.Desk.{desk_rules}
use Rattle.history.specs.declared.Answer.{Answer}
use Rattle.promises.specs.Grants.{grants, Allowed, GrantedExactly, grant_after}
use Rattle.rules.proofs.Bools.{clash}
use Rattle.promises.proofs.Ways.{Way, by_rule, no_number, no_change, read, plain, with_number, back, way}

module _ (rule : Rule) (d : Desk House Change) (q : Request) where
  abbrev answer : Answer
  answer = (step (desk_rules rule) d q).answer

  -- what an equation with the outcome says of the answer
  told : {o : Outcome House Change} → step (desk_rules rule) d q ≡ o → grants answer ≡ grants o.answer
  told s = ap (λ (o : Outcome House Change). grants o.answer) s

  pub exactly : GrantedExactly rule d q answer
  exactly = record { granted_allowed = λ g. only_then g (way rule d q); allowed_granted = λ a. always_then a (way rule d q) }
    where
      only_then : grants answer ≡ true → Way rule d q (step (desk_rules rule) d q) → Allowed rule d q
      only_then g (by_rule r e s) = clash g (told s)
      only_then g (no_number a k l s) = clash g (told s)
      only_then g (no_change a k l s) = clash g (told s)
      only_then g (read a k s) = record { conditions = a; number_left = λ e. differ cc; change_left = λ e. differ cc }
      only_then g (plain a k s) = record { conditions = a; number_left = λ e. differ cc; change_left = λ e. differ cc }
      only_then g (with_number a k l s) = record { conditions = a; number_left = λ _. l; change_left = λ e. differ cc }
      only_then g (back a k l t) = record { conditions = a; number_left = λ e. differ cc; change_left = λ _. l }

      always_then : Allowed rule d q → Way rule d q (step (desk_rules rule) d q) → grants answer ≡ true
      always_then w (by_rule r e s) = differ (let z = (granted_exactly rule d.current q).1 w.conditions in cc)
      always_then w (no_number a k l s) = absurd (w.number_left k l)
      always_then w (no_change a k l s) = absurd (w.change_left k l)
      always_then w (read a k s) = told s
      always_then w (plain a k s) = told s
      always_then w (with_number a k l s) = told s
      always_then w (back a k l t) = ap grants t.answer

  -- 81 and the next number for a kind that gets one, else 80
  pub which_grant : grants answer ≡ true → answer ≡ grant_after d.last (grant_of q)
  which_grant g = go (way rule d q)
    where
      go : Way rule d q (step (desk_rules rule) d q) → answer ≡ grant_after d.last (grant_of q)
      go (by_rule r e s) = clash g (told s)
      go (no_number a k l s) = clash g (told s)
      go (no_change a k l s) = clash g (told s)
      go (read a k s) = rw k (ap (λ (o : Outcome House Change). o.answer) s)
      go (plain a k s) = rw k (ap (λ (o : Outcome House Change). o.answer) s)
      go (with_number a k l s) = rw k (ap (λ (o : Outcome House Change). o.answer) s)
      go (back a k l t) = rw k t.answer
