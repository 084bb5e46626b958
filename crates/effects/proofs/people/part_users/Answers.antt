-- `part_users` meets its contract: a map in place; where neither set changes, the user is the same.
use native.Mathlib.Omega.{arith}
use mathlib.Core.Path.{◌∙◌, ap}
use Rattle.records.specs.House.{no_user}
use Rattle.records.proofs.Views.{count_users}
use Rattle.effects.specs.Elements.{parted}
use Rattle.sessions.proofs.InPlace.{users, store, skip, finish_map}
use Rattle.effects.proofs.Same.{same_user}
use Rattle.effects.proofs.people.part_users.Goals as goal

pub users-preserved-then-other-user : goal.users-preserved-then-other-user
users-preserved-then-other-user c =
    let a = c.args in
    let l = c.users in
    let p = c.parted-other in
    let u = c.user_at-user in
    let z = count_users a.records.now in (
      omega arith,
      skip users _ _ l.i _ no_user l.invariant.1 (omega arith) (same_user a.room _ u.result u.ensures p.result p.ensures c.if-other-user.true),
    )

pub users-preserved : goal.users-preserved
users-preserved c =
    let l = c.users in
    let t = c.users-test.true in
    let p = c.parted-other in
    let u = c.user_at-user in
    let z = count_users c.args.records.now in
    (omega arith, store users _ _ l.i _ no_user l.invariant.1 (omega arith) _ _ (p.ensures ∙ ap (parted _) u.ensures) c.put_user.ensures)

pub returns : goal.returns
returns c =
    let l = c.users in
    let z = count_users c.args.records.now in
    finish_map users _ _ l.i _ l.invariant.1 (omega arith)
