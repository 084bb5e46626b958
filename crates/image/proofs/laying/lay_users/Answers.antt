-- `lay_users` meets its contract: after i turns the records of the first i users are laid.
use Prim.Native.Nat.{◌<◌}
use native.Mathlib.Omega.{arith}
use lib.ListN.{length}
use Rattle.records.specs.House.{view}
use Rattle.records.proofs.Views.{count_users}
use Rattle.image.specs.Image.{user_form}
use Rattle.image.proofs.Plans.{upto_all, upto_more, text_if}
use Rattle.image.proofs.laying.lay_users.Goals as goal

pub users-preserved : goal.users-preserved
users-preserved c =
    let s = c.args.records.now in
    let l = c.users in
    let h : l.i < length (view s).users = omega (arith, count_users s) in
    (omega arith, upto_more l.invariant.1 h (text_if user_form (λ x. x.here) l.i c.user_at-user.ensures c.user_bytes.ensures) c.put_if-end.ensures)

pub returns : goal.returns
returns c = upto_all c.users.invariant.1 (omega (arith, count_users c.args.records.now))
