-- `no_users` meets its contract: a test of every place is one of every user.
use mathlib.Core.Path.{ap}
use mathlib.Core.Bool.{not}
use Rattle.std.proofs.Common.{rules, tests}
use Rattle.records.specs.House.{view, no_user}
use Rattle.records.specs.declared.User.{User}
use Rattle.records.proofs.Views.{count_users}
use Rattle.leads.proofs.Chains.{any_of}
use Rattle.conditions.proofs.no_users.Goals as goal

pub returns : goal.returns
returns c =
    let s = c.args.records.now in
    ap not (any_of no_user (view s).users 64 (count_users s) (λ (u : User). u.here) c.any.ensures.ran (λ i b k e. search (rules, tests)))
