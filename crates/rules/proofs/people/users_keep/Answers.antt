-- `users_keep` meets its contract: a test of every place is one of every user.
use Rattle.std.proofs.Common.{rules, tests}
use Rattle.records.specs.House.{view, no_user}
use Rattle.records.proofs.Views.{count_users}
use Rattle.leads.proofs.Chains.{all_of}
use Rattle.rules.specs.Walks.{user_keeps}
use Rattle.rules.proofs.people.users_keep.Goals as goal

pub returns : goal.returns
returns c =
    let s = c.args.records.now in
    all_of no_user (view s).users 64 (count_users s) (user_keeps (view s)) c.all.ensures.ran (λ i b k e. search (rules, tests))
