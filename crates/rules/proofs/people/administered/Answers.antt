-- `administered` meets its contract: a test of every place is one of every user.
use mathlib.Core.Bool.{not, ◌&&◌, ◌||◌}
use Rattle.std.proofs.Common.{rules, tests}
use Rattle.records.specs.House.{view, no_user}
use Rattle.records.specs.declared.User.{User}
use Rattle.records.proofs.Views.{count_users}
use Rattle.leads.proofs.Chains.{any_of}
use Rattle.rules.proofs.people.administered.Goals as goal

pub returns : goal.returns
returns c =
    let s = c.args.records.now in
    let u = (view s).users in
    let here = any_of no_user u 64 (count_users s) (λ (x : User). x.here) c.any.ensures.ran (λ i b k e. search (rules, tests)) in
    let admin = any_of no_user u 64 (count_users s) (λ (x : User). x.here && x.admin) c.any-2.ensures.ran (λ i b k e. search (rules, tests)) in
    λ i. not (here i) || admin i
