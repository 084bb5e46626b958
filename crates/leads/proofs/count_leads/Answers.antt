-- `count_leads` meets its contract: the users of whom the test holds are counted.
use mathlib.Core.Path.{refl, ◌∙◌}
use Rattle.std.proofs.Common.{rules, tests}
use Rattle.std.proofs.lemmas.Iterator.{YieldsList-from_range}
use Rattle.std.proofs.lemmas.Iterator.Consumers.{YieldsList-at, YieldsList-from_filter, count_from_yields_List}
use Rattle.records.specs.Places.{has}
use Rattle.records.specs.House.{view, no_user}
use Rattle.records.specs.declared.User.{User}
use Rattle.records.proofs.Views.{count_users}
use Rattle.leads.proofs.Chains.{asked, count_of}
use Rattle.leads.proofs.count_leads.Goals as goal

pub returns : goal.returns
returns c =
    let s = c.args.records.now in
    let l = (view s).users in
    let p = λ (u : User). has u.leads c.args.room in
    count_from_yields_List c.filter.result _ c.count.ensures.ran
    (YieldsList-from_filter _ (asked no_user l 64 (count_users s) p) (YieldsList-at c.filter.ensures.source (YieldsList-from_range 0 64 64 refl refl)) c.filter.ensures.closure (λ x b q k. search (rules, tests)))
    ∙ count_of no_user l 64 (count_users s) p
