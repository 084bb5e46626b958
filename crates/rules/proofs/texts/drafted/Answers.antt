-- `drafted` meets its contract: a test of every place is one of every draft.
use mathlib.Core.Path.{sym}
use Rattle.std.proofs.Common.{rules, tests}
use Rattle.records.specs.House.{view, no_draft}
use Rattle.records.specs.Lookups.{of_script}
use Rattle.leads.proofs.Chains.{any_of}
use Rattle.rules.proofs.texts.drafted.Goals as goal

pub returns : goal.returns
returns c =
    let h = view c.args.records.now in
    any_of no_draft h.drafts _ (sym c.draft_count.ensures.0) (of_script c.args.i) c.any.ensures.ran (λ i b k e. search (rules, tests))
