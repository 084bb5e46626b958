-- `sessions_keep` meets its contract: a test of every place is one of every session.
use Rattle.std.proofs.Common.{rules, tests}
use Rattle.records.specs.House.{view, no_session}
use Rattle.records.proofs.Views.{count_sessions}
use Rattle.leads.proofs.Chains.{all_of}
use Rattle.rules.specs.Walks.{session_keeps}
use Rattle.rules.proofs.sessions.sessions_keep.Goals as goal

pub returns : goal.returns
returns c =
    let s = c.args.records.now in
    all_of no_session (view s).sessions 64 (count_sessions s) (session_keeps (view s)) c.all.ensures.ran (λ i b k e. search (rules, tests))
