-- `end_sessions` meets its contract: a map in place that stores only where something changes.
use Rattle.std.proofs.Common.{rules, tests}
use native.Mathlib.Omega.{arith}
use mathlib.Core.Path.{◌≡◌}
use mathlib.Core.Bool.{true, false}
use Rattle.records.specs.House.{view, session, no_session}
use Rattle.records.proofs.Views.{count_sessions}
use Rattle.sessions.specs.Sessions.{ends}
use Rattle.sessions.proofs.InPlace.{sessions, store, skip, finish_map}
use Rattle.sessions.proofs.end_sessions.Goals as goal

pub sessions-preserved-then-not-ends : goal.sessions-preserved-then-not-ends
sessions-preserved-then-not-ends c =
    let l = c.sessions in
    let z = count_sessions c.args.records.now in
    let stays : ends c.args.ending (session (view l.records) l.i) ≡ false = rw (← c.session_at-session.ensures, ← c.ends.ensures) (search (rules, tests)) in
    (omega arith, skip sessions _ _ l.i _ no_session l.invariant.1 (omega arith) (rw stays))

pub sessions-preserved : goal.sessions-preserved
sessions-preserved c =
    let l = c.sessions in
    let z = count_sessions c.args.records.now in
    let goes : ends c.args.ending (session (view l.records) l.i) ≡ true = rw (← c.session_at-session.ensures, ← c.ends.ensures) (search (rules, tests)) in
    (omega arith, store sessions _ _ l.i _ no_session l.invariant.1 (omega arith) _ _ (rw goes c.no_session.ensures) c.put_session.ensures)

pub returns : goal.returns
returns c =
    let l = c.sessions in
    let z = count_sessions c.args.records.now in
    finish_map sessions _ _ l.i _ l.invariant.1 (omega arith)
