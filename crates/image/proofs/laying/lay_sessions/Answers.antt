-- `lay_sessions` meets its contract: after i turns the records of the first i sessions are laid.
use Prim.Native.Nat.{◌<◌}
use native.Mathlib.Omega.{arith}
use lib.ListN.{length}
use Rattle.records.specs.House.{view}
use Rattle.records.proofs.Views.{count_sessions}
use Rattle.image.specs.Image.{session_form}
use Rattle.image.proofs.Plans.{upto_all, upto_more, text_if}
use Rattle.image.proofs.laying.lay_sessions.Goals as goal

pub sessions-preserved : goal.sessions-preserved
sessions-preserved c =
    let s = c.args.records.now in
    let l = c.sessions in
    let h : l.i < length (view s).sessions = omega (arith, count_sessions s) in
    (omega arith, upto_more l.invariant.1 h (text_if session_form (λ x. x.here) l.i c.session_at-session.ensures c.session_bytes.ensures) c.put_if-end.ensures)

pub returns : goal.returns
returns c = upto_all c.sessions.invariant.1 (omega (arith, count_sessions c.args.records.now))
