-- `put_session` stores the cells of one session, and past the table nothing.
use native.Mathlib.Omega.{arith}
use native.Mathlib.Nat.{add-zero}
use Rattle.records.specs.House.{view, session_table}
use Rattle.records.proofs.Tables.{start, table_kept}
use Rattle.records.proofs.Views.{session_laid, session_again, view_session}
use Rattle.records.proofs.sessions.put_session.Goals as goal

pub returns-then-i-gt63 : goal.returns-then-i-gt63
unfolding view
returns-then-i-gt63 c =
    let a = c.args in
    rw (table_kept session_table session_laid a.records.now a.i a.session (omega arith))

pub returns : goal.returns
returns c =
    let a = c.args in
    rw (c.from.ensures, c.from-2.ensures) (rw (add-zero (start session_table a.i)) at (view_session a.records.now (omega arith) a.i a.session (session_again a.session (omega arith) (omega arith) (omega arith) (omega arith)) (omega arith)))
