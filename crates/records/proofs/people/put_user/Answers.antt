-- `put_user` stores the cells of one user, and past the table nothing.
use native.Mathlib.Omega.{arith}
use native.Mathlib.Nat.{add-zero}
use Rattle.records.specs.House.{view, user_table}
use Rattle.records.proofs.Tables.{start, table_kept}
use Rattle.records.proofs.Views.{user_laid, user_again, view_user}
use Rattle.records.proofs.people.put_user.Goals as goal

pub returns-then-i-gt63 : goal.returns-then-i-gt63
unfolding view
returns-then-i-gt63 c =
    let a = c.args in
    rw (table_kept user_table user_laid a.records.now a.i a.user (omega arith))

pub returns : goal.returns
returns c =
    let a = c.args in
    rw (c.from.ensures, c.from-2.ensures) (rw (add-zero (start user_table a.i)) at (view_user a.records.now (omega arith) a.i a.user (user_again a.user (omega arith) (omega arith) (omega arith)) (omega arith)))
