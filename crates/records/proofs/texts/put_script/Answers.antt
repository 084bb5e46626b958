-- `put_script` stores the cells of one script, and past the table nothing.
use native.Mathlib.Omega.{arith}
use native.Mathlib.Nat.{add-zero}
use Rattle.records.specs.House.{view, script_table}
use Rattle.records.proofs.Tables.{start, table_kept}
use Rattle.records.proofs.Views.{script_laid, script_again, view_script}
use Rattle.records.proofs.texts.put_script.Goals as goal

pub returns-then-i-gt63 : goal.returns-then-i-gt63
unfolding view
returns-then-i-gt63 c =
    let a = c.args in
    rw (table_kept script_table script_laid a.records.now a.i a.script (omega arith))

pub returns : goal.returns
returns c =
    let a = c.args in
    rw c.from.ensures (rw (add-zero (start script_table a.i)) at (view_script a.records.now (omega arith) a.i a.script (script_again a.script (omega arith) (omega arith) (omega arith)) (omega arith)))
