-- `keeps` meets its contract: the counts hold of any cells, and the other clauses are asked table by table.
use Prim.Native.Nat.{◌≤◌}
use mathlib.Core.Path.{◌∙◌}
use mathlib.Core.Bool.{◌&&◌}
use native.Mathlib.Omega.{arith}
use lib.ListN.{length}
use Rattle.records.specs.House.{view}
use Rattle.records.proofs.Views.{count_users, count_scripts, count_sessions, count_drafts}
use Rattle.rules.proofs.Tables.{by_tables, by_tables_lem}
use Rattle.rules.proofs.keeps.Goals as goal

pub returns : goal.returns
returns c =
    let a = c.args in
    let s = a.records.now in
    let few : length (view s).drafts ≤ 256 = omega (arith, count_drafts s) in
    let top : a.last ≤ 4294967295 = omega arith in
    ◌∙◌ {b = by_tables (view s) a.last}
    (λ i.
    c.rooms_fit.ensures i
    && c.users_keep.ensures i && c.administered.ensures i && c.all_led.ensures i
    && c.sessions_keep.ensures i
    && c.scripts_keep.ensures i
    && c.drafts_keep.ensures i)
    (by_tables_lem (view s) a.last (count_users s) (count_scripts s) (count_sessions s) few top)
