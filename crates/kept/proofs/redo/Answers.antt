-- `redo` meets its contract: the slot of a kept change, and past them the change without effect.
use native.Mathlib.Omega.{arith}
use Prim.Native.Nat.{◌≤◌, ◌<◌}
use mathlib.Core.Path.{sym, ap, ◌∙◌}
use lib.ListN.{length, get_or-eq_default}
use Rattle.records.specs.House.{view}
use Rattle.records.specs.Tables.{at}
use Rattle.effects.specs.Effects.{applied}
use Rattle.kept.specs.Log.{change_table, past, no_change}
use Rattle.kept.proofs.Ring.{past_at}
use Rattle.kept.proofs.redo.Goals as goal

pub returns-then-kept_count-i : goal.returns-then-kept_count-i
unfolding applied
returns-then-kept_count-i c =
    let a = c.args in
    let h : length (past a.log.now) ≤ a.i = omega (arith, c.kept_count.ensures.0) in
    rw (get_or-eq_default (past a.log.now) no_change h)

pub returns : goal.returns
returns c =
    let a = c.args in
    let h : a.i < length (past a.log.now) = omega (arith, c.kept_count.ensures.0) in
    c.redo_slot.ensures
    ∙ ap (applied (view a.records.now)) (ap (at change_table a.log.now) c.slot_of-slot.ensures.0 ∙ sym (past_at a.log.now a.i no_change h))
