-- `shut_scripts` meets its contract: a map in place that stores only where something changes.
use borrow.Author.Tests.{not-true, not-false}
use native.Mathlib.Omega.{arith}
use mathlib.Core.Path.{◌≡◌, ◌∙◌, sym, ap}
use mathlib.Core.Bool.{true, false}
use Rattle.records.specs.House.{view, script, no_script}
use Rattle.records.proofs.Views.{count_scripts}
use Rattle.effects.specs.Elements.{shuts}
use Rattle.sessions.proofs.InPlace.{scripts, store, skip, finish_map}
use Rattle.effects.proofs.texts.shut_scripts.Goals as goal

pub scripts-preserved-then-not-shuts : goal.scripts-preserved-then-not-shuts
scripts-preserved-then-not-shuts c =
    let a = c.args in
    let l = c.scripts in
    let z = count_scripts a.records.now in
    let stays : shuts a.room (script (view l.records) l.i) ≡ false =
    sym (ap (shuts a.room) c.script_at-script.ensures) ∙ sym c.shuts.ensures ∙ not-true _ c.if-not-shuts.true-raw in
    (omega arith, skip scripts _ _ l.i _ no_script l.invariant.1 (omega arith) (rw stays))

pub scripts-preserved : goal.scripts-preserved
scripts-preserved c =
    let a = c.args in
    let l = c.scripts in
    let z = count_scripts a.records.now in
    let goes : shuts a.room (script (view l.records) l.i) ≡ true =
    sym (ap (shuts a.room) c.script_at-script.ensures) ∙ sym c.shuts.ensures
    ∙ not-false _ c.if-not-shuts.false-raw in (
      omega arith,
      store scripts _ _ l.i _ no_script l.invariant.1 (omega arith) _ _ (rw goes c.no_script.ensures) c.put_script.ensures,
    )

pub returns : goal.returns
returns c =
    let l = c.scripts in
    let z = count_scripts c.args.records.now in
    finish_map scripts _ _ l.i _ l.invariant.1 (omega arith)
