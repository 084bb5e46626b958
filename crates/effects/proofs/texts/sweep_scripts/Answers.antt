-- `sweep_scripts` meets its contract: a map in place by a script's id; the loop leaves the drafts alone.
use borrow.Author.Tests.{not-true, not-false}
use native.Mathlib.Omega.{arith}
use mathlib.Core.Path.{◌≡◌, ◌∙◌, sym, ap}
use mathlib.Core.Bool.{true, false}
use Rattle.records.specs.House.{view, script, no_script}
use Rattle.records.specs.declared.Script.{Script}
use Rattle.records.proofs.Views.{count_scripts}
use Rattle.sessions.proofs.InPlace.{scripts, store, skip, finish}
use Rattle.effects.proofs.texts.sweep_scripts.Goals as goal

pub scripts-preserved-then-not-script : goal.scripts-preserved-then-not-script
scripts-preserved-then-not-script c =
    let l = c.scripts in
    let z = count_scripts c.args.records.now in
    let absent : (script (view l.records) l.i).here ≡ false =
    ap (λ (s : Script). s.here) (sym c.script_at-script.ensures) ∙ not-true _ c.if-not-script.true in
    (omega arith, skip scripts _ _ l.i _ no_script l.invariant.1 (omega arith) (rw absent))

pub scripts-preserved-then-found-i : goal.scripts-preserved-then-found-i
scripts-preserved-then-found-i c =
    let l = c.scripts in
    let z = count_scripts c.args.records.now in
    let drafted = sym (c.drafted-found.ensures l.i (omega arith)) ∙ c.if-found-i.true in
    let here : (script (view l.records) l.i).here ≡ true =
    ap (λ (s : Script). s.here) (sym c.script_at-script.ensures) ∙ not-false _ c.if-not-script.false in
    (omega arith, skip scripts _ _ l.i _ no_script l.invariant.1 (omega arith) (rw (here, drafted)))

pub scripts-preserved : goal.scripts-preserved
scripts-preserved c =
    let l = c.scripts in
    let t = c.scripts-test.true in
    let z = count_scripts c.args.records.now in
    let bare = sym (c.drafted-found.ensures l.i (omega arith)) ∙ c.if-found-i.false in
    let here : (script (view l.records) l.i).here ≡ true =
    ap (λ (s : Script). s.here) (sym c.script_at-script.ensures) ∙ not-false _ c.if-not-script.false in
    (omega arith, store scripts _ _ l.i _ no_script l.invariant.1 (omega arith) _ _ (rw (here, bare) c.no_script.ensures) c.put_script.ensures)

pub returns : goal.returns
returns c =
    let l = c.scripts in
    let z = count_scripts c.args.records.now in
    finish scripts _ _ l.i _ l.invariant.1 (omega arith)
