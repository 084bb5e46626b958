-- `lay_scripts` meets its contract: after i turns the records of the first i scripts are laid.
use Prim.Native.Nat.{◌<◌}
use native.Mathlib.Omega.{arith}
use lib.ListN.{length}
use Rattle.records.specs.House.{view}
use Rattle.records.proofs.Views.{count_scripts}
use Rattle.image.specs.Image.{script_form}
use Rattle.image.proofs.Plans.{upto_all, upto_more, text_if}
use Rattle.image.proofs.laying.lay_scripts.Goals as goal

pub scripts-preserved : goal.scripts-preserved
scripts-preserved c =
    let s = c.args.records.now in
    let l = c.scripts in
    let h : l.i < length (view s).scripts = omega (arith, count_scripts s) in
    (omega arith, upto_more l.invariant.1 h (text_if script_form (λ x. x.here) l.i c.script_at-script.ensures c.script_bytes.ensures) c.put_if-end.ensures)

pub returns : goal.returns
returns c = upto_all c.scripts.invariant.1 (omega (arith, count_scripts c.args.records.now))
