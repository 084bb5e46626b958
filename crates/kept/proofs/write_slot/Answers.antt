-- `write_slot` meets its contract: a slot's two parts are its cells.
use native.Mathlib.Omega.{arith}
use Prim.Native.Nat.{◌/◌, ◌%◌}
use mathlib.Core.Path.{◌≡◌, ◌∙◌}
use Rattle.kept.proofs.Ring.{two_parts}
use Rattle.kept.proofs.write_slot.Goals as goal

pub returns : goal.returns
returns c =
    let a = c.args in
    let top : a.change.number / 16777216 % 256 ≡ a.change.number / 16777216 = omega arith in
    two_parts a.log.now a.change a.slot _ _ (omega arith) (omega arith)
    (c.copy_from_slice.ensures.after ∙ c.write.ensures) (c.copy_from_slice-2.ensures.after ∙ c.to_be_bytes.ensures ∙ rw top)
