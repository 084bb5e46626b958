-- `drafted` meets its contract: each draft passed has marked its script.
use native.Mathlib.Omega.{arith}
use Prim.Native.Nat.{ℕ}
use mathlib.Core.Path.{refl}
use mathlib.Core.Bool.{false}
use lib.ListN.{get_or-replicate}
use Rattle.records.specs.declared.Draft.{Draft}
use Rattle.effects.proofs.Lists.{none_marked}
use Rattle.effects.proofs.texts.drafted.Goals as goal

abbrev script_of : Draft → ℕ
script_of d = d.script

pub drafts-init : goal.drafts-init
drafts-init c = (omega arith, none_marked script_of 256 _ _ refl (λ k h. get_or-replicate 256 k false false h))
