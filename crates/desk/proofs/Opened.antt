-- A file that opened was an image.
use Rattle.std.specs.Prelude.{Ok, Err}
use Prim.Native.Nat.{ℕ}
use mathlib.Core.Path.{◌≡◌, refl, ap}
use mathlib.Core.Bool.{Bool, true, false, cond}
use mathlib.Core.List.{List}
use lib.Dec.{ltb}
use lib.ListN.{length}
use Rattle.request.proofs.Absurd.{differ}
use Rattle.records.specs.House.{House}
use Rattle.records.specs.declared.Rule.{Rule}
use Rattle.effects.specs.declared.Change.{Change}
use Rattle.history.specs.Machine.{Desk}
use Rattle.opening.specs.Desks.{OpensDesk, opens_desk, desk_by}
use Rattle.opening.specs.declared.OpenError.TheVariants.{NoImage}
use Rattle.desk.specs.Opened.{file_by}

pub image_opened : (d₀ d : Desk House Change) (rule : Rule) (bytes : List ℕ) → opens_desk (Ok tt) d rule ≡ file_by d₀ bytes → opens_desk (Ok tt) d rule ≡ desk_by bytes
unfolding file_by
image_opened d₀ d rule bytes e = go (ltb 65536 (length bytes)) refl e
  where
    go : (t : Bool) → ltb 65536 (length bytes) ≡ t → opens_desk (Ok tt) d rule ≡ cond t (opens_desk (Err NoImage) d₀ Rule.One) (desk_by bytes)
        → opens_desk (Ok tt) d rule ≡ desk_by bytes
    go true k e = differ (let a = ap (λ (o : OpensDesk). o.answer) e in cc)
    go false k e = e
