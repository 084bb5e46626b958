-- "Room freed by a deleted draft is used again": a draft finds room by how many live now, whatever was deleted before.
use Prim.Native.Nat.{◌<◌}
use mathlib.Core.Path.{◌≡◌}
use mathlib.Core.Bool.{true}
use mathlib.Core.List.{[], ◌∷◌, ◌++◌}
use native.Mathlib.Omega.{arith}
use lib.ListN.{length, length-append}
use lib.Seq.{take_all}
use borrow.Author.Tests.{ltb-true}
use Rattle.records.specs.House.{House, add_draft}
use Rattle.records.specs.declared.Draft.{Draft}
use Rattle.conditions.specs.Conditions.{draft_room}

-- where 10 does not refuse, the new draft stands behind all that live
pub room_used_again : (h : House) (d : Draft) → draft_room h ≡ true → (add_draft h d).drafts ≡ h.drafts ++ (d ∷ [])
room_used_again h d room =
    let few : length h.drafts < 256 = ltb-true (length h.drafts) 256 room in
    take_all 256 (h.drafts ++ (d ∷ [])) (omega (arith, few, length-append h.drafts (d ∷ [])))
