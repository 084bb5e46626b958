-- The desks that the program opens: without records, with "the last number already used N" and under rule 1 or 2, or from an image that is accepted.
use Rattle.std.specs.Prelude.{ℕ, ◌≡◌, cond, List, ltb, length, Ok, Err}
use Rattle.records.specs.House.{House}
use Rattle.records.specs.declared.Rule.{Rule}
use Rattle.effects.specs.declared.Change.{Change}
use Rattle.history.specs.Machine.{Desk}
use Rattle.history.specs.Desk.{opens, opened_under}
use Rattle.opening.specs.Desks.{OpensDesk, opens_desk, desk_by}
use Rattle.opening.specs.declared.OpenError.TheVariants.{NoImage}

-- "A file of over 65,536 bytes is no image: refused 15"; the desk d is then as it was, and under rule 1
unfoldable pub file_by : Desk House Change → List ℕ → OpensDesk
file_by d bytes = cond (ltb 65536 (length bytes)) (opens_desk (Err NoImage) d Rule.One) (desk_by bytes)

-- the desk d under the rule
pub data JustOpened (rule : Rule) (d : Desk House Change) : Type 0 where
  with_number : (last number : ℕ) → opens (Ok tt) d rule ≡ opened_under last number → JustOpened rule d
  with_image : (image : List ℕ) → opens_desk (Ok tt) d rule ≡ desk_by image → JustOpened rule d
