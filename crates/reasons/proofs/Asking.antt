-- Asking by lines: one, then some and more.
use Rattle.std.specs.Prelude.{Option, Some, None, Result, Ok, Err}
use Rattle.std.specs.Result.{result_and}
use Prim.Native.Nat.{ℕ}
use mathlib.Core.Path.{◌≡◌, refl, sym, ap, ◌∙◌}
use mathlib.Core.Bool.{Bool, true, false}
use mathlib.Core.List.{List, [], ◌∷◌, ◌++◌}
use lib.ListN.{get_or, length}
use Rattle.records.specs.House.{House, draft_at, no_draft}
use Rattle.records.specs.Lookups.{find_draft, at_found, draft}
use Rattle.records.specs.declared.Draft.{Draft}
use Rattle.reasons.specs.Reasons.{Decided, decided}
use Rattle.reasons.specs.Asking.{Line, ◌unless◌, ◌because◌, asked}
use Rattle.reasons.specs.declared.Reason.{Reason}
use Rattle.reasons.specs.Reach.{place_of, reached_by}

-- ---- some lines, and then others
pub more : (xs ys : List Line) → asked (xs ++ ys) ≡ result_and (asked xs) (asked ys)
unfolding asked
more [] ys = refl
more (n unless true because d ∷ xs) ys = more xs ys
more (n unless false because d ∷ xs) ys = refl

pub first : (l : Line) (ls : List Line) → asked (l ∷ ls) ≡ result_and (asked (l ∷ [])) (asked ls)
first l ls = more (l ∷ []) ls
