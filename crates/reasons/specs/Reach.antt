-- A draft that was reached: its place, where all that was asked on the way holds.
use Rattle.std.specs.Prelude.{ℕ, length, Option, Some, None, Result, Ok, Err}
use Rattle.records.specs.House.{House}
use Rattle.records.specs.Lookups.{find_draft}
use Rattle.reasons.specs.declared.Reason.{Reason}

-- the place found, or the one behind the last
abbrev pub place_of : House → Option ℕ → ℕ
place_of h (Some i) = i
place_of h None = length h.drafts

-- the place of the draft v of script k, where a was asked on the way
abbrev pub reached_by : House → ℕ → ℕ → Result (Unit {0}) Reason → Result ℕ Reason
reached_by h k v (Ok x) = Ok (place_of h (find_draft h k v))
reached_by h k v (Err r) = Err r
