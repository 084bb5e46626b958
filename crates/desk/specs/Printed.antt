-- What is printed for an input: the one definition.
use Rattle.std.specs.Prelude.{ℕ, ◌+◌, Bool, List, [], ◌∷◌, ◌++◌}
use Rattle.records.specs.House.{House}
use Rattle.records.specs.declared.Rule.{Rule}
use Rattle.effects.specs.declared.Change.{Change}
use Rattle.history.specs.Machine.{Desk}
use Rattle.desk.specs.Lines.{line_of}
use Rattle.desk.specs.Answers.{Given, given}

-- answers as lines, with their reasons or without, and with k the ordinal of the first
abbrev pub lines_from : Bool → ℕ → List Given → List ℕ
lines_from why k [] = []
lines_from why k (g ∷ gs) = line_of why k g.kind g.answer g.reason ++ lines_from why (k + 1) gs

abbrev pub printed_on : Rule → Bool → Desk House Change → ℕ → List ℕ → List ℕ
printed_on rule why d k input = lines_from why k (given rule d input)

-- on the desk d that the program opened; the first line has the ordinal 1
abbrev pub printed : Rule → Bool → Desk House Change → List ℕ → List ℕ
printed rule why d input = printed_on rule why d 1 input
