-- What is known of a read: that so many bytes of the buffer were read.
use Rattle.std.specs.Prelude.{ℕ, List, Result, IfOk}
use Rattle.desk.specs.Counts.{IsPrefixLen}
use Rattle.desk.specs.declared.told.Told.{Told}

abbrev pub Within : Result ℕ Told → List ℕ → Type 0
Within result bytes = IfOk result (λ n. IsPrefixLen n bytes)
