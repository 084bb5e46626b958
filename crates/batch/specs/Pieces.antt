-- Two batches as one: what they leave together, and what their calls return together.
use Rattle.std.specs.Prelude.{List, ◌++◌, ℕ, ◌+◌}
use Rattle.batch.specs.Batch.{Result}
use Rattle.batch.specs.declared.Ran.{Ran}

-- n request bytes were used and these answer bytes written, and behind them goes a batch that leaves r
abbrev pub behind : ℕ → List ℕ → Result → Result
behind n bytes r = record { desk = r.desk; stop = r.stop; used = n + r.used; bytes = bytes ++ r.bytes }

abbrev pub both : Ran → Ran → Ran
both r s = record { stop = s.stop; used = r.used + s.used; written = r.written + s.written }
