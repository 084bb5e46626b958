-- `clear` stores zeros, which show no records.
use Rattle.records.proofs.Views.{view_zeros}
use Rattle.records.proofs.clear.Goals as goal

pub returns : goal.returns
returns c = view_zeros 1858
