-- `clear` stores zeros, which show no change.
use Rattle.kept.proofs.Ring.{past_zeros}
use Rattle.kept.proofs.clear.Goals as goal

pub returns : goal.returns
returns c = past_zeros 418
