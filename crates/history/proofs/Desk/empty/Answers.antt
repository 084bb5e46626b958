-- `empty` meets its contract: zeros show no records and no change.
use mathlib.Core.Path.{refl}
use Rattle.records.proofs.Views.{view_zeros}
use Rattle.kept.proofs.Ring.{past_zeros}
use Rattle.history.proofs.Desk.empty.Goals as goal

pub returns : goal.returns
returns c = (λ i. record { base = view_zeros 1858 i; log = past_zeros 418 i; current = view_zeros 1858 i; last = 0 }, refl)
