-- `take_all` meets its contract: the frames passed are taken in, and the walk goes on behind them.
use mathlib.Core.Path.{◌≡◌}
use lib.ListN.{length}
use Rattle.records.specs.House.{view}
use Rattle.reader.specs.Reading.{saved, blank, walked}
use Rattle.reader.proofs.take_all.Given as goal

abbrev pub invariant-frames : goal.invariant-frames
invariant-frames l = walked 0 blank l.image ≡ walked 0 (saved (view l.records) l.last l.rule) l.left

abbrev pub decreases-frames : goal.decreases-frames
decreases-frames l = length l.left
