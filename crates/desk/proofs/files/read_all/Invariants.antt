-- What was read stands at the front of the buffer.
use Rattle.std.proofs.Common.{◌≡◌, ◌-◌, ◌≤◌, length}
use Rattle.desk.proofs.files.read_all.Given as goal

abbrev pub invariant-loop-have : goal.invariant-loop-have
invariant-loop-have l = (length l.bytes ≡ length l.initial.bytes) × (l.have ≤ length l.bytes)

abbrev pub decreases-loop-have : goal.decreases-loop-have
decreases-loop-have l = length l.bytes - l.have
