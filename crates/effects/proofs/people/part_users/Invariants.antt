-- `part_users` meets its contract: a map in place; where neither set changes, the user is the same.
use Prim.Native.Nat.{◌≤◌, ◌-◌}
use Rattle.records.specs.House.{view}
use Rattle.effects.specs.Elements.{parted}
use Rattle.sessions.proofs.InPlace.{users, Done}
use Rattle.effects.proofs.people.part_users.Given as goal

abbrev pub invariant-users : goal.invariant-users
invariant-users l = (l.i ≤ 64) × Done users (view l.initial.records) (λ _. parted l.room) l.i (view l.records)

abbrev pub decreases-users : goal.decreases-users
decreases-users l = 64 - l.i
