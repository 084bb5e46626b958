-- The empty records meet the record rules.
use mathlib.Core.Path.{◌≡◌}
use mathlib.Core.Bool.{true}
use Prim.Native.Nat.{ℕ, ◌≤◌}
use borrow.Author.Tests.{le-leb}
use Rattle.records.specs.House.{empty_house}
use Rattle.records.specs.Places.{has, with}
use Rattle.rules.specs.Rules.{rules}

pub empty_meets : (last : ℕ) → last ≤ 4294967295 → rules empty_house last ≡ true
unfolding rules empty_house has with
empty_meets last h = rw (le-leb last 4294967295 h)
