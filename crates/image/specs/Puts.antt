-- What laying bytes into a buffer leaves there.
use Rattle.std.specs.Prelude.{ℕ, ◌+◌, ◌≤◌, ◌≡◌, List, ◌++◌, length, take, drop}

-- from place `at` of xs on these bytes stand in ys, up to r; all else is as in xs
pub record Put (xs : List ℕ) (at : ℕ) (bytes : List ℕ) (r : ℕ) (ys : List ℕ) : Type 0 where
  pub ends : r ≡ at + length bytes
  pub list : ys ≡ take at xs ++ bytes ++ drop r xs

-- and they took no more room than this
pub record Laid (room : ℕ) (xs : List ℕ) (at : ℕ) (bytes : List ℕ) (r : ℕ) (ys : List ℕ) : Type 0 where
  pub within : r ≤ at + room
  pub put : Put xs at bytes r ys
