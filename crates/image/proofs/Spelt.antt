-- The bytes of a number of four bytes.
use Prim.Native.Nat.{ℕ, ◌<◌, ◌/◌, ◌%◌}
use mathlib.Core.Path.{◌≡◌}
use native.Mathlib.Omega.{arith}

pub high_byte : (n : ℕ) → n < 4294967296 → n / 16777216 % 256 ≡ n / 16777216
high_byte n h = omega arith
