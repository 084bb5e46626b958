-- Bytes and the numbers they spell. 01: "Numbers are big-endian".
use Rattle.std.specs.Prelude.{ℕ, ◌+◌, ◌*◌, ◌/◌, ◌%◌, ◌<◌, List, ◌∷◌, get_or}

-- byte i, the first being byte 0; past the end there is 0
infixl 90 ◌#◌
abbrev pub ◌#◌ : List ℕ → ℕ → ℕ
b # i = get_or b i 0

-- each is a byte, as it is in every slice of bytes
abbrev pub Bytes : List ℕ → Type 0
Bytes b = (i : ℕ) → b # i < 256

-- the number of two bytes, and of four, the most significant first
abbrev pub pair : ℕ → ℕ → ℕ
pair high low = high * 256 + low

abbrev pub quad : ℕ → ℕ → ℕ → ℕ → ℕ
quad a b c d = a * 16777216 + b * 65536 + c * 256 + d

-- the number that starts at byte i
abbrev pub pair_at : List ℕ → ℕ → ℕ
pair_at b i = pair (b # i) (b # (i + 1))

abbrev pub quad_at : List ℕ → ℕ → ℕ
quad_at b i = quad (b # i) (b # (i + 1)) (b # (i + 2)) (b # (i + 3))

-- the bytes of a number below 2 ^ 16, and of one below 2 ^ 32, in front of others
abbrev pub pair_bytes : ℕ → List ℕ → List ℕ
pair_bytes n more = n / 256 ∷ n % 256 ∷ more

abbrev pub quad_bytes : ℕ → List ℕ → List ℕ
quad_bytes n more = n / 16777216 ∷ n / 65536 % 256 ∷ n / 256 % 256 ∷ n % 256 ∷ more
