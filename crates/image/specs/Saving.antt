-- What saving answers and leaves in a lent buffer. 02, L2: "14 buffer too small (it stays untouched)".
use Rattle.std.specs.Prelude.{ℕ, cond, List, ◌++◌, leb, length, drop, Result, Ok, Err}
use Rattle.image.specs.declared.TooSmall.{TooSmall}

-- the refusal, and its number
abbrev pub too_small : TooSmall
too_small = record {}

abbrev pub too_small_number : ℕ
too_small_number = 14

-- how many bytes were written
abbrev pub saved_answer : List ℕ → List ℕ → Result ℕ TooSmall
saved_answer image out = cond (leb (length image) (length out)) (Ok (length image)) (Err too_small)

-- the image from the buffer's start; what stands behind it stays
abbrev pub saved_buffer : List ℕ → List ℕ → List ℕ
saved_buffer image out = cond (leb (length image) (length out)) (image ++ drop (length image) out) out
