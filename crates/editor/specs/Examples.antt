-- The examples P1 to P12 of 01, section "Both sides of each line", one a row: the question, then the answer.
use Rattle.std.specs.Prelude.{List, [], ◌∷◌, ℕ}
use Rattle.editor.specs.Answers.{dominance_answer, join_answer, body_length_answer}

pub data Question : Type 0 where
  join_of : ℕ → ℕ → Question
  dominance : ℕ → ℕ → Question
  body_of : ℕ → Question

abbrev pub answer : Question → ℕ
answer (join_of a b) = join_answer a b
answer (dominance a b) = dominance_answer a b
answer (body_of kind) = body_length_answer kind

infix 60 ◌gives◌
pub data Example : Type 0 where
  ◌gives◌ : Question → ℕ → Example

-- "joins P1 .. P5", "Dominance P6 .. P10", "P11 body of 09 is 8; P12 kind 17 is 255"
abbrev pub examples : List Example
examples =
    (join_of 0x0002_0001 0x0001_0002 gives 0x0002_0003)  -- P1
    ∷ (join_of 0x0102_0001 0x0202_0001 gives 0xFF00_0000)  -- P2
    ∷ (join_of 0xFE00_0000 0x0307_0000 gives 0x0307_0000)  -- P3
    ∷ (join_of 0xFE00_0000 0xFE00_0000 gives 0xFE00_0000)  -- P4
    ∷ (join_of 0x1100_0000 0x0000_0000 gives 0xC300_0000)  -- P5
    ∷ (dominance 0x0002_0003 0x0002_0001 gives 1)  -- P6
    ∷ (dominance 0x0002_0001 0x0002_0002 gives 0)  -- P7
    ∷ (dominance 0x0102_0001 0x0002_0001 gives 0)  -- P8
    ∷ (dominance 0xFF00_0000 0xFE00_0000 gives 1)  -- P9
    ∷ (dominance 0x0008_0000 0x0000_0000 gives 3)  -- P10
    ∷ (body_of 0x09 gives 8)  -- P11
    ∷ (body_of 0x17 gives 255)  -- P12
    ∷ []

-- what the definitions answer, row by row, and what the table says
abbrev pub answers : List Example → List ℕ
answers [] = []
answers ((question gives expected) ∷ rows) = answer question ∷ answers rows

abbrev pub expectations : List Example → List ℕ
expectations [] = []
expectations ((question gives expected) ∷ rows) = expected ∷ expectations rows
