-- Draft numbers. 01: "Opening a desk takes the last draft number already used, 0..4,294,967,295; the next one issued is one more."
use Rattle.std.specs.Prelude.{cond, ℕ, ◌+◌, eqb, Option, Some, None}

-- the largest number that there is
abbrev pub top : ℕ
top = 4294967295

-- what is handed out after the last number
abbrev pub next_after : ℕ → Option ℕ
next_after last = cond (eqb last top) None (Some (last + 1))

-- the last number then; where the numbers are spent it stays
abbrev pub last_after : ℕ → ℕ
last_after last = cond (eqb last top) last (last + 1)
