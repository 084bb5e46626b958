-- What the caption editor is answered. 01: "The caption editor, written in C, calls three things: dominance (1 yes, 0 no, 3 bad label), join (C3000000 for a bad
-- label) and body length (255 for an unknown kind)."
use Rattle.std.specs.Prelude.{cond, ℕ, Option, Some, None}
use Rattle.label.specs.declared.Label.{Label}
use Rattle.label.specs.Labels.{nothing, dominates, join, pack, unpack}
use Rattle.request.specs.Kinds.{body_length}

-- what is asked of two good labels, and `bad` where either is a bad label
abbrev pub of_good : ℕ → (Label → Label → ℕ) → Option Label → Option Label → ℕ
of_good bad ask (Some x) (Some y) = ask x y
of_good bad ask (Some x) None = bad
of_good bad ask None y = bad

-- "dominance (1 yes, 0 no, 3 bad label)"
abbrev pub dominance_answer : ℕ → ℕ → ℕ
dominance_answer a b = of_good 3 (λ x y. cond (nothing (dominates x y)) 1 0) (unpack a) (unpack b)

-- "join (C3000000 for a bad label)"
abbrev pub bad_join : ℕ
bad_join = 0xC300_0000

abbrev pub join_answer : ℕ → ℕ → ℕ
join_answer a b = of_good bad_join (λ x y. pack (join x y)) (unpack a) (unpack b)

-- "body length (255 for an unknown kind)"
abbrev pub body_length_answer : ℕ → ℕ
body_length_answer kind = body_length kind
