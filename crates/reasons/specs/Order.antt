-- The order of refusals. 01: "The lowest n that applies is given"; 02, L1: "16 takes its place directly after 9". So the lowest is the first in this order.
use Rattle.std.specs.Prelude.{ℕ, suc, Bool, true, cond, ◌&&◌, List, [], ◌∷◌, eqb, leb}
use Rattle.records.specs.Lists.{any}

-- those of a whole request: 1 and 2 are given before it is one
abbrev pub order : List ℕ
order = 3 ∷ 4 ∷ 5 ∷ 6 ∷ 7 ∷ 8 ∷ 9 ∷ 16 ∷ 10 ∷ 11 ∷ 12 ∷ []

abbrev pub is_refusal : ℕ → Bool
is_refusal n = any (eqb n) order

-- how many stand before n
abbrev pub before : ℕ → List ℕ → ℕ
before n [] = 0
before n (m ∷ ms) = cond (eqb n m) 0 (suc (before n ms))

abbrev pub rank : ℕ → ℕ
rank n = before n order

-- each is a refusal, and none stands before the one that it follows; before the first stand i at least
abbrev pub ascend_from : ℕ → List ℕ → Bool
ascend_from i [] = true
ascend_from i (n ∷ ns) = is_refusal n && leb i (rank n) && ascend_from (rank n) ns
