-- What all the words lead to: a wrong one is wrong for good, any word is a name, and some lists of words worked out.
use mathlib.Core.Path.{◌≡◌, refl, ap}
use mathlib.Core.Bool.{Bool, true, false, not, ◌&&◌, ◌||◌}
use mathlib.Core.List.{List, [], ◌∷◌}
use Prim.Native.Nat.{ℕ, ◌+◌}
use Rattle.std.specs.Prelude.{Option, Some, None, is_some, is_none}
use Rattle.arguments.specs.Numbers.{number_of}
use Rattle.arguments.specs.Arguments.{why_word, last_word, rule_word, from_word, save_word, named, asks, taken, take_word, take_from, take_all, value_wanted, wrong, rule_number}
use Rattle.arguments.specs.declared.Next.{Next}
use Rattle.arguments.specs.declared.Next.TheVariants as next
use Rattle.arguments.specs.declared.Word.{Word}
use Rattle.arguments.specs.declared.Word.TheVariants as word
use Rattle.arguments.specs.declared.Arguments.{Arguments}

-- ---- a wrong word stays wrong whatever follows
or_true : (s t : Bool) → s ≡ true → s || t ≡ true
or_true s t e = ap (λ (x : Bool). x || t) e

asks_wrong : (a : Arguments) (w : Option Word) → a.usage ≡ true → (asks a w).usage ≡ true
asks_wrong a (Some word.Why) e = or_true a.usage a.why e
asks_wrong a (Some word.Last) e = or_true a.usage (is_some a.last) e
asks_wrong a (Some word.Rule) e = or_true a.usage (is_some a.rule) e
asks_wrong a (Some word.From) e = or_true a.usage (is_some a.from) e
asks_wrong a (Some word.Save) e = or_true a.usage (is_some a.save) e
asks_wrong a None e = refl

taken_wrong : (n : Next) (a : Arguments) (k : ℕ) (w : List ℕ) → a.usage ≡ true → (taken n a k w).usage ≡ true
taken_wrong next.Argument a k w e = asks_wrong a (named w) e
taken_wrong next.Last a k w e = or_true a.usage (is_none (number_of w)) e
taken_wrong next.Rule a k w e = or_true a.usage (is_none (number_of w)) e
taken_wrong next.From a k w e = e
taken_wrong next.Save a k w e = e

usage_stays : (ws : List (List ℕ)) (k : ℕ) (a : Arguments) → a.usage ≡ true → (take_from k a ws).usage ≡ true
usage_stays [] k a e = e
usage_stays (w ∷ ws) k a e = usage_stays ws (k + 1) (take_word a k w) (taken_wrong a.next a k w e)

pub wrong_stays : (ws : List (List ℕ)) (k : ℕ) (a : Arguments) → a.usage ≡ true → wrong (take_from k a ws) ≡ true
wrong_stays ws k a e =
    let b : Arguments = take_from k a ws in
    or_true (b.usage || value_wanted b.next) ((is_some b.last || is_some b.rule) && is_some b.from) (or_true b.usage (value_wanted b.next) (usage_stays ws k a e))

-- ---- any word is a name, and only its place is kept
from_any : (w : List ℕ) → take_all (from_word ∷ w ∷ []) ≡ record { usage = false; next = next.Argument; why = false; last = None; rule = None; from = Some 2; save = None }
from_any w = refl

save_any : (w : List ℕ) → take_all (why_word ∷ save_word ∷ w ∷ []) ≡ record { usage = false; next = next.Argument; why = true; last = None; rule = None; from = None; save = Some 3 }
save_any w = refl

-- ---- any word behind `--rule` is its value: it must be a number, and any number is taken, also one that no rule has; without it the rule is 1
rule_any : (w : List ℕ) → take_all (rule_word ∷ w ∷ []) ≡ record { usage = is_none (number_of w); next = next.Argument; why = false; last = None; rule = number_of w; from = None; save = None }
rule_any w = refl

rule_taken : (w : List ℕ) (n : ℕ) → number_of w ≡ Some n → take_all (rule_word ∷ w ∷ []) ≡ record { usage = false; next = next.Argument; why = false; last = None; rule = Some n; from = None; save = None }
rule_taken w n e = ap (λ (r : Option ℕ). record { usage = is_none r; next = next.Argument; why = false; last = None; rule = r; from = None; save = None }) e

rule_not_wrong : (w : List ℕ) (n : ℕ) → number_of w ≡ Some n → wrong (take_all (rule_word ∷ w ∷ [])) ≡ false
rule_not_wrong w n e = ap (λ (a : Arguments). wrong a) (rule_taken w n e)

rule_handed_on : (w : List ℕ) (n : ℕ) → number_of w ≡ Some n → rule_number (take_all (rule_word ∷ w ∷ [])) ≡ n
rule_handed_on w n e = ap (λ (a : Arguments). rule_number a) (rule_taken w n e)

rule_malformed : (w : List ℕ) (ws : List (List ℕ)) → number_of w ≡ None → wrong (take_all (rule_word ∷ w ∷ ws)) ≡ true
rule_malformed w ws e = wrong_stays ws 3 (take_all (rule_word ∷ w ∷ [])) (ap (λ (r : Option ℕ). is_none r) e)

no_rule : rule_number (take_all []) ≡ 1
no_rule = refl

-- ---- a second one of its kind, whatever stands behind it; `--last` or `--rule` with `--from`
save_twice : (v w : List ℕ) (ws : List (List ℕ)) → wrong (take_all (save_word ∷ v ∷ save_word ∷ w ∷ ws)) ≡ true
save_twice v w ws = wrong_stays (w ∷ ws) 4 (take_all (save_word ∷ v ∷ save_word ∷ [])) refl

from_twice : (v w : List ℕ) (ws : List (List ℕ)) → wrong (take_all (from_word ∷ v ∷ from_word ∷ w ∷ ws)) ≡ true
from_twice v w ws = wrong_stays (w ∷ ws) 4 (take_all (from_word ∷ v ∷ from_word ∷ [])) refl

last_twice : (w : List ℕ) (ws : List (List ℕ)) → wrong (take_all (last_word ∷ (55 ∷ []) ∷ last_word ∷ w ∷ ws)) ≡ true
last_twice w ws = wrong_stays (w ∷ ws) 4 (take_all (last_word ∷ (55 ∷ []) ∷ last_word ∷ [])) refl

not_or : (t : Bool) → not t || t ≡ true
not_or true = refl
not_or false = refl

rule_twice : (v w : List ℕ) (ws : List (List ℕ)) → wrong (take_all (rule_word ∷ v ∷ rule_word ∷ w ∷ ws)) ≡ true
rule_twice v w ws = wrong_stays (w ∷ ws) 4 (take_all (rule_word ∷ v ∷ rule_word ∷ [])) (not_or (is_some (number_of v)))

why_twice : (ws : List (List ℕ)) → wrong (take_all (why_word ∷ why_word ∷ ws)) ≡ true
why_twice ws = wrong_stays ws 3 (take_all (why_word ∷ why_word ∷ [])) refl

last_and_from : (w : List ℕ) → wrong (take_all (last_word ∷ (55 ∷ []) ∷ from_word ∷ w ∷ [])) ≡ true
last_and_from w = refl

from_and_last : (w : List ℕ) → wrong (take_all (from_word ∷ w ∷ last_word ∷ (55 ∷ []) ∷ [])) ≡ true
from_and_last w = refl

-- the value of `--rule` is no number, or the two are together
rule_and_from : (v w : List ℕ) → wrong (take_all (rule_word ∷ v ∷ from_word ∷ w ∷ [])) ≡ true
rule_and_from v w = go (is_some (number_of v))
  where
    go : (t : Bool) → not t || false || false || t && true ≡ true
    go true = refl
    go false = refl

from_and_rule : (v w : List ℕ) → wrong (take_all (from_word ∷ w ∷ rule_word ∷ v ∷ [])) ≡ true
from_and_rule v w = go (is_some (number_of v))
  where
    go : (t : Bool) → not t || false || t && true ≡ true
    go true = refl
    go false = refl

-- ---- nothing; `--why`; `--last 7` with `--save` and with `--rule 2`, in either order
no_words : wrong (take_all []) ≡ false
no_words = refl

why_once : take_all (why_word ∷ []) ≡ record { usage = false; next = next.Argument; why = true; last = None; rule = None; from = None; save = None }
why_once = refl

last_save : (w : List ℕ) → take_all (last_word ∷ (55 ∷ []) ∷ save_word ∷ w ∷ []) ≡ record { usage = false; next = next.Argument; why = false; last = Some 7; rule = None; from = None; save = Some 4 }
last_save w = refl

save_last : (w : List ℕ) → take_all (save_word ∷ w ∷ last_word ∷ (55 ∷ []) ∷ []) ≡ record { usage = false; next = next.Argument; why = false; last = Some 7; rule = None; from = None; save = Some 2 }
save_last w = refl

last_rule : take_all (last_word ∷ (55 ∷ []) ∷ rule_word ∷ (50 ∷ []) ∷ []) ≡ record { usage = false; next = next.Argument; why = false; last = Some 7; rule = Some 2; from = None; save = None }
last_rule = refl

rule_last : take_all (rule_word ∷ (50 ∷ []) ∷ last_word ∷ (55 ∷ []) ∷ []) ≡ record { usage = false; next = next.Argument; why = false; last = Some 7; rule = Some 2; from = None; save = None }
rule_last = refl

-- ---- a value that is missing; an empty word; `--wh`
last_missing : wrong (take_all (last_word ∷ [])) ≡ true
last_missing = refl

rule_missing : wrong (take_all (rule_word ∷ [])) ≡ true
rule_missing = refl

save_missing : wrong (take_all (why_word ∷ save_word ∷ [])) ≡ true
save_missing = refl

empty_word : wrong (take_all ([] ∷ [])) ≡ true
empty_word = refl

cut_word : wrong (take_all ((45 ∷ 45 ∷ 119 ∷ 104 ∷ []) ∷ [])) ≡ true
cut_word = refl

-- ---- `4294967295`, also behind zeros, and `4294967296`; no digits; `+1`, `-0`, `1 `
abbrev largest : List ℕ
largest = 52 ∷ 50 ∷ 57 ∷ 52 ∷ 57 ∷ 54 ∷ 55 ∷ 50 ∷ 57 ∷ 53 ∷ []

largest_taken : number_of largest ≡ Some 4294967295
largest_taken = refl

zeros_in_front : number_of (48 ∷ 48 ∷ 48 ∷ largest) ≡ Some 4294967295
zeros_in_front = refl

one_more : number_of (52 ∷ 50 ∷ 57 ∷ 52 ∷ 57 ∷ 54 ∷ 55 ∷ 50 ∷ 57 ∷ 54 ∷ []) ≡ None
one_more = refl

no_digits : number_of [] ≡ None
no_digits = refl

plus : number_of (43 ∷ 49 ∷ []) ≡ None
plus = refl

minus : number_of (45 ∷ 48 ∷ []) ≡ None
minus = refl

space : number_of (49 ∷ 32 ∷ []) ≡ None
space = refl
