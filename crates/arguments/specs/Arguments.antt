-- What the words behind the program's name ask for: `desk [--last N | --from IMAGE] [--rule R] [--save IMAGE] [--why]`.
use Rattle.std.specs.Prelude.{ℕ, ◌+◌, Bool, true, false, ◌&&◌, ◌||◌, List, [], ◌∷◌, Option, Some, None, is_some, is_none, unwrap_or, codes, if◌then◌else◌, eqb}
use Rattle.std.specs.Str.{bytes_eq}
use Rattle.arguments.specs.Numbers.{number_of}
use Rattle.arguments.specs.declared.Next.{Next}
use Rattle.arguments.specs.declared.Next.TheVariants as next
use Rattle.arguments.specs.declared.Word.{Word}
use Rattle.arguments.specs.declared.Word.TheVariants as word
use Rattle.arguments.specs.declared.Arguments.{Arguments}

abbrev pub why_word : List ℕ
why_word = codes "--why"

abbrev pub last_word : List ℕ
last_word = codes "--last"

abbrev pub rule_word : List ℕ
rule_word = codes "--rule"

abbrev pub from_word : List ℕ
from_word = codes "--from"

abbrev pub save_word : List ℕ
save_word = codes "--save"

abbrev pub named : List ℕ → Option Word
named w =
    if bytes_eq w why_word then Some word.Why
    else if bytes_eq w last_word then Some word.Last
    else if bytes_eq w rule_word then Some word.Rule
    else if bytes_eq w from_word then Some word.From
    else if bytes_eq w save_word then Some word.Save
    else None

abbrev pub none : Arguments
none = record { usage = false; next = next.Argument; why = false; last = None; rule = None; from = None; save = None }

-- an argument is asked for, with what the next word is: "Arguments come in any order, each at most once."
abbrev pub asked : Arguments → Bool → Bool → Next → Arguments
asked a twice why next = record { usage = a.usage || twice; next = next; why = why; last = a.last; rule = a.rule; from = a.from; save = a.save }

-- "Anything else (an unknown word, ..)"
abbrev pub unknown : Arguments → Arguments
unknown a = record { usage = true; next = a.next; why = a.why; last = a.last; rule = a.rule; from = a.from; save = a.save }

abbrev pub asks : Arguments → Option Word → Arguments
asks a (Some word.Why) = asked a a.why true a.next
asks a (Some word.Last) = asked a (is_some a.last) a.why next.Last
asks a (Some word.Rule) = asked a (is_some a.rule) a.why next.Rule
asks a (Some word.From) = asked a (is_some a.from) a.why next.From
asks a (Some word.Save) = asked a (is_some a.save) a.why next.Save
asks a None = unknown a

-- a value that is a number, for one of the two that have one: "a .. malformed value" is an error
abbrev pub numbered : Arguments → List ℕ → Option ℕ → Option ℕ → Arguments
numbered a w last rule =
    record { usage = a.usage || is_none (number_of w); next = next.Argument; why = a.why; last = last; rule = rule; from = a.from; save = a.save }

-- a value that is a file's name, for one of the two that have one: its place is kept
abbrev pub filed : Arguments → Option ℕ → Option ℕ → Arguments
filed a from save = record { usage = a.usage; next = next.Argument; why = a.why; last = a.last; rule = a.rule; from = from; save = save }

-- the words are counted from 1, so that at place 0 there is no name
abbrev pub place : ℕ → Option ℕ
place k = if eqb k 0 then None else Some k

-- "The word behind `--last`, `--from`, `--save`, `--rule` is its value, whatever it looks like": a number, or the place k of the word itself
abbrev pub taken : Next → Arguments → ℕ → List ℕ → Arguments
taken next.Argument a k w = asks a (named w)
taken next.Last a k w = numbered a w (number_of w) a.rule
taken next.Rule a k w = numbered a w a.last (number_of w)
taken next.From a k w = filed a (place k) a.save
taken next.Save a k w = filed a a.from (place k)

abbrev pub take_word : Arguments → ℕ → List ℕ → Arguments
take_word a k w = taken a.next a k w

-- all words, with the first of these at place k; the first of all is at 1
abbrev pub take_from : ℕ → Arguments → List (List ℕ) → Arguments
take_from k a [] = a
take_from k a (w ∷ ws) = take_from (k + 1) (take_word a k w) ws

abbrev pub take_all : List (List ℕ) → Arguments
take_all ws = take_from 1 none ws

abbrev pub value_wanted : Next → Bool
value_wanted next.Argument = false
value_wanted next.Last = true
value_wanted next.Rule = true
value_wanted next.From = true
value_wanted next.Save = true

-- "Anything else (an unknown word, a missing or malformed value, `--last` or `--rule` with `--from`; this comes before everything else) prints one line that begins
-- `desk: usage:` on standard error, and nothing is read, judged or saved."
abbrev pub wrong : Arguments → Bool
wrong a = a.usage || value_wanted a.next || (is_some a.last || is_some a.rule) && is_some a.from

-- "opens with the last number already used N"; without arguments "opens with 0"
abbrev pub last_number : Arguments → ℕ
last_number a = unwrap_or a.last 0

-- the number behind `--rule`, whether a rule has it or not; without the argument 1: "our own desk stays with that"
abbrev pub rule_number : Arguments → ℕ
rule_number a = unwrap_or a.rule 1
