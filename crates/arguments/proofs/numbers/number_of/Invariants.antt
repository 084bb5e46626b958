-- `number_of` meets its contract: at each turn the word is the number whose digits were read, behind which the rest of them stands.
use Prim.Native.Nat.{◌^◌, ◌<◌}
use mathlib.Core.Path.{◌≡◌}
use lib.ListN.{drop}
use Rattle.arguments.specs.Numbers.{number_of}
use Rattle.arguments.proofs.Digits.{number_from}
use Rattle.arguments.proofs.numbers.number_of.Given as goal

abbrev pub invariant-loop-byte : goal.invariant-loop-byte
invariant-loop-byte l =
    (l.value < 2 ^ 32) × (number_from l.value (drop l.byte-index l.word) ≡ number_of l.word)
