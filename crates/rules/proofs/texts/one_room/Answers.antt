-- `one_room` meets its contract: 1..17 are the room numbers.
use Prim.Native.Nat.{ℕ}
use mathlib.Core.Path.{refl}
use lib.Dec.{eqb}
use Rattle.std.proofs.Common.{rules, tests}
use Rattle.std.proofs.lemmas.Iterator.{YieldsList-from_range}
use Rattle.std.proofs.lemmas.Iterator.Search.{any_from_yields_List}
use Rattle.records.specs.Places.{only}
use Rattle.rules.proofs.texts.one_room.Goals as goal

pub returns : goal.returns
returns c = any_from_yields_List (λ (room : ℕ). eqb c.args.places (only room)) _ _ _ c.any.ensures.ran (YieldsList-from_range 1 17 16 refl refl) (λ room b k e. search (rules, tests))
