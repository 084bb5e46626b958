-- `all_led` meets its contract: 1..17 are the room numbers.
use mathlib.Core.Path.{refl}
use Rattle.std.proofs.Common.{rules, tests}
use Rattle.std.proofs.lemmas.Iterator.{YieldsList-from_range}
use Rattle.std.proofs.lemmas.Iterator.Search.{all_from_yields_List}
use Rattle.records.specs.House.{view}
use Rattle.rules.specs.Rules.{is_led}
use Rattle.rules.proofs.people.all_led.Goals as goal

pub returns : goal.returns
returns c = all_from_yields_List (is_led (view c.args.records.now)) _ _ _ c.all.ensures.ran (YieldsList-from_range 1 17 16 refl refl) (λ room b k e. search (rules, tests))
