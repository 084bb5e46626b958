-- A desk that is lent: what its parts show, and that a call leaves them in their places.
use Rattle.std.specs.Prelude.{◌≡◌}
use Rattle.records.specs.House.{House}
use Rattle.effects.specs.declared.Change.{Change}
use Rattle.history.specs.Machine.{Desk}
use Rattle.history.specs.Desk.{shown}
use Rattle.history.specs.declared.LentDesk.{LentDesk}

abbrev pub lent : LentDesk → Desk House Change
lent d = shown d.base.now d.log.now d.current.now d.last.now

-- the same parts are lent: so whoever lent them finds there what the desk shows
pub record SamePlaces (d d' : LentDesk) : Type 0 where
  pub base : d'.base.ghost_name ≡ d.base.ghost_name
  pub log : d'.log.ghost_name ≡ d.log.ghost_name
  pub current : d'.current.ghost_name ≡ d.current.ghost_name
  pub last : d'.last.ghost_name ≡ d.last.ghost_name

-- and the desk stays under its rule
pub record SameParts (d d' : LentDesk) : Type 0 where
  pub places : SamePlaces d d'
  pub rule : d'.rule ≡ d.rule
