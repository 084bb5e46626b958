-- `make` meets its contract: the three parts, put together.
use Rattle.records.specs.House.{view}
use Rattle.effects.specs.Effects.{change_of}
use Rattle.kept.specs.Log.{past}
use Rattle.history.proofs.Laws.{kept_is}
use Rattle.history.proofs.LentDesk.make.Goals as goal

pub returns-clause-done : goal.returns-clause-done
returns-clause-done c =
    let a = c.args in
    let d = c.args.self.now in
    λ rule. kept_is rule (view d.base.now) _ (past d.log.now) _ (view d.current.now) _ (change_of a.request a.number) d.last.now d.last.now c.settle.ensures c.push.ensures c.apply.ensures
