-- Over two calls: the parts stay lent, and the second goes by the rule that the first was under.
use mathlib.Core.Path.{◌≡◌, ap, ◌∙◌}
use Rattle.request.specs.declared.Request.{Request}
use Rattle.records.specs.House.{House}
use Rattle.records.specs.declared.Rule.{Rule}
use Rattle.effects.specs.declared.Change.{Change}
use Rattle.history.specs.Machine.{Desk, Outcome, step}
use Rattle.history.specs.Desk.{desk_rules}
use Rattle.history.specs.Lent.{SameParts}
use Rattle.history.specs.declared.LentDesk.{LentDesk}

pub same_on : {d d' d'' : LentDesk} → SameParts d d' → SameParts d' d'' → SameParts d d''
same_on p q =
    let b = p.places in
    let c = q.places in
    record {
      places = record { base = c.base ∙ b.base; log = c.log ∙ b.log; current = c.current ∙ b.current; last = c.last ∙ b.last };
      rule = q.rule ∙ p.rule;
    }

pub by_same_rule : (s : Desk House Change) (q : Request) {d d' : LentDesk} {o : Outcome House Change} → SameParts d d'
    → o ≡ step (desk_rules d'.rule) s q → o ≡ step (desk_rules d.rule) s q
by_same_rule s q p e = e ∙ ap (λ (r : Rule). step (desk_rules r) s q) p.rule
