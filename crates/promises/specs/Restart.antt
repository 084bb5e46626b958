-- A desk saved and opened again. 02, L2: "We restart the machine on Sundays"; "An opened image has a kept count of 0, and demand 3 then starts from the image."
use Rattle.std.specs.Prelude.{ℕ, ◌≡◌, List, ◌++◌, Ok}
use Rattle.request.specs.declared.Request.{Request}
use Rattle.history.specs.Machine.{opened, answers}
use Rattle.history.specs.Desk.{desk_rules}
use Rattle.history.specs.declared.Answer.{Answer}
use Rattle.batch.specs.Batch.{State}
use Rattle.image.specs.Image.{image_of}
use Rattle.opening.specs.Desks.{desk_by}
use Rattle.rules.specs.Lists.{Each}
use Rattle.promises.specs.Book.{numbers, Rising}
use Rattle.promises.specs.Back.{IsTakeBack}
use Rattle.records.specs.declared.Rule.{Rule}

-- the bytes that the desk d under the rule is saved as, the desk that they open, and its rule
abbrev pub saved_as : Rule → State → List ℕ
saved_as rule d = image_of d.current d.last rule

abbrev pub again : Rule → State → State
again rule d = (desk_by (saved_as rule d)).desk

abbrev pub rule_again : Rule → State → Rule
rule_again rule d = (desk_by (saved_as rule d)).rule

-- what is promised of the desk d, saved and opened again: `before` are the answers given since it opened with `last`
pub record Restarted (rule : Rule) (last : ℕ) (before : List Answer) (d : State) : Type 0 where
  -- what is written is accepted, and gives the same records, last number and rule; no change is kept
  pub accepted : (desk_by (saved_as rule d)).answer ≡ Ok tt
  pub as_saved : again rule d ≡ opened d.current d.last
  pub same_rule : rule_again rule d ≡ rule
  -- "a number once seen must never name another text": numbers go on rising across the restart
  pub rising : (qs : List Request) → Rising last (numbers (before ++ answers (desk_rules (rule_again rule d)) (again rule d) qs))
  -- requests without a take-back are answered as if there had been no restart
  pub as_in_one_piece : (qs : List Request) → Each (λ q. IsTakeBack q → ⊥) qs → answers (desk_rules (rule_again rule d)) (again rule d) qs ≡ answers (desk_rules rule) d qs
