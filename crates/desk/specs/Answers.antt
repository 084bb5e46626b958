-- The answers to an input, one after the other, each with the kind that it answers and its reason.
use Rattle.std.specs.Prelude.{ℕ, Bool, true, cond, List, [], ◌∷◌, ◌++◌, length}
use Rattle.request.specs.Framing.{End, no_bytes, unknown_kind, cut_body, Series, series_of, kind_of}
use Rattle.request.specs.declared.Request.{Request}
use Rattle.records.specs.House.{House}
use Rattle.records.specs.declared.Rule.{Rule}
use Rattle.effects.specs.declared.Change.{Change}
use Rattle.history.specs.Machine.{Desk, step}
use Rattle.history.specs.Desk.{desk_rules}
use Rattle.history.specs.declared.Answer.{Answer}
use Rattle.history.specs.declared.Answer.TheVariants.{Refused}
use Rattle.reasons.specs.Reasons.{bare}
use Rattle.reasons.specs.declared.Reason.{Reason}
use Rattle.why.specs.Why.{reason_of}

pub record Given : Type 0 where
  pub kind : ℕ
  pub answer : Answer
  pub reason : Reason

abbrev pub reply : ℕ → Answer → Reason → Given
reply kind answer reason = record { kind = kind; answer = answer; reason = reason }

-- the reason of a request is that of the desk as it stands before the request
abbrev pub reason_for : Rule → Desk House Change → Request → Reason
reason_for rule d q = reason_of rule d.current d.last (length d.log) q

-- the answers of the desk d to requests, each with its request's kind
abbrev pub replies : Rule → Desk House Change → List Request → List Given
replies rule d [] = []
replies rule d (q ∷ qs) = reply (kind_of q) (step (desk_rules rule) d q).answer (reason_for rule d q) ∷ replies rule (step (desk_rules rule) d q).desk qs

-- "unknown kind or cut body", where no whole request stands; a request is cut only if the input has ended, until then it waits. No record decides there
abbrev pub at_end : Bool → End → List Given
at_end ended no_bytes = []
at_end ended (unknown_kind kind) = reply kind (Refused 1) (bare 1) ∷ []
at_end ended (cut_body kind) = cond ended (reply kind (Refused 2) (bare 2) ∷ []) []

-- the answers of the desk d to a series
abbrev pub given_to : Rule → Bool → Desk House Change → Series → List Given
given_to rule ended d s = replies rule d s.requests ++ at_end ended s.end

-- and to a whole input
abbrev pub given : Rule → Desk House Change → List ℕ → List Given
given rule d input = given_to rule true d (series_of input)

-- without the kinds and reasons
abbrev pub answers_in : List Given → List Answer
answers_in [] = []
answers_in (g ∷ gs) = g.answer ∷ answers_in gs
