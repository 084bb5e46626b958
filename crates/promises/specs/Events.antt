-- A run of requests from an opening, and what a request and its answer show to have happened. 01: "Kept changes: every granted request but Read and Take
-- back."
use Rattle.std.specs.Prelude.{ℕ, List}
use Rattle.request.specs.declared.Request.{Request}
use Rattle.effects.specs.declared.Change.{Change}
use Rattle.judge.specs.Kinds.{grant_of}
use Rattle.judge.specs.declared.Grant.{Grant}
use Rattle.judge.specs.declared.Grant.TheVariants.{Pass, Keep, KeepNumbered, TakeBack}
use Rattle.records.specs.House.{House}
use Rattle.records.specs.declared.Rule.{Rule}
use Rattle.history.specs.Machine.{Desk, opened, run, answers}
use Rattle.effects.specs.Effects.{change_of}
use Rattle.history.specs.Desk.{desk_rules}
use Rattle.history.specs.declared.Answer.{Answer}
use Rattle.promises.specs.Book.{Event, kept, back, nothing, events, kept_count}

-- a plain grant, by what the kind is granted
abbrev pub grant_shows : Request → Grant → Event Change
grant_shows q Keep = kept (change_of q 0)
grant_shows q TakeBack = back
grant_shows q Pass = nothing
grant_shows q KeepNumbered = nothing

abbrev pub event_of : Request → Answer → Event Change
event_of q Answer.Granted = grant_shows q (grant_of q)
event_of q (Answer.Numbered n) = kept (change_of q n)
event_of q (Answer.Refused n) = nothing

-- ---- the requests qs from a desk opened under the rule with the records h and the last number `last`: the desk then, and the answers
abbrev pub reached_desk : Rule → House → ℕ → List Request → Desk House Change
reached_desk rule h last qs = run (desk_rules rule) (opened h last) qs

abbrev pub answers_from : Rule → House → ℕ → List Request → List Answer
answers_from rule h last qs = answers (desk_rules rule) (opened h last) qs

-- the kept count by 01's rule, read off requests and answers
abbrev pub kept_now : Rule → House → ℕ → List Request → ℕ
kept_now rule h last qs = kept_count 0 (events event_of qs (answers_from rule h last qs))
