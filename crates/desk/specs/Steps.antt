-- What the steps within a piece have to do: one request, and all of them.
use Rattle.std.specs.Prelude.{ℕ, suc, ◌+◌, ◌≡◌, Bool, true, false, cond, List, []}
use Rattle.request.specs.Bytes.{◌#◌}
use Rattle.request.specs.Kinds.{body_length}
use Rattle.request.specs.Reading.{frame_of}
use Rattle.request.specs.Framing.{by_frame}
use Rattle.request.specs.declared.Request.{Request}
use Rattle.records.specs.House.{House}
use Rattle.records.specs.declared.Rule.{Rule}
use Rattle.effects.specs.declared.Change.{Change}
use Rattle.history.specs.Machine.{Desk, step}
use Rattle.history.specs.Desk.{desk_rules}
use Rattle.history.specs.declared.Answer.TheVariants.{Refused}
use Rattle.reasons.specs.Reasons.{bare}
use Rattle.desk.specs.Lines.{line_of, Put}
use Rattle.desk.specs.Answers.{reason_for}
use Rattle.desk.specs.Turns.{Done}
use Rattle.desk.specs.declared.answers.Progress.{Progress}

abbrev pub so_far : ℕ → ℕ → ℕ → Bool → Progress
so_far ordinal used text onward = record { ordinal = ordinal; used = used; text = text; onward = onward }

abbrev pub done : Desk House Change → ℕ → ℕ → List ℕ → Bool → Done
done d k used text onward = record { desk = d; ordinal = k; used = used; text = text; onward = onward }

-- the first request of the bytes b, of which there is one at least
abbrev pub one_of : Rule → Bool → Bool → Desk House Change → ℕ → List ℕ → Done
one_of rule why ended d k b =
    by_frame (frame_of b) (done d (k + 1) 0 (line_of why k (b # 0) (Refused 1) (bare 1)) false)
    (cond ended (done d (k + 1) 0 (line_of why k (b # 0) (Refused 2) (bare 2)) false) (done d k 0 [] true))
    (λ (q : Request). done (step (desk_rules rule) d q).desk (k + 1) (suc (body_length (b # 0))) (line_of why k (b # 0) (step (desk_rules rule) d q).answer (reason_for rule d q)) true)

-- as the program returns it: the lines stand behind the first `at` bytes of the buffer
pub record Made (x : Done) (before : List ℕ) (at : ℕ) (d : Desk House Change) (r : Progress) (after : List ℕ) : Type 0 where
  pub desk : d ≡ x.desk
  pub ordinal : r.ordinal ≡ x.ordinal
  pub used : r.used ≡ x.used
  pub put : Put before at x.text r.text after
  pub onward : r.onward ≡ x.onward
