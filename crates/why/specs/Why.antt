-- The reason of a request's answer. 02, L7: "For a request and the present desk, give the reason of its answer".
use Rattle.std.specs.Prelude.{ℕ, List, [], ◌∷◌, ◌++◌, Result, Ok, Err}
use Rattle.request.specs.Reading.{frame_of}
use Rattle.request.specs.Framing.{by_frame}
use Rattle.request.specs.declared.Request.{Request}
use Rattle.records.specs.House.{House}
use Rattle.records.specs.declared.Rule.{Rule}
use Rattle.reasons.specs.Reasons.{bare}
use Rattle.reasons.specs.Asking.{Line, asked, told}
use Rattle.reasons.specs.Lines.{number_left, change_left}
use Rattle.reasons.specs.declared.Reason.{Reason}
use Rattle.judge.specs.declared.Grant.{Grant}
use Rattle.judge.specs.declared.Grant.TheVariants.{Pass, Keep, KeepNumbered, TakeBack}
use Rattle.judge.specs.Kinds.{lines_of, grant_of}

-- what is asked after the judge, by what the kind is granted: a number for a draft, a kept change to take back
abbrev pub after_lines : Grant → ℕ → ℕ → List Line
after_lines Pass last kept = []
after_lines Keep last kept = []
after_lines KeepNumbered last kept = number_left last ∷ []
after_lines TakeBack last kept = change_left kept ∷ []

-- all that a desk under the rule asks of a request, in order: its records, the last number issued, how many changes are kept
abbrev pub desk_lines : Rule → House → ℕ → ℕ → Request → List Line
desk_lines rule h last kept q = lines_of rule h q ++ after_lines (grant_of q) last kept

-- the reason of the first that fails, and all zeros where all hold
unfoldable pub reason_of : Rule → House → ℕ → ℕ → Request → Reason
reason_of rule h last kept q = told (asked (desk_lines rule h last kept q))

-- the same by the judge's ruling: a refusal has its reason, and a grant that of what is asked after it
abbrev pub reason_after : Result Grant Reason → ℕ → ℕ → Reason
reason_after (Ok g) last kept = told (asked (after_lines g last kept))
reason_after (Err r) last kept = r

-- "for other bytes gives 1 or 2 and zeros"; no bytes are a cut request
abbrev pub reason_of_bytes : Rule → House → ℕ → ℕ → List ℕ → Reason
reason_of_bytes rule h last kept b = by_frame (frame_of b) (bare 1) (bare 2) (λ (q : Request). reason_of rule h last kept q)
