-- A number once seen never names another text: where a draft was made.
use Rattle.std.specs.Prelude.{ℕ, ◌<◌, ◌≡◌, List, length, get_or, take}
use Rattle.request.specs.declared.Request.{Request}
use Rattle.request.specs.declared.Request.TheVariants.{Import, Update, Create, TakeBack}
use Rattle.records.specs.House.{House, draft_at}
use Rattle.records.specs.declared.Draft.{Draft}
use Rattle.records.specs.declared.Rule.{Rule}
use Rattle.history.specs.declared.Answer.{Answer}
use Rattle.history.specs.declared.Answer.TheVariants.{Numbered, Refused}
use Rattle.promises.specs.Events.{reached_desk, answers_from}

-- the request makes a draft of script s: "granted with a draft number (09, 14, 15)"
pub data Makes (q : Request) (s : ℕ) : Type 0 where
  by_import : (u s₁ v room : ℕ) → q ≡ Import u s₁ v s room → Makes q s
  by_update : (x v : ℕ) → q ≡ Update x s v → Makes q s
  by_create : (x : ℕ) → q ≡ Create x s → Makes q s

-- the request at place i of a run, counted from 0, and its answer; past the end none that makes or gets a number
abbrev pub request_no : List Request → ℕ → Request
request_no qs i = get_or qs i (TakeBack 0)

abbrev pub answer_at : List Answer → ℕ → Answer
answer_at given i = get_or given i (Refused 0)

-- ---- a run from the records h and the last number that the desk opened with
-- the records after its first k requests
abbrev pub moment : Rule → House → ℕ → List Request → ℕ → House
moment rule h last qs k = (reached_desk rule h last (take k qs)).current

-- the desk opened with a draft of number v and script s
pub record OpenedWith (h : House) (v s : ℕ) : Type 0 where
  pub place : ℕ
  pub live : place < length h.drafts
  pub has_number : (draft_at h place).number ≡ v
  pub of_script : (draft_at h place).script ≡ s

-- request i of the run was answered with number v, and makes a draft of script s
pub record MadeAt (rule : Rule) (h : House) (last : ℕ) (qs : List Request) (v s i : ℕ) : Type 0 where
  pub answered : answer_at (answers_from rule h last qs) i ≡ Numbered v
  pub for_script : Makes (request_no qs i) s

-- where a draft was made: before the desk opened, or by the request i of the run
pub data Making : Type 0 where
  before_opening : Making
  by_request : ℕ → Making

-- the draft of number v and script s was made there
abbrev pub MadeIn : Rule → House → ℕ → List Request → ℕ → ℕ → Making → Type 0
MadeIn rule h last qs v s before_opening = OpenedWith h v s
MadeIn rule h last qs v s (by_request i) = MadeAt rule h last qs v s i

-- and so before the desk had taken k requests
abbrev pub Before : ℕ → Making → Type 0
Before k before_opening = Unit {0}
Before k (by_request i) = i < k

-- a draft live after the first k requests: the desk opened with it, or one of them made it; no other request of the run is answered with its number
pub record MadeBefore (rule : Rule) (h : House) (last : ℕ) (qs : List Request) (k : ℕ) (d : Draft) : Type 0 where
  pub making : Making
  pub before : Before k making
  pub made : MadeIn rule h last qs d.number d.script making
  pub alone : (j : ℕ) → answer_at (answers_from rule h last qs) j ≡ Numbered d.number → by_request j ≡ making

-- two drafts are of the same script and the same making: the desk opened with both, or the same request made them
pub record SameText (rule : Rule) (h : House) (last : ℕ) (qs : List Request) (c d : Draft) : Type 0 where
  pub making : Making
  pub one : MadeIn rule h last qs c.number c.script making
  pub other : MadeIn rule h last qs d.number d.script making
  pub same_script : c.script ≡ d.script
