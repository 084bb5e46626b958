-- What the desk has to do, in the user's words: a book of every granted change since the opening that was not taken back, the kept count by 01's rule, and
-- the last number.
use Rattle.std.specs.Prelude.{cond, ◌≡◌, ℕ, ◌+◌, ◌-◌, ◌<◌, min, eqb, length, take, Option, Some, None}
use mathlib.Core.List.{List, [], ◌∷◌, ◌++◌, foldl}
use Rattle.counter.specs.Numbers.{next_after}
use Rattle.history.specs.declared.Answer.{Answer}
use Rattle.history.specs.declared.Answer.TheVariants.{Granted, Numbered, Refused}
use Rattle.history.specs.Machine.{Verdict, refuse, pass, make, issue, undo, Rulebook}

pub record Book (C : Type 0) : Type 0 where
  pub survivors : List C  -- every granted change that was not taken back, oldest first, each with the number that it received
  pub count : ℕ  -- the kept count
  pub last : ℕ  -- the last number issued

pub record Entry (C : Type 0) : Type 0 where
  pub book : Book C
  pub answer : Answer

abbrev pub entry : {C : Type 0} → Book C → Answer → Entry C
entry b a = record { book = b; answer = a }

abbrev pub blank : {C : Type 0} → ℕ → Book C
blank n = record { survivors = []; count = 0; last = n }

module _ {S C Q : Type 0} (R : Rulebook S C Q) where
  -- "The kept count .. rises by one with each such grant to at most 32"
  abbrev pub enter : Book C → C → ℕ → Book C
  enter b c n = record { survivors = b.survivors ++ (c ∷ []); count = min (b.count + 1) 32; last = n }

  -- "and falls by one with each granted Take back"; "Take-back removes the newest kept change"; the last number stays
  abbrev pub struck : Book C → Book C
  struck b = record { survivors = take (length b.survivors - 1) b.survivors; count = b.count - 1; last = b.last }

  abbrev pub strike : Book C → Entry C
  strike b = cond (eqb b.count 0) (entry b (Refused 12)) (entry (struck b) Granted)

  abbrev pub enter_numbered : Book C → (ℕ → C) → Option ℕ → Entry C
  enter_numbered b f (Some n) = entry (enter b (f n) n) (Numbered n)
  enter_numbered b f None = entry b (Refused 11)

  abbrev pub noted : Book C → Verdict C → Entry C
  noted b (refuse n) = entry b (Refused n)
  noted b pass = entry b Granted
  noted b (make c) = entry (enter b c b.last) Granted
  noted b (issue f) = enter_numbered b f (next_after b.last)
  noted b undo = strike b

  -- the book of a desk that opened with the records `start`
  module _ (start : S) where
    -- "the records equal those got by starting empty and applying, in order, every granted change that wasn't taken back"; 02: "demand 3 then starts from
    -- the image": starting from the records that the desk opened with
    abbrev pub records_of : Book C → S
    records_of b = foldl R.apply start b.survivors

    -- one request: judged against the records that the book says
    unfoldable pub note : Book C → Q → Entry C
    note b q = noted b (R.judge (records_of b) q)

    abbrev pub book_after : Book C → List Q → Book C
    book_after b [] = b
    book_after b (q ∷ qs) = book_after (note b q).book qs

    abbrev pub book_answers : Book C → List Q → List Answer
    book_answers b [] = []
    book_answers b (q ∷ qs) = (note b q).answer ∷ book_answers (note b q).book qs

-- ---- the numbers given out in a run, in order, those of changes taken back among them
abbrev pub numbers : List Answer → List ℕ
numbers [] = []
numbers (Granted ∷ more) = numbers more
numbers (Numbered n ∷ more) = n ∷ numbers more
numbers (Refused n ∷ more) = numbers more

-- "Each draft number is larger than all before it": each larger than n and than the one before
abbrev pub Rising : ℕ → List ℕ → Type 0
Rising n [] = Unit {0}
Rising n (m ∷ ms) = (n < m) × Rising m ms

-- ---- the same once more, over requests and answers alone: what an answer shows to have happened
pub data Event (C : Type 0) : Type 0 where
  kept : C → Event C  -- a change was made and kept
  back : Event C  -- the newest kept change was taken back
  nothing : Event C

abbrev pub events : {Q C : Type 0} → (Q → Answer → Event C) → List Q → List Answer → List (Event C)
events f [] more = []
events f (q ∷ qs) [] = []
events f (q ∷ qs) (a ∷ more) = f q a ∷ events f qs more

-- every change that was kept and not taken back, behind those of l
abbrev pub survive : {C : Type 0} → List C → List (Event C) → List C
survive l [] = l
survive l (kept c ∷ es) = survive (l ++ (c ∷ [])) es
survive l (back ∷ es) = survive (take (length l - 1) l) es
survive l (nothing ∷ es) = survive l es

-- the kept count: "rises by one with each such grant to at most 32, and falls by one with each granted Take back"
abbrev pub kept_count : {C : Type 0} → ℕ → List (Event C) → ℕ
kept_count n [] = n
kept_count n (kept c ∷ es) = kept_count (min (n + 1) 32) es
kept_count n (back ∷ es) = kept_count (n - 1) es
kept_count n (nothing ∷ es) = kept_count n es

-- that an answer shows what happened, whatever the records were
pub record Shows {S C Q : Type 0} (R : Rulebook S C Q) (f : Q → Answer → Event C) : Type 0 where
  pub refused : (q : Q) (n : ℕ) → f q (Refused n) ≡ nothing
  pub passed : (s : S) (q : Q) → R.judge s q ≡ pass → f q Granted ≡ nothing
  pub made : (s : S) (q : Q) (c : C) → R.judge s q ≡ make c → f q Granted ≡ kept c
  pub issued : (s : S) (q : Q) (g : ℕ → C) (n : ℕ) → R.judge s q ≡ issue g → f q (Numbered n) ≡ kept (g n)
  pub undone : (s : S) (q : Q) → R.judge s q ≡ undo → f q Granted ≡ back
