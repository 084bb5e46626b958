-- Demand 3 over any run of requests from any opening: the records, the answers, the take-backs and the numbers.
use Rattle.std.specs.Prelude.{Option, Some, None}
use mathlib.Core.Path.{◌≡◌, refl, sym, subst}
use mathlib.Core.Bool.{Bool, true, false, cond}
use mathlib.Core.List.{List, [], ◌∷◌}
use Prim.Native.Nat.{ℕ, ◌+◌, ◌<◌}
use native.Mathlib.Omega.{arith}
use lib.Dec.{eqb}
use Rattle.request.proofs.Absurd.{differ}
use Rattle.counter.specs.Numbers.{top, next_after}
use Rattle.history.specs.declared.Answer.{Answer}
use Rattle.history.specs.declared.Answer.TheVariants.{Granted, Refused}
use Rattle.history.specs.Machine.{Verdict, refuse, pass, make, issue, undo, Rulebook, Desk, opened, changed, step, run, answers}
use Rattle.promises.specs.Book.{Book, entry, blank, records_of, enter, struck, enter_numbered, noted, note, book_after, book_answers, numbers, Rising}
use Rattle.promises.proofs.Agrees.{Agrees, opened_agrees, step_same}

-- ---- numbers: what follows the last number is larger
pub next_larger : (last n : ℕ) → next_after last ≡ Some n → last < n
next_larger last n e = by_top (eqb last top) e
  where
    by_top : (t : Bool) → cond t None (Some (last + 1)) ≡ Some n → last < n
    by_top true e = differ cc
    by_top false e = let m : last + 1 ≡ n = cc in omega arith

module _ {S C Q : Type 0} (R : Rulebook S C Q) (start : S) where
  -- the desk and the book agree after any run
  pub run_agrees : (d : Desk S C) (b : Book C) → Agrees R start d b → (qs : List Q) → Agrees R start (run R d qs) (book_after R start b qs)
  run_agrees d b a [] = a
  run_agrees d b a (q ∷ qs) = run_agrees (step R d q).desk (note R start b q).book (step_same R start d b a q).agrees qs

  pub run_answers : (d : Desk S C) (b : Book C) → Agrees R start d b → (qs : List Q) → answers R d qs ≡ book_answers R start b qs
  run_answers d b a [] = refl
  run_answers d b a (q ∷ qs) =
      let s = step_same R start d b a q in
      (λ i. s.answers i ∷ run_answers (step R d q).desk (note R start b q).book s.agrees qs i)

  -- "the records equal those got by starting" from the records that the desk opened with "and applying, in order, every granted change that wasn't taken
  -- back, each with the draft number it received"
  pub records_are_survivors : (last : ℕ) (qs : List Q) → (run R (opened start last) qs).current ≡ changed R start (book_after R start (blank last) qs).survivors
  records_are_survivors last qs = (run_agrees (opened start last) (blank last) (opened_agrees R start last) qs).now

  -- the book gives every answer that the desk gives
  pub answers_are_the_books : (last : ℕ) (qs : List Q) → answers R (opened start last) qs ≡ book_answers R start (blank last) qs
  answers_are_the_books last qs = run_answers (opened start last) (blank last) (opened_agrees R start last) qs

  -- ---- "Each draft number is larger than all before it, taken-back ones included."
  rising_step : (b : Book C) (v : Verdict C) (more : Book C → List Answer) → ((c : Book C) → Rising c.last (numbers (more c)))
      → Rising b.last (numbers ((noted R b v).answer ∷ more (noted R b v).book))
  rising_step b (refuse n) more later = later b
  rising_step b pass more later = later b
  rising_step b (make c) more later = later (enter R b c b.last)
  rising_step b (issue f) more later = by_next (next_after b.last) refl
    where
      by_next : (x : Option ℕ) → next_after b.last ≡ x → Rising b.last (numbers ((enter_numbered R b f x).answer ∷ more (enter_numbered R b f x).book))
      by_next (Some n) e = (next_larger b.last n e, later (enter R b (f n) n))
      by_next None e = later b
  rising_step b undo more later = by_count (eqb b.count 0)
    where
      by_count : (t : Bool)
          → Rising b.last (numbers ((cond t (entry b (Refused 12)) (entry (struck R b) Granted)).answer ∷ more (cond t (entry b (Refused 12)) (entry (struck R b) Granted)).book))
      by_count true = later b
      by_count false = later (struck R b)

  book_rising : (b : Book C) (qs : List Q) → Rising b.last (numbers (book_answers R start b qs))
  unfolding note
  book_rising b [] = tt
  book_rising b (q ∷ qs) = rising_step b (R.judge (records_of R start b) q) (λ c. book_answers R start c qs) (λ c. book_rising c qs)

  pub numbers_rise_lem : (last : ℕ) (qs : List Q) → Rising last (numbers (answers R (opened start last) qs))
  numbers_rise_lem last qs = subst (λ (l : List Answer). Rising last (numbers l)) (sym (answers_are_the_books last qs)) (book_rising (blank last) qs)
