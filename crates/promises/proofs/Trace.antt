-- Demand 3 once more, over requests and answers alone, and what a take-back does.
use Rattle.std.specs.Prelude.{Option, Some, None}
use mathlib.Core.Path.{◌≡◌, refl, sym, ap, ◌∙◌, subst}
use mathlib.Core.Bool.{Bool, true, false, cond}
use mathlib.Core.List.{List, [], ◌∷◌}
use Prim.Native.Nat.{ℕ}
use lib.Dec.{eqb}
use lib.ListN.{length}
use borrow.Author.Tests.{eq-eqb, ne_eqb}
use Rattle.counter.specs.Numbers.{next_after}
use Rattle.history.specs.declared.Answer.{Answer}
use Rattle.history.specs.declared.Answer.TheVariants.{Granted, Refused}
use Rattle.history.specs.Machine.{Verdict, refuse, pass, make, issue, undo, Rulebook, Desk, outcome, opened, changed, take_back, ruled, step, run, answers}
use Rattle.promises.specs.Back.{TakenBack}
use Rattle.promises.specs.Book.{Book, Entry, entry, blank, records_of, struck, enter_numbered, noted, note, book_after, book_answers, Event, events, survive, kept_count, Shows}
use Rattle.promises.proofs.Agrees.{opened_agrees}
use Rattle.promises.proofs.Runs.{run_agrees, records_are_survivors, answers_are_the_books}

-- ---- a take-back that the rules allow, at any desk
module _ {S C Q : Type 0} (R : Rulebook S C Q) (d : Desk S C) (q : Q) (allowed : R.judge d.current q ≡ undo) where
  -- where none is kept, it is refused and nothing changes
  pub none_left : length d.log ≡ 0 → step R d q ≡ outcome d (Refused 12)
  unfolding step take_back
  none_left z = ap (ruled R d) allowed ∙ rw (eq-eqb (length d.log) 0 z)

  -- else it is granted, the newest kept change goes and no other, and the number stays
  pub some_left : (length d.log ≡ 0 → ⊥) → TakenBack R d (step R d q)
  unfolding step take_back
  some_left n =
      subst (TakenBack R d) (sym (ap (ruled R d) allowed ∙ rw (ne_eqb (length d.log) 0 n)))
      (record { answer = refl; log = refl; base = refl; last = refl; records = refl })

module _ {S C Q : Type 0} (R : Rulebook S C Q) (f : Q → Answer → Event C) (shows : Shows R f) (start : S) where
  -- what one entry of the book adds is what its answer shows
  module _ (b : Book C) (q : Q) (es : List (Event C)) where
    abbrev Shown : Entry C → Type 0
    Shown e =
        (survive e.book.survivors es ≡ survive b.survivors (f q e.answer ∷ es))
        × (kept_count e.book.count es ≡ kept_count b.count (f q e.answer ∷ es))

    one_shown : (v : Verdict C) → R.judge (records_of R start b) q ≡ v → Shown (noted R b v)
    one_shown (refuse n) e = rw (shows.refused q n) (refl, refl)
    one_shown pass e = rw (shows.passed (records_of R start b) q e) (refl, refl)
    one_shown (make c) e = rw (shows.made (records_of R start b) q c e) (refl, refl)
    one_shown (issue g) e = by_next (next_after b.last)
      where
        by_next : (x : Option ℕ) → Shown (enter_numbered R b g x)
        by_next (Some n) = rw (shows.issued (records_of R start b) q g n e) (refl, refl)
        by_next None = rw (shows.refused q 11) (refl, refl)
    one_shown undo e = by_count (eqb b.count 0)
      where
        by_count : (t : Bool) → Shown (cond t (entry b (Refused 12)) (entry (struck R b) Granted))
        by_count true = rw (shows.refused q 12) (refl, refl)
        by_count false = rw (shows.undone (records_of R start b) q e) (refl, refl)

  all_shown : (b : Book C) (qs : List Q) → ((book_after R start b qs).survivors ≡ survive b.survivors (events f qs (book_answers R start b qs)))
      × ((book_after R start b qs).count ≡ kept_count b.count (events f qs (book_answers R start b qs)))
  unfolding note
  all_shown b [] = (refl, refl)
  all_shown b (q ∷ qs) =
      let e = noted R b (R.judge (records_of R start b) q) in
      let later = all_shown e.book qs in
      let one = one_shown b q (events f qs (book_answers R start e.book qs)) (R.judge (records_of R start b) q) refl in
      (later.0 ∙ one.0, later.1 ∙ one.1)

  -- the records are the survivors among the changes that the requests and their answers show
  pub records_are_shown : (last : ℕ) (qs : List Q)
      → (run R (opened start last) qs).current ≡ changed R start (survive [] (events f qs (answers R (opened start last) qs)))
  records_are_shown last qs =
      records_are_survivors R start last qs
      ∙ ap (changed R start) ((all_shown (blank last) qs).0 ∙ ap (λ (l : List Answer). survive [] (events f qs l)) (sym (answers_are_the_books R start last qs)))

  -- ---- a take-back that the rules allow, after any run: by the kept count that the requests and their answers show
  module _ (last : ℕ) (qs : List Q) (q : Q) where
    abbrev now : Desk S C
    now = run R (opened start last) qs

    abbrev kept_now : ℕ
    kept_now = kept_count 0 (events f qs (answers R (opened start last) qs))

    log_is_count : length now.log ≡ kept_now
    log_is_count =
        sym (run_agrees R start (opened start last) (blank last) (opened_agrees R start last) qs).count_is
        ∙ (all_shown (blank last) qs).1 ∙ ap (λ (l : List Answer). kept_count 0 (events f qs l)) (sym (answers_are_the_books R start last qs))

    -- 12 "the kept count is 0"
    pub none_to_take_back : R.judge now.current q ≡ undo → kept_now ≡ 0 → step R now q ≡ outcome now (Refused 12)
    none_to_take_back e z = none_left R now q e (log_is_count ∙ z)

    pub take_back_granted : R.judge now.current q ≡ undo → (kept_now ≡ 0 → ⊥) → TakenBack R now (step R now q)
    take_back_granted e n = some_left R now q e (λ z. n (sym log_is_count ∙ z))
