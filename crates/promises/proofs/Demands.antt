-- Demands 2 and 3 of this desk: at any desk, and over any requests from any records and last number that it opened with.
use Rattle.std.specs.Prelude.{Result, Ok, Err}
use mathlib.Core.Path.{◌≡◌, refl, ap, ◌∙◌}
use mathlib.Core.List.{List, [], foldl}
use Prim.Native.Nat.{ℕ, ◌+◌}
use borrow.Author.Tests.{eq-eqb, ne_eqb}
use Rattle.request.specs.declared.Request.{Request}
use Rattle.request.specs.declared.Request.TheVariants.{TakeBack}
use Rattle.request.proofs.Absurd.{differ}
use Rattle.records.specs.House.{House}
use Rattle.records.specs.declared.Rule.{Rule}
use Rattle.effects.specs.Effects.{change_of, applied}
use Rattle.effects.specs.declared.Change.{Change}
use Rattle.reasons.specs.Asking.{AllHold, FirstFailing}
use Rattle.reasons.specs.declared.Reason.{Reason}
use Rattle.judge.specs.Kinds.{lines_of, grant_of, ruling_of}
use Rattle.judge.specs.declared.Grant.{Grant}
use Rattle.judge.specs.declared.Grant.TheVariants.{Pass, Keep, KeepNumbered}
use Rattle.judge.proofs.Order.{granted_exactly, refused_exactly}
use Rattle.counter.specs.Numbers.{top}
use Rattle.history.specs.Machine.{pass, make, issue, undo, Desk, outcome, opened, keep_change, ruled, step}
use Rattle.history.specs.Desk.{verdict_of, desk_rules}
use Rattle.history.specs.declared.Answer.{Answer}
use Rattle.promises.specs.Back.{TakenBack}
use Rattle.promises.specs.Book.{blank, book_after, numbers, Rising, kept, back, nothing, events, survive, Shows}
use Rattle.promises.specs.Events.{grant_shows, event_of, reached_desk, answers_from, kept_now}
use Rattle.promises.proofs.Granted.{conditions}
use Rattle.promises.proofs.Runs.{records_are_survivors, numbers_rise_lem}
use Rattle.promises.proofs.Past
use Rattle.promises.proofs.Trace.{records_are_shown, none_to_take_back, take_back_granted}

-- ---- Demand 2, at any desk d, so at every desk reached: a request is granted exactly when all conditions of its kind hold in the present records
module _ (rule : Rule) (d : Desk House Change) (q : Request) where
  by_ruling : (r : Result Grant Reason) → ruling_of rule d.current q ≡ r → step (desk_rules rule) d q ≡ ruled (desk_rules rule) d (verdict_of q r)
  unfolding step
  by_ruling r e = ap (λ (x : Result Grant Reason). ruled (desk_rules rule) d (verdict_of q x)) e

  pub allowed : (g : Grant) → grant_of q ≡ g → AllHold (lines_of rule d.current q) → ruling_of rule d.current q ≡ Ok g
  allowed g e all = (granted_exactly rule d.current q).1 all ∙ ap Ok e

  -- the first condition that fails refuses with its number, and nothing changes
  pub refused : (r : Reason) → FirstFailing r (lines_of rule d.current q) → step (desk_rules rule) d q ≡ outcome d (Answer.Refused r.number)
  refused r first = by_ruling (Err r) ((refused_exactly rule d.current q r).1 first)

  -- all conditions hold, and the kind changes nothing: Read
  pub passed : grant_of q ≡ Pass → AllHold (lines_of rule d.current q) → step (desk_rules rule) d q ≡ outcome d Answer.Granted
  passed e all = by_ruling (Ok Pass) (allowed Pass e all)

  -- all conditions hold, and the kind is kept: the records are then those of its effect
  pub made : grant_of q ≡ Keep → AllHold (lines_of rule d.current q) → step (desk_rules rule) d q ≡ outcome (keep_change (desk_rules rule) d (change_of q 0) d.last) Answer.Granted
  made e all = by_ruling (Ok Keep) (allowed Keep e all)

  -- all conditions hold, and the kind gets a number: it is one more than the last
  pub numbered : grant_of q ≡ KeepNumbered → AllHold (lines_of rule d.current q) → (d.last ≡ top → ⊥)
      → step (desk_rules rule) d q ≡ outcome (keep_change (desk_rules rule) d (change_of q (d.last + 1)) (d.last + 1)) (Answer.Numbered (d.last + 1))
  numbered e all left = by_ruling (Ok KeepNumbered) (allowed KeepNumbered e all) ∙ rw (ne_eqb d.last top left)

  -- 11: no number is left
  pub spent : grant_of q ≡ KeepNumbered → AllHold (lines_of rule d.current q) → d.last ≡ top → step (desk_rules rule) d q ≡ outcome d (Answer.Refused 11)
  spent e all none = by_ruling (Ok KeepNumbered) (allowed KeepNumbered e all) ∙ rw (eq-eqb d.last top none)

-- the records after a kept change are its effect on those before it
pub records_after : (rule : Rule) (d : Desk House Change) (c : Change) (n : ℕ) → (keep_change (desk_rules rule) d c n).current ≡ applied d.current c
records_after rule d c n = Past.records_after (desk_rules rule) d c n

-- ---- Demand 3, over any requests from any records and last number
module _ (rule : Rule) (h : House) (q : Request) where
  shown_pass : (r : Result Grant Reason) → ruling_of rule h q ≡ r → verdict_of q r ≡ pass → grant_shows q (grant_of q) ≡ nothing
  shown_pass (Err r) e w = differ cc
  shown_pass (Ok Pass) e w = ap (grant_shows q) (conditions rule h q Pass e).given
  shown_pass (Ok Keep) e w = differ cc
  shown_pass (Ok KeepNumbered) e w = differ cc
  shown_pass (Ok Grant.TakeBack) e w = differ cc

  shown_make : (c : Change) (r : Result Grant Reason) → ruling_of rule h q ≡ r → verdict_of q r ≡ make c → grant_shows q (grant_of q) ≡ kept c
  shown_make c (Err r) e w = differ cc
  shown_make c (Ok Pass) e w = differ cc
  shown_make c (Ok Keep) e w = let same : change_of q 0 ≡ c = cc in ap (grant_shows q) (conditions rule h q Keep e).given ∙ ap kept same
  shown_make c (Ok KeepNumbered) e w = differ cc
  shown_make c (Ok Grant.TakeBack) e w = differ cc

  shown_number : (g : ℕ → Change) (n : ℕ) (r : Result Grant Reason) → verdict_of q r ≡ issue g → kept (change_of q n) ≡ kept (g n)
  shown_number g n (Err r) w = differ cc
  shown_number g n (Ok Pass) w = differ cc
  shown_number g n (Ok Keep) w = differ cc
  shown_number g n (Ok KeepNumbered) w = let same : ◌≡◌ {A = ℕ → Change} (change_of q) g = cc in ap (λ (f : ℕ → Change). kept (f n)) same
  shown_number g n (Ok Grant.TakeBack) w = differ cc

  shown_back : (r : Result Grant Reason) → ruling_of rule h q ≡ r → verdict_of q r ≡ undo → grant_shows q (grant_of q) ≡ back
  shown_back (Err r) e w = differ cc
  shown_back (Ok Pass) e w = differ cc
  shown_back (Ok Keep) e w = differ cc
  shown_back (Ok KeepNumbered) e w = differ cc
  shown_back (Ok Grant.TakeBack) e w = ap (grant_shows q) (conditions rule h q Grant.TakeBack e).given

-- an answer of this desk shows what happened
pub shows : (rule : Rule) → Shows (desk_rules rule) event_of
shows rule = record {
  refused = λ q n. refl;
  passed = λ h q e. shown_pass rule h q (ruling_of rule h q) refl e;
  made = λ h q c e. shown_make rule h q c (ruling_of rule h q) refl e;
  issued = λ h q g n e. shown_number rule h q g n (ruling_of rule h q) e;
  undone = λ h q e. shown_back rule h q (ruling_of rule h q) refl e;
}

module _ (rule : Rule) (h : House) (last : ℕ) (qs : List Request) where
  -- "the records equal those got by starting" from the records that the desk opened with "and applying, in order, every granted change that wasn't taken
  -- back, each with the draft number it received": against the book of survivors ..
  pub by_the_book : (reached_desk rule h last qs).current ≡ foldl applied h (book_after (desk_rules rule) h (blank last) qs).survivors
  by_the_book = records_are_survivors (desk_rules rule) h last qs

  -- .. and over requests and answers alone
  pub by_the_answers : (reached_desk rule h last qs).current ≡ foldl applied h (survive [] (events event_of qs (answers_from rule h last qs)))
  by_the_answers = records_are_shown (desk_rules rule) event_of (shows rule) h last qs

  -- "Each draft number is larger than all before it, taken-back ones included", and larger than the opening number
  pub rising : Rising last (numbers (answers_from rule h last qs))
  rising = numbers_rise_lem (desk_rules rule) h last qs

  module _ (u : ℕ) (all : AllHold (lines_of rule (reached_desk rule h last qs).current (TakeBack u))) where
    allowed_back : (desk_rules rule).judge (reached_desk rule h last qs).current (TakeBack u) ≡ undo
    allowed_back = ap (verdict_of (TakeBack u)) (allowed rule (reached_desk rule h last qs) (TakeBack u) Grant.TakeBack refl all)

    -- a take-back by an administrator: "refused for want of one exactly when none of the last 32 is left by the counting rule" ..
    pub no_change_left : kept_now rule h last qs ≡ 0 → step (desk_rules rule) (reached_desk rule h last qs) (TakeBack u) ≡ outcome (reached_desk rule h last qs) (Answer.Refused 12)
    no_change_left none = none_to_take_back (desk_rules rule) event_of (shows rule) h last qs (TakeBack u) allowed_back none

    -- .. else the newest kept change goes and no other, and the number stays
    pub newest_goes : (kept_now rule h last qs ≡ 0 → ⊥) → TakenBack (desk_rules rule) (reached_desk rule h last qs) (step (desk_rules rule) (reached_desk rule h last qs) (TakeBack u))
    newest_goes some = take_back_granted (desk_rules rule) event_of (shows rule) h last qs (TakeBack u) allowed_back some

-- 02: "An opened image has a kept count of 0": whatever a desk opened with, a take-back by an administrator right after that is 12
pub back_at_opening : (rule : Rule) (h : House) (last u : ℕ) → AllHold (lines_of rule h (TakeBack u)) → step (desk_rules rule) (opened h last) (TakeBack u) ≡ outcome (opened h last) (Answer.Refused 12)
back_at_opening rule h last u all = no_change_left rule h last [] u all refl
