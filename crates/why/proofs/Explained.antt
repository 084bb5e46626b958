-- Every reason explains the answer of the desk, in every state; and of bytes it is the request's that they begin with.
use Rattle.std.specs.Prelude.{Result, Ok, Err}
use Rattle.std.specs.Result.{result_and}
use Prim.Native.Nat.{ℕ}
use mathlib.Core.Path.{◌≡◌, refl, sym, ap, ◌∙◌}
use mathlib.Core.Bool.{Bool, true, false}
use mathlib.Core.List.{List, [], ◌∷◌, ◌++◌}
use borrow.Author.Tests.{eqb-true, leb-true, le-leb, not-false}
use native.Mathlib.Omega.{arith}
use lib.Dec.{eqb}
use lib.ListN.{length}
use Rattle.request.specs.Reading.{frame_of}
use Rattle.request.specs.Writing.{written}
use Rattle.request.specs.declared.Request.{Request}
use Rattle.request.proofs.RoundTrip.{written_is_read}
use Rattle.request.proofs.Ways.{empty}
use Rattle.records.specs.House.{House}
use Rattle.records.specs.declared.Rule.{Rule}
use Rattle.effects.specs.declared.Change.{Change}
use Rattle.counter.specs.Numbers.{top, next_after}
use Rattle.reasons.specs.Reasons.{bare}
use Rattle.reasons.specs.Asking.{Line, ◌unless◌, ◌because◌, asked, told, FirstFailing, here, later, numbers}
use Rattle.reasons.specs.Order.{rank, ascend_from}
use Rattle.reasons.specs.declared.Reason.{Reason}
use Rattle.reasons.proofs.Asking.{more}
use Rattle.reasons.proofs.Order.{first_fails, Verdict, grant, refusal, verdict, ascends, ascend_behind, numbers_more, lowest, zeros_if_all, all_if_zero}
use Rattle.judge.specs.declared.Grant.{Grant}
use Rattle.judge.specs.declared.Grant.TheVariants.{Pass, Keep, KeepNumbered}
use Rattle.judge.specs.Kinds.{lines_of, grant_of, grant_if, ruling_of}
use Rattle.judge.proofs.Rows.{fine}
use Rattle.judge.proofs.Sound.{first_told}
use Rattle.history.specs.Machine as machine
use Rattle.history.specs.Machine.{Desk, step, take_back, issued}
use Rattle.effects.specs.Effects.{change_of}
use Rattle.history.specs.Desk.{verdict_of, desk_rules}
use Rattle.why.specs.Why.{after_lines, desk_lines, reason_of, reason_of_bytes}
use Rattle.why.specs.Explained.{refusal_of, asked_by, TrueOf, of_records, no_number, no_change, Explained}
use Rattle.request.specs.declared.FrameError.TheVariants.{Unknown, Cut}

-- ---- the numbers of all that is asked ascend in the order of refusals
lines_ascend : (rule : Rule) (h : House) (last kept : ℕ) (q : Request) → ascend_from 0 (numbers (desk_lines rule h last kept q)) ≡ true
lines_ascend rule h last kept q = rw (numbers_more (lines_of rule h q) (after_lines (grant_of q) last kept)) (go (grant_of q))
  where
    ls : List Line
    ls = lines_of rule h q

    with_end : (ks : List ℕ) → ((j : ℕ) → ascend_from j (11 ∷ 12 ∷ []) ≡ true → ascend_from j ks ≡ true) → ascend_from 0 (numbers ls ++ ks) ≡ true
    with_end ks f = ascend_behind (11 ∷ 12 ∷ []) ks f 0 (numbers ls) (fine q rule h).0

    go : (g : Grant) → ascend_from 0 (numbers ls ++ numbers (after_lines g last kept)) ≡ true
    go Pass = with_end [] (λ j a. refl)
    go Keep = with_end [] (λ j a. refl)
    go KeepNumbered = with_end (11 ∷ []) (λ j a. rw (ascends j 11 (12 ∷ []) a).1)
    go Grant.TakeBack = with_end (12 ∷ []) (λ j a. rw (le-leb j (rank 12) (omega (arith, leb-true j (rank 11) (ascends j 11 (12 ∷ []) a).1))))

-- ---- the number is the one that the desk answers with
module _ (rule : Rule) (d : Desk House Change) (q : Request) where
  abbrev after : Grant → Result (Unit {0}) Reason
  after g = asked (after_lines g d.last (length d.log))

  by_grant : (g : Grant) (a : Result (Unit {0}) Reason)
      → (told (result_and a (after g))).number ≡ refusal_of (machine.ruled (desk_rules rule) d (verdict_of q (grant_if g a))).answer
  unfolding asked take_back
  by_grant g (Err r) = refl
  by_grant Pass (Ok x) = refl
  by_grant Keep (Ok x) = refl
  by_grant KeepNumbered (Ok x) = go (eqb d.last top) refl
    where
      go : (t : Bool) → eqb d.last top ≡ t → (told (after KeepNumbered)).number ≡ refusal_of (issued (desk_rules rule) d (change_of q) (next_after d.last)).answer
      go true e = rw e
      go false e = rw e
  by_grant Grant.TakeBack (Ok x) = go (eqb (length d.log) 0) refl
    where
      go : (t : Bool) → eqb (length d.log) 0 ≡ t → (told (after Grant.TakeBack)).number ≡ refusal_of (take_back (desk_rules rule) d).answer
      go true e = rw e
      go false e = rw e

  answered : (reason_of rule d.current d.last (length d.log) q).number ≡ refusal_of (step (desk_rules rule) d q).answer
  unfolding reason_of step ruling_of
  answered =
      ap (λ (a : Result (Unit {0}) Reason). (told a).number) (more (lines_of rule d.current q) (after_lines (grant_of q) d.last (length d.log)))
      ∙ by_grant (grant_of q) (asked (lines_of rule d.current q))

  -- ---- what is named is true of the desk
  -- the first that fails of two lists is of the one or of the other
  split : (xs ys : List Line) {r : Reason} {P : Type 0} → (FirstFailing r xs → P) → (FirstFailing r ys → P) → FirstFailing r (xs ++ ys) → P
  split [] ys f g x = g x
  split (n unless b because e ∷ xs) ys f g (here p w) = f (here p w)
  split (n unless b because e ∷ xs) ys f g (later p x) = split xs ys (λ y. f (later p y)) g x

  after_true : (g : Grant) {r : Reason} → FirstFailing r (after_lines g d.last (length d.log)) → TrueOf rule d r
  after_true Pass f = elim f [ ]
  after_true Keep f = elim f [ ]
  after_true KeepNumbered (here p w) = rw w (no_number (eqb-true d.last top (not-false (eqb d.last top) p)))
  after_true KeepNumbered (later _ f) = elim f [ ]
  after_true Grant.TakeBack (here p w) = rw w (no_change (eqb-true (length d.log) 0 (not-false (eqb (length d.log) 0) p)))
  after_true Grant.TakeBack (later _ f) = elim f [ ]

  named_true : {r : Reason} → FirstFailing r (asked_by rule d q) → TrueOf rule d r
  named_true {r} f = split (lines_of rule d.current q) (after_lines (grant_of q) d.last (length d.log)) (λ x. of_records (first_told rule d.current q r x)) (after_true (grant_of q)) f

  -- ---- the theorem
  pub explained : Explained rule d q (reason_of rule d.current d.last (length d.log) q)
  unfolding reason_of
  explained =
      record {
        as_answered = answered;
        all_zeros = λ a. zeros_if_all a;
        all_held = all_if_zero (asked_by rule d q) (lines_ascend rule d.current d.last (length d.log) q);
        first_named = first (verdict (asked_by rule d q));
        lowest = λ k n f. lowest 0 (lines_ascend rule d.current d.last (length d.log) q) (first (verdict (asked_by rule d q)) n) f;
        true_of = λ n. named_true (first (verdict (asked_by rule d q)) n);
      }
    where
      first : Verdict (asked_by rule d q) → ((told (asked (asked_by rule d q))).number ≡ 0 → ⊥) → FirstFailing (told (asked (asked_by rule d q))) (asked_by rule d q)
      first (grant a) n = absurd (n (ap (λ (r : Reason). r.number) (zeros_if_all a)))
      first (refusal r f) n =
          let e : told (asked (asked_by rule d q)) ≡ r = ap told (first_fails f) in
          rw e f

-- ---- of bytes
-- "agrees with the judge for every whole frame": whatever is behind it
pub frame_explained : (rule : Rule) (d : Desk House Change) (b : List ℕ) (q : Request) → frame_of b ≡ Ok q → Explained rule d q (reason_of_bytes rule d.current d.last (length d.log) b)
frame_explained rule d b q f = rw f (explained rule d q)

module _ (rule : Rule) (h : House) (last kept : ℕ) where
  -- what is behind a whole frame is not read
  pub frame_alone : (q : Request) (rest : List ℕ) → reason_of_bytes rule h last kept (written q ++ rest) ≡ reason_of rule h last kept q
  frame_alone q rest = rw (written_is_read q rest)

  -- "for other bytes gives 1 or 2 and zeros", 2 for no bytes
  pub unknown_kind : (b : List ℕ) → frame_of b ≡ Err Unknown → reason_of_bytes rule h last kept b ≡ bare 1
  unknown_kind b f = rw f

  pub cut_body : (b : List ℕ) → frame_of b ≡ Err Cut → reason_of_bytes rule h last kept b ≡ bare 2
  cut_body b f = rw f

  pub no_bytes : reason_of_bytes rule h last kept [] ≡ bare 2
  no_bytes = rw (sym (empty [] refl))
