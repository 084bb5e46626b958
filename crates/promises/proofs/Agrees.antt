-- The desk and the book agree: one request keeps them so, and gets the same answer from both.
use Rattle.std.specs.Prelude.{Option, Some, None}
use mathlib.Core.Path.{◌≡◌, refl, sym, ap, ◌∙◌, subst}
use mathlib.Core.Bool.{Bool, true, false, cond}
use mathlib.Core.List.{List, [], ◌∷◌, ◌++◌, append_assoc, foldl-append}
use Prim.Native.Nat.{ℕ, suc, ◌+◌, ◌-◌, ◌≤◌, ◌<◌}
use native.Mathlib.Omega.{arith}
use lib.Dec.{eqb, ltb}
use lib.ListN.{length, take, drop, length-append, length-take, length-drop, take-append-drop}
use borrow.Author.Tests.{ltb-true, ltb-false, eqb-false}
use Rattle.counter.specs.Numbers.{next_after}
use Rattle.history.specs.declared.Answer.TheVariants.{Granted, Refused}
use Rattle.history.specs.Machine.{Verdict, refuse, pass, make, issue, undo, Rulebook, Desk, Outcome, outcome, opened, changed, keep_change, take_back, issued, ruled, step}
use Rattle.promises.specs.Book.{Book, Entry, entry, blank, records_of, enter, struck, strike, enter_numbered, noted, note}
use Rattle.promises.proofs.Past.{keep_ways}

-- the newest goes from what is behind, where there is something behind
newest_goes : {A : Type 0} (xs ys : List A) → 0 < length ys → take (length (xs ++ ys) - 1) (xs ++ ys) ≡ xs ++ take (length ys - 1) ys
newest_goes [] ys h = refl
newest_goes (x ∷ xs) ys h = longer (length-append xs ys) (newest_goes xs ys h)
  where
    longer : length (xs ++ ys) ≡ length xs + length ys → take (length (xs ++ ys) - 1) (xs ++ ys) ≡ xs ++ take (length ys - 1) ys
        → take (length (x ∷ (xs ++ ys)) - 1) (x ∷ (xs ++ ys)) ≡ x ∷ (xs ++ take (length ys - 1) ys)
    longer l e =
        let n : length (x ∷ (xs ++ ys)) - 1 ≡ suc (length (xs ++ ys) - 1) = omega arith in
        ap (λ (k : ℕ). take k (x ∷ (xs ++ ys))) n ∙ ap (λ (r : List _). x ∷ r) e

module _ {S C Q : Type 0} (R : Rulebook S C Q) (start : S) where
  -- the changes in the base are those that can't be taken back any more; the log has the rest
  pub record Agrees (d : Desk S C) (b : Book C) : Type 0 where
    pub older : List C
    pub base_is : d.base ≡ changed R start older
    pub split : b.survivors ≡ older ++ d.log
    pub now : d.current ≡ records_of R start b
    pub count_is : b.count ≡ length d.log
    pub most : length d.log ≤ 32
    pub last_is : d.last ≡ b.last

  pub opened_agrees : (n : ℕ) → Agrees (opened start n) (blank n)
  opened_agrees n = record { older = []; base_is = refl; split = refl; now = refl; count_is = refl; most = omega arith; last_is = refl }

  -- what the desk did and what the book says
  pub record Same (o : Outcome S C) (e : Entry C) : Type 0 where
    pub agrees : Agrees o.desk e.book
    pub answers : o.answer ≡ e.answer

  module _ (d : Desk S C) (b : Book C) (a : Agrees d b) where
    one_more : (c : C) → R.apply d.current c ≡ changed R start (b.survivors ++ (c ∷ []))
    one_more c = ap (λ (s : S). R.apply s c) a.now ∙ sym (foldl-append R.apply start b.survivors (c ∷ []))

    pub keep_agrees : (c : C) (n : ℕ) → Agrees (keep_change R d c n) (enter R b c n)
    keep_agrees c n = keep_ways R (λ e. Agrees e (enter R b c n)) d c n by_room by_base
      where
        by_room : ltb (length d.log) 32 ≡ true → Agrees (record { base = d.base; log = d.log ++ (c ∷ []); current = R.apply d.current c; last = n }) (enter R b c n)
        by_room t =
            let l = length-append d.log (c ∷ []) in
            let room = ltb-true (length d.log) 32 t in
            record {
              older = a.older;
              base_is = a.base_is;
              split = ap (λ (r : List C). r ++ (c ∷ [])) a.split ∙ append_assoc a.older d.log (c ∷ []);
              now = one_more c;
              count_is = omega (arith, a.count_is);
              most = omega arith;
              last_is = refl;
            }

        by_base : ltb (length d.log) 32 ≡ false
            → Agrees (record { base = changed R d.base (take 1 d.log); log = drop 1 d.log ++ (c ∷ []); current = R.apply d.current c; last = n }) (enter R b c n)
        by_base t =
            let l = length-append (drop 1 d.log) (c ∷ []) in
            let m = length-drop 1 d.log in
            let full = ltb-false (length d.log) 32 t in
            let parts : a.older ++ d.log ≡ (a.older ++ take 1 d.log) ++ drop 1 d.log =
            ap (λ (r : List C). a.older ++ r) (sym (take-append-drop 1 d.log)) ∙ sym (append_assoc a.older (take 1 d.log) (drop 1 d.log)) in
            record {
              older = a.older ++ take 1 d.log;
              base_is = ap (λ (s : S). changed R s (take 1 d.log)) a.base_is ∙ sym (foldl-append R.apply start a.older (take 1 d.log));
              split = ap (λ (r : List C). r ++ (c ∷ [])) (a.split ∙ parts) ∙ append_assoc (a.older ++ take 1 d.log) (drop 1 d.log) (c ∷ []);
              now = one_more c;
              count_is = omega (arith, a.count_is, a.most);
              most = omega (arith, a.most);
              last_is = refl;
            }

    pub back_same : Same (take_back R d) (strike R b)
    unfolding take_back
    back_same =
        subst (λ (u : Bool). Same (take_back R d) (cond u (entry b (Refused 12)) (entry (struck R b) Granted)))
        (sym (ap (λ (n : ℕ). eqb n 0) a.count_is)) (by_count (eqb (length d.log) 0) refl)
      where
        by_count : (t : Bool) → eqb (length d.log) 0 ≡ t → Same
            (cond t (outcome d (Refused 12))
            (outcome (record { base = d.base; log = take (length d.log - 1) d.log; current = changed R d.base (take (length d.log - 1) d.log); last = d.last }) Granted))
            (cond t (entry b (Refused 12)) (entry (struck R b) Granted))
        by_count true t = record { agrees = a; answers = refl }
        by_count false t =
            let some : 0 < length d.log = omega (arith, eqb-false (length d.log) 0 t) in
            let l = length-take (length d.log - 1) d.log in
            let rest : (struck R b).survivors ≡ a.older ++ take (length d.log - 1) d.log =
            ap (λ (r : List C). take (length r - 1) r) a.split ∙ newest_goes a.older d.log some in
            record {
              agrees = record {
                older = a.older;
                base_is = a.base_is;
                split = rest;
                now =
                    ap (λ (s : S). changed R s (take (length d.log - 1) d.log)) a.base_is
                    ∙ sym (foldl-append R.apply start a.older (take (length d.log - 1) d.log))
                    ∙ ap (changed R start) (sym rest);
                count_is = omega (arith, a.count_is);
                most = omega (arith, a.most);
                last_is = a.last_is;
              };
              answers = refl;
            }

    ruled_same : (v : Verdict C) → Same (ruled R d v) (noted R b v)
    ruled_same (refuse n) = record { agrees = a; answers = refl }
    ruled_same pass = record { agrees = a; answers = refl }
    ruled_same (make c) =
        record { agrees = subst (λ (n : ℕ). Agrees (keep_change R d c d.last) (enter R b c n)) a.last_is (keep_agrees c d.last); answers = refl }
    ruled_same (issue f) =
        subst (λ (n : ℕ). Same (issued R d f (next_after d.last)) (enter_numbered R b f (next_after n))) a.last_is (by_next (next_after d.last))
      where
        by_next : (x : Option ℕ) → Same (issued R d f x) (enter_numbered R b f x)
        by_next (Some n) = record { agrees = keep_agrees (f n) n; answers = refl }
        by_next None = record { agrees = a; answers = refl }
    ruled_same undo = back_same

    -- the desk judges by its records, the book by the records that it says: they are the same
    pub step_same : (q : Q) → Same (step R d q) (note R start b q)
    unfolding step note
    step_same q =
        subst (λ (s : S). Same (ruled R d (R.judge d.current q)) (noted R b (R.judge s q))) a.now (ruled_same (R.judge d.current q))
