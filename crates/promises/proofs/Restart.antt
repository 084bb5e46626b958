-- A desk saved and opened again goes on: with the same records, with larger numbers, and where nothing is taken back with the same answers.
use Rattle.std.specs.Prelude.{Option, Some, None, Result, Ok, Err}
use Prim.Native.Nat.{ℕ, ◌-◌}
use mathlib.Core.Path.{◌≡◌, refl, sym, ap, ◌∙◌, subst}
use mathlib.Core.Bool.{Bool, true, false, cond}
use mathlib.Core.List.{List, [], ◌∷◌, ◌++◌}
use mathlib.Core.Logic.{◌⊎◌, inl, inr}
use lib.Dec.{eqb}
use lib.ListN.{length, take}
use Rattle.request.specs.declared.Request.{Request}
use Rattle.request.proofs.Absurd.{differ}
use Rattle.records.specs.Lists.{all}
use Rattle.records.specs.House.{House}
use Rattle.records.specs.declared.Rule.{Rule}
use Rattle.judge.specs.Kinds.{grant_of, ruling_of}
use Rattle.reasons.specs.declared.Reason.{Reason}
use Rattle.judge.specs.declared.Grant.{Grant}
use Rattle.judge.specs.declared.Grant.TheVariants.{Pass, Keep, KeepNumbered}
use Rattle.counter.specs.Numbers.{next_after}
use Rattle.history.specs.declared.Answer.{Answer}
use Rattle.history.specs.declared.Answer.TheVariants.{Granted, Refused}
use Rattle.history.specs.Machine.{Verdict, refuse, pass, make, issue, undo, Rulebook, Desk, outcome, opened, changed, keep_change, take_back, issued, ruled, step, run, answers}
use Rattle.history.specs.Desk.{verdict_of, desk_rules}
use Rattle.rules.specs.Lists.{Each}
use Rattle.rules.specs.Rules.{rules}
use Rattle.reader.specs.Reading.{saved}
use Rattle.opening.specs.Opening.{Opens, opened_by, accepted}
use Rattle.opening.proofs.Theorems.{saved_opens}
use Rattle.batch.specs.Batch.{State}
use Rattle.promises.specs.Book.{numbers, Rising}
use Rattle.promises.specs.Fits.{fits}
use Rattle.promises.specs.Back.{IsTakeBack}
use Rattle.promises.specs.Events.{reached_desk, answers_from}
use Rattle.promises.specs.Restart.{saved_as, again, rule_again, Restarted}
use Rattle.promises.proofs.Granted.{conditions}
use Rattle.promises.proofs.Past.{records_after, last_after_lem}
use Rattle.promises.proofs.Runs.{next_larger, numbers_rise_lem}
use Rattle.promises.proofs.Reached.{reached}
use Rattle.promises.proofs.Back.{change_kept, read_passes}

module _ {S C Q : Type 0} (R : Rulebook S C Q) where
  -- ---- numbers: what rises after a request rises with its own answer in front
  module _ (d : Desk S C) (later : List Answer) where
    after_ruled : (v : Verdict C) → Rising (ruled R d v).desk.last (numbers later) → Rising d.last (numbers ((ruled R d v).answer ∷ later))
    unfolding take_back
    after_ruled (refuse n) h = h
    after_ruled pass h = h
    after_ruled (make c) h = subst (λ (n : ℕ). Rising n (numbers later)) (last_after_lem R d c d.last) h
    after_ruled (issue f) h = by_next (next_after d.last) refl h
      where
        by_next : (x : Option ℕ) → next_after d.last ≡ x → Rising (issued R d f x).desk.last (numbers later) → Rising d.last (numbers ((issued R d f x).answer ∷ later))
        by_next (Some n) e h = (next_larger d.last n e, subst (λ (m : ℕ). Rising m (numbers later)) (last_after_lem R d (f n) n) h)
        by_next None e h = h
    after_ruled undo h = by_count (eqb (length d.log) 0) h
      where
        left : Desk S C
        left = record { base = d.base; log = take (length d.log - 1) d.log; current = changed R d.base (take (length d.log - 1) d.log); last = d.last }

        by_count : (t : Bool) → Rising (cond t (outcome d (Refused 12)) (outcome left Granted)).desk.last (numbers later)
            → Rising d.last (numbers ((cond t (outcome d (Refused 12)) (outcome left Granted)).answer ∷ later))
        by_count true h = h
        by_count false h = h

  pub rising_on : (d : Desk S C) (qs : List Q) (later : List Answer) → Rising (run R d qs).last (numbers later) → Rising d.last (numbers (answers R d qs ++ later))
  unfolding step
  rising_on d [] later h = h
  rising_on d (q ∷ qs) later h = after_ruled d (answers R (step R d q).desk qs ++ later) (R.judge d.current q) (rising_on (step R d q).desk qs later h)

  -- ---- two desks with the same records and last number, whatever they keep
  pub record Alike (d e : Desk S C) : Type 0 where
    pub records : d.current ≡ e.current
    pub last_number_lem : d.last ≡ e.last

  pub record BothSay (d e : Desk S C) (a b : Answer) : Type 0 where
    pub same : a ≡ b
    pub alike : Alike d e

  module _ (d e : Desk S C) (a : Alike d e) where
    keep_alike : (c : C) (m n : ℕ) → m ≡ n → Alike (keep_change R d c m) (keep_change R e c n)
    keep_alike c m n k = record {
      records = records_after R d c m ∙ ap (λ (s : S). R.apply s c) a.records ∙ sym (records_after R e c n);
      last_number_lem = last_after_lem R d c m ∙ k ∙ sym (last_after_lem R e c n);
    }

    ruled_alike : (v : Verdict C) → (v ≡ undo → ⊥) → BothSay (ruled R d v).desk (ruled R e v).desk (ruled R d v).answer (ruled R e v).answer
    ruled_alike (refuse n) no_undo = record { same = refl; alike = a }
    ruled_alike pass no_undo = record { same = refl; alike = a }
    ruled_alike (make c) no_undo = record { same = refl; alike = keep_alike c d.last e.last a.last_number_lem }
    ruled_alike (issue f) no_undo =
        subst (λ (x : Option ℕ). BothSay (issued R d f x).desk (ruled R e (issue f)).desk (issued R d f x).answer (ruled R e (issue f)).answer)
        (sym (ap next_after a.last_number_lem)) (by_next (next_after e.last))
      where
        by_next : (x : Option ℕ) → BothSay (issued R d f x).desk (issued R e f x).desk (issued R d f x).answer (issued R e f x).answer
        by_next (Some n) = record { same = refl; alike = keep_alike (f n) n n refl }
        by_next None = record { same = refl; alike = a }
    ruled_alike undo no_undo = absurd (no_undo refl)

    step_alike : (q : Q) → ((s : S) → R.judge s q ≡ undo → ⊥) → BothSay (step R d q).desk (step R e q).desk (step R d q).answer (step R e q).answer
    unfolding step
    step_alike q never =
        subst (λ (v : Verdict C). BothSay (ruled R d v).desk (step R e q).desk (ruled R d v).answer (step R e q).answer)
        (sym (ap (λ (s : S). R.judge s q) a.records)) (ruled_alike (R.judge e.current q) (never e.current))

  pub run_alike : (d e : Desk S C) → Alike d e → (qs : List Q) → Each (λ q. (s : S) → R.judge s q ≡ undo → ⊥) qs → answers R d qs ≡ answers R e qs
  run_alike d e a [] never = refl
  run_alike d e a (q ∷ qs) never =
      let b = step_alike d e a q never.0 in
      (λ i. b.same i ∷ run_alike (step R d q).desk (step R e q).desk b.alike qs never.1 i)

-- ---- this desk: only a take-back undoes
never_undone : (rule : Rule) (q : Request) → (IsTakeBack q → ⊥) → (h : House) → (desk_rules rule).judge h q ≡ undo → ⊥
never_undone rule q no-back h e = go (ruling_of rule h q) refl e
  where
    offered : grant_of q ≡ Grant.TakeBack → ⊥
    offered e = by_kind (change_kept q (record { no_read = λ r. differ (let p = read_passes r in cc); no_take_back = no-back }))
      where
        by_kind : (grant_of q ≡ Keep) ⊎ (grant_of q ≡ KeepNumbered) → ⊥
        by_kind (inl k) = differ cc
        by_kind (inr k) = differ cc

    go : (r : Result Grant Reason) → ruling_of rule h q ≡ r → verdict_of q r ≡ undo → ⊥
    go (Err r) k w = differ cc
    go (Ok Pass) k w = differ cc
    go (Ok Keep) k w = differ cc
    go (Ok KeepNumbered) k w = differ cc
    go (Ok Grant.TakeBack) k w = offered (conditions rule h q Grant.TakeBack k).given

each_never : (rule : Rule) (qs : List Request) → Each (λ q. IsTakeBack q → ⊥) qs → Each (λ q. (h : House) → (desk_rules rule).judge h q ≡ undo → ⊥) qs
each_never rule [] e = tt
each_never rule (q ∷ qs) e = (never_undone rule q e.0, each_never rule qs e.1)

module _ (rule : Rule) (h : House) (last : ℕ) (m : rules h last ≡ true) (qs : List Request) (fit : all fits qs ≡ true) where
  abbrev now : State
  now = reached_desk rule h last qs

  opens : opened_by (saved_as rule now) ≡ accepted (saved now.current now.last rule)
  opens = saved_opens (saved now.current now.last rule) (reached rule h last m qs fit)

  pub restarts : Restarted rule last (answers_from rule h last qs) now
  restarts =
      let same : again rule now ≡ opened now.current now.last = ap (λ (o : Opens). opened o.now.house o.now.last) opens in
      let ruled : rule_again rule now ≡ rule = ap (λ (o : Opens). o.now.rule) opens in
      record {
        accepted = ap (λ (o : Opens). o.answer) opens;
        as_saved = same;
        same_rule = ruled;
        rising = λ rs. subst (λ (t : Rule × State). Rising last (numbers (answers_from rule h last qs ++ answers (desk_rules t.0) t.1 rs))) (λ i. (sym ruled i, sym same i))
            (rising_on (desk_rules rule) (opened h last) qs (answers (desk_rules rule) (opened now.current now.last) rs) (numbers_rise_lem (desk_rules rule) now.current now.last rs));
        as_in_one_piece = λ rs none. (λ i. answers (desk_rules (ruled i)) (same i) rs)
            ∙ run_alike (desk_rules rule) (opened now.current now.last) now (record { records = refl; last_number_lem = refl }) rs (each_never rule rs none);
      }
