-- What is kept, and that a take-back leaves the records as they stood before the change. Of every desk, or of every desk reached from an opening.
use Prim.Native.Nat.{ℕ, ◌+◌}
use mathlib.Core.Path.{◌≡◌, refl, sym, ap, ◌∙◌}
use mathlib.Core.Bool.{true}
use mathlib.Core.List.{List, [], ◌∷◌, foldl, foldl-append}
use mathlib.Core.Logic.{◌⊎◌, inl, inr}
use Rattle.request.specs.declared.Request.{Request}
use Rattle.request.proofs.Absurd.{differ}
use Rattle.records.specs.House.{House}
use Rattle.records.specs.declared.Rule.{Rule}
use Rattle.effects.specs.declared.Change.{Change}
use Rattle.kept.specs.Log.{pushed, popped}
use Rattle.judge.specs.Kinds.{grant_of}
use Rattle.judge.specs.declared.Grant.{Grant}
use Rattle.judge.specs.declared.Grant.TheVariants.{Pass, Keep, KeepNumbered}
use Rattle.history.specs.Machine.{Rulebook, Desk, Outcome, opened, changed, keep_change, step, run, answers}
use Rattle.effects.specs.Effects.{change_of}
use Rattle.history.specs.Desk.{desk_rules}
use Rattle.promises.specs.Book.{blank}
use Rattle.promises.specs.Events.{reached_desk}
use Rattle.promises.specs.Grants.{grants}
use Rattle.promises.specs.Back.{IsRead, is_read, IsTakeBack, is_take_back, IsChange, number_in, TakenBack, BothBack, Idle, refused, reads, EachAnswered, next_desk, at_last, ThenBack, AsItStood}
use Rattle.rules.proofs.Bools.{clash}
use Rattle.promises.proofs.Agrees.{opened_agrees}
use Rattle.promises.proofs.Runs.{run_agrees}
use Rattle.promises.proofs.Ways.{Way, by_rule, no_number, no_change, read, plain, with_number, back, way}
use Rattle.promises.proofs.Listed.{refusal}
use Rattle.promises.proofs.Past.{left_so, log_after, Sound, less_newest, keep_back}

-- ---- "Kept changes: every granted request but Read and Take back."
abbrev Kept : Grant → Type 0
Kept g = (g ≡ Keep) ⊎ (g ≡ KeepNumbered)

-- the kinds whose grant is kept are those two out of all
pub change_kept : (q : Request) → IsChange q → Kept (grant_of q)
change_kept (Request.Enrol u new sort level c admin) k = inl refl
change_kept (Request.Establish u room) k = inl refl
change_kept (Request.JoinStaff u w room) k = inl refl
change_kept (Request.LeaveStaff u w room) k = inl refl
change_kept (Request.JoinOutsider u w room level c) k = inl refl
change_kept (Request.LeaveOutsider u w room) k = inl refl
change_kept (Request.Add u s v room) k = inl refl
change_kept (Request.Remove u s v room) k = inl refl
change_kept (Request.Import u s₁ v s₂ room) k = inr refl
change_kept (Request.Merge u s v room) k = inl refl
change_kept (Request.Disband u room) k = inl refl
change_kept (Request.MakeLead u w room) k = inl refl
change_kept (Request.EndLead u w room) k = inl refl
change_kept (Request.OpenInRoom u s room level c) k = inl refl
change_kept (Request.OpenInHouse u s level c) k = inl refl
change_kept (Request.OpenReadOnly u s level c) k = inl refl
change_kept (Request.Read s x v) k = absurd (k.no_read (is_read s x v))
change_kept (Request.Update s x v) k = inr refl
change_kept (Request.Create s x) k = inr refl
change_kept (Request.Kill u s) k = inl refl
change_kept (Request.TakeBack u) k = absurd (k.no_take_back (is_take_back u))

pub read_passes : {q : Request} → IsRead q → grant_of q ≡ Pass
read_passes (is_read x s v) = refl

back_undoes : {q : Request} → IsTakeBack q → grant_of q ≡ Grant.TakeBack
back_undoes (is_take_back u) = refl

pub kept_change : (q : Request) → Kept (grant_of q) → IsChange q
kept_change q k = record { no_read = λ r. no_pass k (read_passes r); no_take_back = λ r. no_undo k (back_undoes r) }
  where
    no_pass : Kept (grant_of q) → grant_of q ≡ Pass → ⊥
    no_pass (inl e) p = differ cc
    no_pass (inr e) p = differ cc

    no_undo : Kept (grant_of q) → grant_of q ≡ Grant.TakeBack → ⊥
    no_undo (inl e) p = differ cc
    no_undo (inr e) p = differ cc

-- ---- at any desk
module _ (rule : Rule) (d : Desk House Change) (q : Request) where
  abbrev so : Outcome House Change
  so = step (desk_rules rule) d q

  granted_told : {o : Outcome House Change} → so ≡ o → grants so.answer ≡ grants o.answer
  granted_told s = ap (λ (o : Outcome House Change). grants o.answer) s

  -- a kept change, with the number that it bears
  record Made : Type 0 where
    number : ℕ
    last : ℕ
    desk : so.desk ≡ keep_change (desk_rules rule) d (change_of q number) last
    given : number ≡ number_in so.answer

  made_so : grants so.answer ≡ true → IsChange q → Made
  made_so g c = go (change_kept q c) (way rule d q)
    where
      go : Kept (grant_of q) → Way rule d q so → Made
      go e (by_rule r k s) = clash g (granted_told s)
      go e (no_number a k l s) = clash g (granted_told s)
      go e (no_change a k l s) = clash g (granted_told s)
      go (inl e) (read a k s) = differ cc
      go (inr e) (read a k s) = differ cc
      go e (plain a k s) = record {
        number = 0;
        last = d.last;
        desk = ap (λ (o : Outcome House Change). o.desk) s;
        given = sym (ap (λ (o : Outcome House Change). number_in o.answer) s);
      }
      go e (with_number a k l s) = record {
        number = d.last + 1;
        last = d.last + 1;
        desk = ap (λ (o : Outcome House Change). o.desk) s;
        given = sym (ap (λ (o : Outcome House Change). number_in o.answer) s);
      }
      go (inl e) (back a k n t) = differ cc
      go (inr e) (back a k n t) = differ cc

  -- every granted request but Read and Take back is kept: it is the newest change then
  pub every_grant_kept : grants so.answer ≡ true → IsChange q → so.desk.log ≡ pushed d.log (change_of q (number_in so.answer))
  every_grant_kept g c =
      let m = made_so g c in
      ap (λ (e : Desk House Change). e.log) m.desk ∙ log_after (desk_rules rule) d (change_of q m.number) m.last
      ∙ ap (λ (n : ℕ). pushed d.log (change_of q n)) m.given

  -- a Read, and whatever was refused, changes nothing at all
  pub idle_stays : Idle q so.answer → so.desk ≡ d
  idle_stays (refused n e) = (refusal rule d q n e).unchanged
  idle_stays (reads r) = go (read_passes r) (way rule d q)
    where
      same : {o : Outcome House Change} → so ≡ o → so.desk ≡ o.desk
      same s = ap (λ (o : Outcome House Change). o.desk) s

      go : grant_of q ≡ Pass → Way rule d q so → so.desk ≡ d
      go p (by_rule r k s) = same s
      go p (no_number a k l s) = same s
      go p (no_change a k l s) = same s
      go p (read a k s) = same s
      go p (plain a k s) = differ cc
      go p (with_number a k l s) = differ cc
      go p (back a k n t) = differ cc

-- a granted Take back takes the newest kept change, and is not kept itself
pub takes_newest : (rule : Rule) (d : Desk House Change) (u : ℕ) → grants (step (desk_rules rule) d (Request.TakeBack u)).answer ≡ true → TakenBack (desk_rules rule) d (step (desk_rules rule) d (Request.TakeBack u))
takes_newest rule d u g = go (way rule d (Request.TakeBack u))
  where
    go : Way rule d (Request.TakeBack u) (step (desk_rules rule) d (Request.TakeBack u)) → TakenBack (desk_rules rule) d (step (desk_rules rule) d (Request.TakeBack u))
    go (by_rule r k s) = clash g (granted_told rule d (Request.TakeBack u) s)
    go (no_number a k l s) = clash g (granted_told rule d (Request.TakeBack u) s)
    go (no_change a k l s) = clash g (granted_told rule d (Request.TakeBack u) s)
    go (read a k s) = differ cc
    go (plain a k s) = differ cc
    go (with_number a k l s) = differ cc
    go (back a k n t) = t

pub idle_run : (rule : Rule) (d : Desk House Change) (rs : List Request) → EachAnswered Idle rs (answers (desk_rules rule) d rs) → run (desk_rules rule) d rs ≡ d
idle_run rule d [] e = refl
idle_run rule d (q ∷ rs) e = idle_run rule (step (desk_rules rule) d q).desk rs e.1 ∙ idle_stays rule d q e.0

-- ---- "A Take back can't itself be taken back": the next one takes the change before
pub back_for_good : (rule : Rule) (d : Desk House Change) (u : ℕ) (rs : List Request) (w : ℕ) → ThenBack rule d (Request.TakeBack u) rs w
    → BothBack rule d (step (desk_rules rule) (at_last rule d (Request.TakeBack u) rs) (Request.TakeBack w))
back_for_good rule d u rs w b =
    let once = next_desk rule d (Request.TakeBack u) in
    let p = left_so (takes_newest rule (at_last rule d (Request.TakeBack u) rs) w b.back) ∙ ap less (idle_run rule once rs b.idle ∙ left_so (takes_newest rule d u b.granted)) in
    record {
      log = ap (λ (e : Desk House Change). e.log) p;
      last = ap (λ (e : Desk House Change). e.last) p;
      records = ap (λ (e : Desk House Change). e.current) p;
    }
  where
    less : Desk House Change → Desk House Change
    less e = record { base = e.base; log = popped e.log; current = changed (desk_rules rule) e.base (popped e.log); last = e.last }

-- ---- back as it stood
-- at every reached desk the records are those of the base and all kept changes
reached_sound : {S C Q : Type 0} (R : Rulebook S C Q) (start : S) (last : ℕ) (qs : List Q) → Sound R (λ _. Unit {0}) (run R (opened start last) qs)
reached_sound R start last qs = record { made = made; each = λ k. tt }
  where
    made : (run R (opened start last) qs).current ≡ changed R (run R (opened start last) qs).base (run R (opened start last) qs).log
    made =
        let a = run_agrees R start (opened start last) (blank last) (opened_agrees R start last) qs in
        let d = run R (opened start last) qs in
        a.now ∙ ap (foldl R.apply start) a.split ∙ foldl-append R.apply start a.older d.log
        ∙ ap (λ (s : _). changed R s d.log) (sym a.base_is)

-- a granted change, then requests that are refused or only read, then a granted Take back: the records are those before the change; the number stays
pub back_as_it_stood : (rule : Rule) (h : House) (last : ℕ) (before : List Request) (q : Request) (rs : List Request) (u : ℕ) → IsChange q → ThenBack rule (reached_desk rule h last before) q rs u
    → AsItStood rule (reached_desk rule h last before) q (step (desk_rules rule) (at_last rule (reached_desk rule h last before) q rs) (Request.TakeBack u))
back_as_it_stood rule h last before q rs u c b =
    let stood = reached_desk rule h last before in
    let t = takes_newest rule (at_last rule stood q rs) u b.back in
    let m = made_so rule stood q b.granted c in
    let same = idle_run rule (next_desk rule stood q) rs b.idle in
    record {
      records = t.records ∙ ap (less_newest (desk_rules rule)) (same ∙ m.desk)
          ∙ keep_back (desk_rules rule) (λ _. Unit {0}) stood (reached_sound (desk_rules rule) h last before) (change_of q m.number) m.last;
      number = t.last ∙ ap (λ (e : Desk House Change). e.last) same;
    }
