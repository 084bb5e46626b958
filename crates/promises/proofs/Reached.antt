-- 01: "Every desk reached from an opening meets these record rules".
use Rattle.std.specs.Prelude.{Ok}
use Prim.Native.Nat.{ℕ, zero, suc, ◌+◌, ◌≤◌, ◌<◌}
use mathlib.Core.Path.{ap, ◌≡◌, sym, ◌∙◌, subst}
use mathlib.Core.Bool.{true}
use mathlib.Core.List.{List, [], ◌∷◌}
use native.Mathlib.Omega.{arith}
use lib.ListN.{take}
use Rattle.request.specs.declared.Request.{Request}
use Rattle.records.specs.Lists.{all}
use Rattle.records.specs.House.{House}
use Rattle.records.specs.declared.Rule.{Rule}
use Rattle.effects.specs.Effects.{change_of, applied}
use Rattle.effects.specs.declared.Change.{Change}
use Rattle.reasons.specs.Asking.{AllHold}
use Rattle.judge.specs.declared.Grant.{Grant}
use Rattle.judge.specs.declared.Grant.TheVariants.{Keep, KeepNumbered}
use Rattle.judge.specs.Kinds.{lines_of, grant_of, ruling_of}
use Rattle.judge.proofs.Order.{granted_exactly}
use Rattle.counter.specs.Numbers.{top}
use Rattle.history.specs.Machine.{Desk, Outcome, opened, keep_change, step, run}
use Rattle.history.specs.Desk.{desk_rules}
use Rattle.rules.specs.Rules.{rules}
use Rattle.promises.specs.Events.{reached_desk}
use Rattle.promises.specs.Seen.{moment}
use Rattle.promises.specs.Fits.{fits}
use Rattle.rules.proofs.Bools.{left, right}
use Rattle.rules.proofs.Meaning.{rules_are}
use Rattle.promises.proofs.Kept.{kept, kept_numbered, later}
use Rattle.promises.proofs.Past.{last_after_lem, Sound, sound_opened, now_holds, sound_keep, sound_back}
use Rattle.promises.proofs.Ways.{Way, by_rule, no_number, no_change, read, plain, with_number, back, way}

abbrev pub Meets : ℕ → House → Type 0
Meets last h = rules h last ≡ true

abbrev pub Fine : Rule → Desk House Change → Type 0
Fine rule d = Sound (desk_rules rule) (Meets d.last) d

module _ (rule : Rule) (d : Desk House Change) (S : Fine rule d) where
  pub meets : rules d.current d.last ≡ true
  meets = now_holds (desk_rules rule) (Meets d.last) d S

  below_top : d.last ≤ top
  below_top = ((rules_are d.current d.last).says meets).counter

  pub steps : (q : Request) → fits q ≡ true → Fine rule (step (desk_rules rule) d q).desk
  unfolding applied
  steps q w = go (way rule d q)
    where
      so : {o : Outcome House Change} → step (desk_rules rule) d q ≡ o → Fine rule o.desk → Fine rule (step (desk_rules rule) d q).desk
      so e f = subst (λ (o : Outcome House Change). Fine rule o.desk) (sym e) f

      ruling : (g : Grant) → grant_of q ≡ g → AllHold (lines_of rule d.current q) → ruling_of rule d.current q ≡ Ok g
      ruling g e a = (granted_exactly rule d.current q).1 a ∙ ap Ok e

      keeps : (c : Change) (n : ℕ) → d.last ≤ n → n ≤ top → rules (applied d.current c) n ≡ true → Fine rule (keep_change (desk_rules rule) d c n)
      keeps c n le fits_in next =
          subst (λ (m : ℕ). Sound (desk_rules rule) (Meets m) (keep_change (desk_rules rule) d c n)) (sym (last_after_lem (desk_rules rule) d c n))
          (sound_keep (desk_rules rule) (Meets d.last) d S (Meets n) (λ h k. later rule h d.last k n le fits_in) c n next)

      go : Way rule d q (step (desk_rules rule) d q) → Fine rule (step (desk_rules rule) d q).desk
      go (by_rule r e s) = so s S
      go (no_number a k l s) = so s S
      go (no_change a k l s) = so s S
      go (read a k s) = so s S
      go (plain a k s) = so s (keeps (change_of q 0) d.last (omega arith) below_top (kept rule d.current d.last meets q w (ruling Keep k a) 0))
      go (with_number a k n s) =
          let l : d.last < top = omega (arith, n, below_top) in
          so s (keeps (change_of q (d.last + 1)) (d.last + 1) (omega arith) (omega arith)
          (kept_numbered rule d.current d.last meets q w (ruling KeepNumbered k a) l))
      go (back a k n t) = subst (λ (m : ℕ). Sound (desk_rules rule) (Meets m) (step (desk_rules rule) d q).desk) (sym t.last) (sound_back (desk_rules rule) (Meets d.last) d S t)

runs : (rule : Rule) (d : Desk House Change) → Fine rule d → (qs : List Request) → all fits qs ≡ true → Fine rule (run (desk_rules rule) d qs)
runs rule d S [] w = S
runs rule d S (q ∷ qs) w = runs rule (step (desk_rules rule) d q).desk (steps rule d S q (left (fits q) (all fits qs) w)) qs (right (fits q) (all fits qs) w)

-- where the records and the last number that a desk opens with meet the rules, so do those that any requests lead to
pub reached : (rule : Rule) (h : House) (last : ℕ) → rules h last ≡ true → (qs : List Request) → all fits qs ≡ true
    → rules (reached_desk rule h last qs).current (reached_desk rule h last qs).last ≡ true
reached rule h last m qs w = meets rule (reached_desk rule h last qs) (runs rule (opened h last) (sound_opened (desk_rules rule) (Meets last) h last m) qs w)

-- so what the rules say of records holds at every moment of a run
module _ (rule : Rule) (P : House → Type 0) (told : (h : House) (last : ℕ) → rules h last ≡ true → P h) where
  from_desk : (d : Desk House Change) → Fine rule d → (qs : List Request) → all fits qs ≡ true → (k : ℕ) → P (run (desk_rules rule) d (take k qs)).current
  from_desk d S qs w zero = told d.current d.last (meets rule d S)
  from_desk d S [] w (suc k) = told d.current d.last (meets rule d S)
  from_desk d S (q ∷ qs) w (suc k) =
      from_desk (step (desk_rules rule) d q).desk (steps rule d S q (left (fits q) (all fits qs) w)) qs (right (fits q) (all fits qs) w) k

  pub at_moments : (h : House) (last : ℕ) → rules h last ≡ true → (qs : List Request) → all fits qs ≡ true → (k : ℕ) → P (moment rule h last qs k)
  at_moments h last m = from_desk (opened h last) (sound_opened (desk_rules rule) (Meets last) h last m)
