-- At every moment of a run each session is within its owner's label, and so is what a granted Read reads.
use Prim.Native.Nat.{ℕ, zero, suc}
use mathlib.Core.Path.{◌≡◌, refl, subst}
use mathlib.Core.Bool.{Bool, true, false}
use mathlib.Core.List.{List, [], ◌∷◌}
use native.Mathlib.Omega.{arith}
use lib.ListN.{take}
use borrow.Author.Tests.{eqb-true}
use Rattle.request.specs.declared.Request.{Request}
use Rattle.request.specs.declared.Request.TheVariants.{Read}
use Rattle.records.specs.Lists.{all}
use Rattle.records.specs.House.{House, staff, script, session}
use Rattle.records.specs.declared.Rule.{Rule}
use Rattle.records.proofs.Places.{contains_has, has_none}
use Rattle.conditions.specs.Labels.{Covered}
use Rattle.conditions.proofs.Labels.{covered}
use Rattle.effects.specs.Elements.{in_no_room}
use Rattle.effects.specs.declared.Change.{Change}
use Rattle.reasons.specs.Shared.{covers, draft_asked}
use Rattle.judge.specs.Kinds.{lines_of}
use Rattle.history.specs.Machine.{Desk, opened, step, run, answers}
use Rattle.history.specs.Desk.{desk_rules}
use Rattle.rules.specs.Rules.{rules}
use Rattle.rules.proofs.Bools.{clash, left, right, itself, ◌and◌}
use Rattle.rules.proofs.Meaning.{rules_are}
use Rattle.promises.specs.Fits.{fits}
use Rattle.promises.specs.Grants.{grants}
use Rattle.promises.specs.Events.{answers_from}
use Rattle.promises.specs.Seen.{request_no, answer_at, moment}
use Rattle.promises.specs.Sight.{owner_of, SessionWithin, ReadWithin}
use Rattle.promises.proofs.Granted.{Hold, each_holds}
use Rattle.promises.proofs.Exactly.{exactly}
use Rattle.promises.proofs.Past.{sound_opened}
use Rattle.promises.proofs.Reached.{Meets, Fine, meets, steps, at_moments}

-- ---- of records that meet the rules
within : (h : House) (last : ℕ) → rules h last ≡ true → (x : ℕ) → SessionWithin h x
within h last m x =
    let w = (((rules_are h last).says m).seats.each x).within in
    record { no_higher = w.level_within; contained = contains_has (owner_of h x).categories (session h x).categories w.categories_within }

-- who is no staff and in no room owns no RW session: where a label is set, only RO sessions can be left to end
pub only_readers : (h : House) (last : ℕ) → rules h last ≡ true → (x : ℕ) → ((owner_of h x).sort ≡ staff → ⊥) → in_no_room (owner_of h x) ≡ true → (session h x).writes ≡ false
only_readers h last m x other nowhere = go (session h x).writes refl
  where
    go : (b : Bool) → (session h x).writes ≡ b → (session h x).writes ≡ false
    go false e = e
    go true e =
        let f = (((rules_are h last).says m).seats.each x).writing e in
        let member = f.room_member (λ z. other (f.house_staff z)) in
        clash (rw (eqb-true (owner_of h x).rooms 0 nowhere) at member) (has_none (session h x).place)

-- what the conditions of Read say of the session and the script
read_covered : (rule : Rule) (h : House) (x s v : ℕ) → Hold (lines_of rule h (Read x s v))
    → Covered (session h x).level (session h x).categories (script h s).level (script h s).categories
unfolding draft_asked covers
read_covered rule h x s v f =
    let k = session h x in
    let t = script h s in
    (covered k.place k.level k.categories t.origin t.level t.categories).says ((itself and itself).shown (f 6, f 7))

over : {l c m d n e : ℕ} → Covered l c m d → Covered m d n e → Covered l c n e
over a b = record { no_higher = omega (arith, a.no_higher, b.no_higher); contained = λ q k. a.contained q (b.contained q k) }

-- ---- of a run
module _ (rule : Rule) where
  reads : (d : Desk House Change) → Fine rule d → (qs : List Request) → all fits qs ≡ true → (k x s v : ℕ) → request_no qs k ≡ Read x s v
      → grants (answer_at (answers (desk_rules rule) d qs) k) ≡ true → ReadWithin (run (desk_rules rule) d (take k qs)).current x s
  reads d S [] w k x s v e g = clash g refl
  reads d S (q ∷ qs) w zero x s v e g =
      let g' = subst (λ (r : Request). grants (step (desk_rules rule) d r).answer ≡ true) e g in
      let a = ((exactly rule d (Read x s v)).granted_allowed g').conditions in
      over (within d.current d.last (meets rule d S) x) (read_covered rule d.current x s v (each_holds a))
  reads d S (q ∷ qs) w (suc k) x s v e g =
      reads (step (desk_rules rule) d q).desk (steps rule d S q (left (fits q) (all fits qs) w)) qs (right (fits q) (all fits qs) w) k x s v e g

  module _ (h : House) (last : ℕ) (m : rules h last ≡ true) (qs : List Request) (w : all fits qs ≡ true) where
    -- "from then on every session is within its owner's label at all times"
    pub sessions_within : (k x : ℕ) → SessionWithin (moment rule h last qs k) x
    sessions_within = at_moments rule (λ g. (x : ℕ) → SessionWithin g x) within h last m qs w

    -- a granted Read reads a script within the label that the session's owner has at that moment
    pub reads_within : (k x s v : ℕ) → request_no qs k ≡ Read x s v → grants (answer_at (answers_from rule h last qs) k) ≡ true → ReadWithin (moment rule h last qs k) x s
    reads_within = reads (opened h last) (sound_opened (desk_rules rule) (Meets last) h last m) qs w
