-- What an answer of the judge says: a grant, that every fact holds; a refusal, that its reason is of the first fact that fails, and so has the lowest number that
-- applies, by the order of refusals.
use Rattle.std.specs.Prelude.{Ok, Err}
use Prim.Native.Nat.{ℕ, ◌≤◌}
use mathlib.Core.Path.{◌≡◌, sym, ap, ◌∙◌}
use mathlib.Core.Bool.{true, false}
use mathlib.Core.List.{List, [], ◌∷◌}
use native.Mathlib.Omega.{arith}
use lib.Dec.{eqb}
use Rattle.records.specs.Lists.{any}
use Rattle.records.specs.House.{House, empty_house}
use Rattle.records.specs.declared.Rule.{Rule}
use Rattle.request.specs.declared.Request.{Request}
use Rattle.reasons.specs.Asking.{Line, asked, AllHold, FirstFailing, Failing, numbers, once_after}
use Rattle.reasons.specs.Order.{rank, ascend_from}
use Rattle.reasons.specs.declared.Reason.{Reason}
use Rattle.reasons.proofs.Order.{all_hold, first_fails, Verdict, grant, refusal, verdict, lowest, ascend_front, once_ascends, holds_at}
use Rattle.judge.specs.declared.Grant.{Grant}
use Rattle.judge.specs.Kinds.{lines_of, grant_of, refusals, grant_if, ruling_of}
use Rattle.judge.proofs.Rows.{fine}

-- ---- of every list of lines, judged for a grant g
module _ (g : Grant) where
  -- where every fact holds, the answer is the grant
  pub all_granted : {ls : List Line} → AllHold ls → grant_if g (asked ls) ≡ Ok g
  all_granted a = rw (all_hold a)

  -- where r is the reason of the first fact that fails, the answer is that refusal
  pub first_refused : {r : Reason} {ls : List Line} → FirstFailing r ls → grant_if g (asked ls) ≡ Err r
  first_refused f = rw (first_fails f)

-- and the answer tells which
module _ (g : Grant) (ls : List Line) where
  pub granted_all : grant_if g (asked ls) ≡ Ok g → AllHold ls
  granted_all e = go (verdict ls)
    where
      go : Verdict ls → AllHold ls
      go (grant a) = a
      go (refusal r f) = cc (first_refused g f)

  pub refused_first : (r : Reason) → grant_if g (asked ls) ≡ Err r → FirstFailing r ls
  refused_first r e = go (verdict ls)
    where
      go : Verdict ls → FirstFailing r ls
      go (grant a) = cc (all_granted g a)
      go (refusal s f) =
          let z : s ≡ r = cc (first_refused g f) in
          rw (sym z) f

-- ---- of every house and request
-- the numbers of every kind's lines ascend in the order of refusals
pub lines_ascend : (rule : Rule) (h : House) (q : Request) → ascend_from 0 (numbers (lines_of rule h q)) ≡ true
lines_ascend rule h q = ascend_front 0 (numbers (lines_of rule h q)) (11 ∷ 12 ∷ []) (fine q rule h).0

module _ (rule : Rule) (h : House) (q : Request) where
  -- granted exactly where every fact of the kind holds
  pub granted_exactly : (ruling_of rule h q ≡ Ok (grant_of q) → AllHold (lines_of rule h q)) × (AllHold (lines_of rule h q) → ruling_of rule h q ≡ Ok (grant_of q))
  unfolding ruling_of
  granted_exactly = (granted_all (grant_of q) (lines_of rule h q), all_granted (grant_of q))

  -- refused with r exactly where r is the reason of the first fact that fails
  pub refused_exactly : (r : Reason) → (ruling_of rule h q ≡ Err r → FirstFailing r (lines_of rule h q)) × (FirstFailing r (lines_of rule h q) → ruling_of rule h q ≡ Err r)
  unfolding ruling_of
  refused_exactly r = (refused_first (grant_of q) (lines_of rule h q) r, first_refused (grant_of q))

  -- and then no fact fails whose number stands before in the order of refusals
  pub lowest_given : (r : Reason) (k : ℕ) → ruling_of rule h q ≡ Err r → Failing k (lines_of rule h q) → rank r.number ≤ rank k
  lowest_given r k e f = lowest 0 (lines_ascend rule h q) ((refused_exactly r).0 e) f

-- ---- the table of refusals
-- a kind's row has the numbers of its lines, each once
pub row_exact : (rule : Rule) (h : House) (q : Request) → once_after 0 (numbers (lines_of rule h q)) ≡ refusals q
row_exact rule h q = (fine q rule h).1

-- and they ascend in the order of refusals
pub row_ascends : (q : Request) → ascend_from 0 (refusals q) ≡ true
row_ascends q = rw (← row_exact Rule.One empty_house q) (once_ascends 0 0 (numbers (lines_of Rule.One empty_house q)) (lines_ascend Rule.One empty_house q))

-- a kind is refused only with a number of its row
pub refused_by_table : (rule : Rule) (h : House) (q : Request) (r : Reason) → ruling_of rule h q ≡ Err r → any (eqb r.number) (refusals q) ≡ true
refused_by_table rule h q r e = holds_at (λ m. any (eqb m) (refusals q)) (fine q rule h).2 ((refused_exactly rule h q r).0 e)
