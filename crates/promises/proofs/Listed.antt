-- "A refusal is one listed number, changes nothing in the records", and its byte is "C0 plus n": of any desk and any request.
use Prim.Native.Nat.{ℕ, ◌≤◌}
use mathlib.Core.Path.{◌≡◌, refl, sym, ap, subst, ◌∙◌}
use mathlib.Core.Bool.{Bool, true, false, ◌||◌}
use mathlib.Core.List.{List, [], ◌∷◌}
use native.Mathlib.Omega.{arith}
use lib.Dec.{eqb, leb}
use borrow.Author.Tests.{eqb-true, leb-true}
use Rattle.request.specs.declared.Request.{Request}
use Rattle.request.proofs.Absurd.{differ}
use Rattle.records.specs.Lists.{any, all}
use Rattle.records.specs.House.{House}
use Rattle.records.specs.declared.Rule.{Rule}
use Rattle.effects.specs.declared.Change.{Change}
use Rattle.judge.specs.Kinds.{refusals}
use Rattle.reasons.specs.Order.{order, is_refusal}
use Rattle.reasons.proofs.Order.{all_refusals}
use Rattle.judge.proofs.Order.{refused_by_table, row_ascends}
use Rattle.history.specs.Machine.{Desk, Outcome, step, answers}
use Rattle.history.specs.Desk.{desk_rules}
use Rattle.history.specs.declared.Answer.TheVariants.{Granted, Refused}
use Rattle.rules.specs.Lists.{Each}
use Rattle.promises.specs.Grants.{Listed, in_row, no_number, no_change, Refusal, ToRequest}
use Rattle.rules.proofs.Bools.{clash, left, right}
use Rattle.promises.proofs.Ways.{Way, by_rule, read, plain, with_number, back, way}

of_all : (p : ℕ → Bool) (n : ℕ) (l : List ℕ) → any (eqb n) l ≡ true → all p l ≡ true → p n ≡ true
of_all p n [] a b = clash a refl
of_all p n (x ∷ xs) a b = go (eqb n x) refl a (λ r. of_all p n xs r (right (p x) (all p xs) b))
  where
    go : (t : Bool) → eqb n x ≡ t → (t || any (eqb n) xs) ≡ true → (any (eqb n) xs ≡ true → p n ≡ true) → p n ≡ true
    go true e a later = ap p (eqb-true n x e) ∙ left (p x) (all p xs) b
    go false e a later = later a

-- a listed number is one of the order of refusals
pub in_order : (q : Request) (n : ℕ) → Listed q n → is_refusal n ≡ true
in_order q n (in_row r) = of_all is_refusal n (refusals q) r (all_refusals 0 (refusals q) (row_ascends q))
in_order q n (no_number e k) = ap is_refusal e
in_order q n (no_change e k) = ap is_refusal e

-- none of which is over 16
small : (n : ℕ) → is_refusal n ≡ true → n ≤ 16
small n r = leb-true n 16 (of_all (λ m. leb m 16) n order r refl)

module _ (rule : Rule) (d : Desk House Change) (q : Request) (n : ℕ) where
  -- the remainder by which the byte is defined takes nothing away
  refused_with : {o : Outcome House Change} → Listed q n → o.desk ≡ d → Refusal d q o n
  refused_with l same =
      let r = in_order q n l in
      record { listed = l; in_order = r; byte = ap (λ (x : ℕ). x ∷ []) (omega (arith, small n r)); unchanged = same }

  pub refusal : (step (desk_rules rule) d q).answer ≡ Refused n → Refusal d q (step (desk_rules rule) d q) n
  refusal e = go (way rule d q)
    where
      given : {o : Outcome House Change} → step (desk_rules rule) d q ≡ o → o.answer ≡ Refused n
      given s = sym (ap (λ (o : Outcome House Change). o.answer) s) ∙ e

      left_so : {o : Outcome House Change} → step (desk_rules rule) d q ≡ o → (step (desk_rules rule) d q).desk ≡ o.desk
      left_so s = ap (λ (o : Outcome House Change). o.desk) s

      go : Way rule d q (step (desk_rules rule) d q) → Refusal d q (step (desk_rules rule) d q) n
      go (by_rule r k s) =
          let z : r.number ≡ n = cc (given s) in
          refused_with (in_row (subst (λ (m : ℕ). any (eqb m) (refusals q) ≡ true) z (refused_by_table rule d.current q r k))) (left_so s)
      go (Way.no_number a k l s) = let z : 11 ≡ n = cc (given s) in refused_with (no_number (sym z) k) (left_so s)
      go (Way.no_change a k l s) = let z : 12 ≡ n = cc (given s) in refused_with (no_change (sym z) k) (left_so s)
      go (read a k s) = let g = given s in differ cc
      go (plain a k s) = let g = given s in differ cc
      go (with_number a k l s) = let g = given s in differ cc
      go (back a k l t) = let g : Granted ≡ Refused n = sym t.answer ∙ e in differ cc

-- "13 is never written", nor 1 or 2 to a request
to_request : (rule : Rule) (d : Desk House Change) (q : Request) → ToRequest (step (desk_rules rule) d q).answer
to_request rule d q = record { not_1 = λ e. none 1 e refl; not_2 = λ e. none 2 e refl; not_13 = λ e. none 13 e refl }
  where
    none : (n : ℕ) → (step (desk_rules rule) d q).answer ≡ Refused n → is_refusal n ≡ false → ⊥
    none n e f = clash (refusal rule d q n e).in_order f

pub never_13 : (rule : Rule) (d : Desk House Change) (qs : List Request) → Each ToRequest (answers (desk_rules rule) d qs)
never_13 rule d [] = tt
never_13 rule d (q ∷ qs) = (to_request rule d q, never_13 rule (step (desk_rules rule) d q).desk qs)
