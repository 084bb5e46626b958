-- What the functions' proofs cite: the oldest change, the number that was issued, a request that is judged, a change that is kept.
use Rattle.std.specs.Prelude.{Some, None, Result}
use mathlib.Core.Path.{◌≡◌, refl, ap, ◌∙◌}
use mathlib.Core.Bool.{Bool, true, false, cond}
use mathlib.Core.List.{List, [], ◌∷◌, ◌++◌, foldl}
use Prim.Native.Nat.{ℕ, ◌+◌, ◌<◌}
use native.Mathlib.Omega.{arith}
use lib.Dec.{eqb, ltb}
use lib.ListN.{length, get_or, take, drop}
use Rattle.request.specs.declared.Request.{Request}
use Rattle.request.proofs.Absurd.{differ}
use Rattle.records.specs.House.{House}
use Rattle.records.specs.declared.Rule.{Rule}
use Rattle.effects.specs.Effects.{applied}
use Rattle.effects.specs.declared.Change.{Change}
use Rattle.kept.specs.Log.{pushed}
use Rattle.counter.specs.Numbers.{top, next_after, last_after}
use Rattle.judge.specs.Kinds.{ruling_of}
use Rattle.judge.specs.declared.Grant.{Grant}
use Rattle.reasons.specs.declared.Reason.{Reason}
use Rattle.history.specs.Machine.{Desk, Outcome, keep_change, ruled, step}
use Rattle.history.specs.Desk.{desk_rules, verdict_of, settled}

pub first_one : (h : House) (l : List Change) (d : Change) → 0 < length l → applied h (get_or l 0 d) ≡ foldl applied h (take 1 l)
first_one h [] d k = absurd (omega arith)
first_one h (c ∷ cs) d k = refl

pub number_is_last : (last n : ℕ) → next_after last ≡ Some n → last_after last ≡ n
number_is_last last n e = by_top (eqb last top) e
  where
    by_top : (t : Bool) → cond t None (Some (last + 1)) ≡ Some n → cond t last (last + 1) ≡ n
    by_top true e = differ cc
    by_top false e = cc

-- a request that is judged, and then acted on by that ruling
pub taken_is : (rule : Rule) (d : Desk House Change) (q : Request) {o : Outcome House Change} {r : Result Grant Reason} → o ≡ ruled (desk_rules rule) d (verdict_of q r)
    → r ≡ ruling_of rule d.current q → o ≡ step (desk_rules rule) d q
unfolding step
taken_is rule d q p e = p ∙ ap (λ (x : Result Grant Reason). ruled (desk_rules rule) d (verdict_of q x)) e

-- the parts after a change that is kept, put together
module _ (rule : Rule) (b b' : House) (l l' : List Change) (h h' : House) (c : Change) (n m : ℕ) where
  pub kept_is : b' ≡ settled b l → l' ≡ pushed l c → h' ≡ applied h c
      → record { base = b'; log = l'; current = h'; last = n } ≡ keep_change (desk_rules rule) (record { base = b; log = l; current = h; last = m }) c n
  unfolding keep_change
  kept_is e f g = by_room (ltb (length l) 32) e f
    where
      by_room : (t : Bool) → b' ≡ cond t b (foldl applied b (take 1 l)) → l' ≡ cond t (l ++ (c ∷ [])) (drop 1 l ++ (c ∷ [])) → ◌≡◌ {A = Desk House Change}
          (record { base = b'; log = l'; current = h'; last = n })
          (cond t
          (record { base = b; log = l ++ (c ∷ []); current = applied h c; last = n })
          (record { base = foldl applied b (take 1 l); log = drop 1 l ++ (c ∷ []); current = applied h c; last = n }))
      by_room true e f = λ i. record { base = e i; log = f i; current = g i; last = n }
      by_room false e f = λ i. record { base = e i; log = f i; current = g i; last = n }
