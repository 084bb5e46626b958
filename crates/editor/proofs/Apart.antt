-- A caller can tell the answer for a bad label from every other answer.
use Rattle.std.specs.Prelude.{Option, Some, None}
use mathlib.Core.Path.{◌≡◌, refl}
use mathlib.Core.Bool.{Bool, true, false, cond}
use mathlib.Core.Logic.{◌⊎◌, inl, inr}
use Prim.Native.Nat.{ℕ, ◌^◌, ◌<◌}
use native.Mathlib.Omega.{arith}
use lib.Dec.{T}
use Rattle.label.specs.declared.Label.{Label}
use Rattle.label.specs.Labels.{nothing, dominates, good, join, pack, unpack}
use Rattle.label.proofs.Numbers.{NoLabel, bad_no_label, join_good, pack_unpack, unpack_pack}
use Rattle.editor.specs.Answers.{of_good, dominance_answer, bad_join, join_answer}

-- C3000000 is the number of no good label
pub bad_join_no_label : NoLabel bad_join
unfolding unpack
bad_join_no_label = bad_no_label bad_join refl

-- an answer that no two good labels get is got for a bad label alone
module _ (bad : ℕ) (ask : Label → Label → ℕ) where
  got_for_bad : (u v : Option Label) → ((x y : Label) → u ≡ Some x → v ≡ Some y → ask x y ≡ bad → ⊥)
      → of_good bad ask u v ≡ bad → (u ≡ None) ⊎ (v ≡ None)
  got_for_bad (Some x) (Some y) apart e = absurd (apart x y refl refl e)
  got_for_bad (Some x) None apart e = inr refl
  got_for_bad None v apart e = inl refl

-- dominance is 3 for a bad label alone
pub three_for_bad : (a b : ℕ) → dominance_answer a b ≡ 3 → (unpack a ≡ None) ⊎ (unpack b ≡ None)
three_for_bad a b =
    got_for_bad 3 (λ x y. cond (nothing (dominates x y)) 1 0) (unpack a) (unpack b) (λ x y p q. yes_or_no (nothing (dominates x y)))
  where
    yes_or_no : (t : Bool) → ◌≡◌ {A = ℕ} (cond t 1 0) 3 → ⊥
    yes_or_no true e = omega arith
    yes_or_no false e = omega arith

module _ (a b : ℕ) (small : a < 2 ^ 32) (small' : b < 2 ^ 32) (x y : Label) (p : unpack a ≡ Some x) (q : unpack b ≡ Some y) where
  good_join : T (good (join x y))
  good_join = join_good x y (pack_unpack a small x p).is_good (pack_unpack b small' y q).is_good

  -- of good labels the join is answered as its own number, which is no bad label
  pub join_of_good : unpack (join_answer a b) ≡ Some (join x y)
  join_of_good = rw (p, q) (unpack_pack (join x y) good_join)

-- the join is C3000000 for a bad label alone
pub bad_join_for_bad : (a b : ℕ) → a < 2 ^ 32 → b < 2 ^ 32 → join_answer a b ≡ bad_join → (unpack a ≡ None) ⊎ (unpack b ≡ None)
bad_join_for_bad a b small small' =
    got_for_bad bad_join (λ x y. pack (join x y)) (unpack a) (unpack b)
    (λ x y p q e. bad_join_no_label (join x y) (record { is_good = good_join a b small small' x y p q; packed = e }))
