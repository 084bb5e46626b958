-- Labels as 32-bit numbers: packing and unpacking undo each other on good labels, every other number is bad, and joins of good labels are good.
use Rattle.std.specs.Prelude.{Option, Some, None}
use mathlib.Core.Path.{◌≡◌, refl, sym, subst}
use mathlib.Core.Bool.{Bool, true, false, cond, ◌&&◌, ◌||◌}
use Prim.Native.Nat.{ℕ, ◌+◌, ◌*◌, ◌^◌, ◌≤◌, ◌<◌, max}
use native.Mathlib.Omega.{arith}
use lib.Dec.{T, eqb, leb, ltb, leb→le}
use lib.Bits.{bit_or}
use lib.Ieee.Fits.{and_l, and_r}
use borrow.Author.Tests.{ne_eqb, eqb-true, le-leb, le-ltb, ltb-false}
use Rattle.label.specs.Labels.{good, join, pack, unpack, place_of, level_of, categories_of}
use Rattle.label.specs.declared.Label.{Label}
use Rattle.label.specs.declared.Label.TheVariants.{High, Low, At}
use Rattle.label.proofs.Sets.{union_below}

-- what it takes for a label at a place to be good
pub record Bounded (p l c : ℕ) : Type 0 where
  pub place : p ≤ 16
  pub level : l ≤ 7
  pub categories : c ≤ 0xFFFF

module _ (p l c : ℕ) where
  pub good→bounded : T (good (At p l c)) → Bounded p l c
  good→bounded t =
      let both = and_l (leb p 16 && leb l 7) (leb c 0xFFFF) t in
      record {
        place = leb→le p 16 (and_l (leb p 16) (leb l 7) both);
        level = leb→le l 7 (and_r (leb p 16) (leb l 7) both);
        categories = leb→le c 0xFFFF (and_r (leb p 16 && leb l 7) (leb c 0xFFFF) t);
      }

  pub bounded→good : Bounded p l c → T (good (At p l c))
  bounded→good h = simp (le-leb _ _ h.place, le-leb _ _ h.level, le-leb _ _ h.categories) tt

-- the join of good labels is a good label
pub join_good : (a b : Label) → T (good a) → T (good b) → T (good (join a b))
join_good High b s t = tt
join_good Low b s t = t
join_good (At p l c) High s t = tt
join_good (At p l c) Low s t = s
join_good (At p l c) (At q m d) s t = by_place (eqb p q)
  where
    by_place : (same : Bool) → T (good (cond same (At p (max l m) (bit_or c d)) High))
    by_place true =
        let x = good→bounded p l c s in
        let y = good→bounded q m d t in
        let union : bit_or c d < 2 ^ 16 = union_below 16 c d (omega arith) (omega arith) in
        bounded→good p (max l m) (bit_or c d) (record { place = x.place; level = omega arith; categories = omega arith })
    by_place false = tt

-- a good label, "as a 32-bit number", stands for itself
pub unpack_pack : (a : Label) → T (good a) → unpack (pack a) ≡ Some a
unfolding unpack
unpack_pack High t = refl
unpack_pack Low t = refl
unpack_pack (At p l c) t =
    let h = good→bounded p l c t in
    let n : ℕ = p * 2 ^ 24 + l * 2 ^ 16 + c in
    let place : place_of n ≡ p = omega arith in
    let level : level_of n ≡ l = omega arith in
    let categories : categories_of n ≡ c = omega arith in
    simp (
      ne_eqb n 0xFF00_0000 (λ e. omega arith),
      ne_eqb n 0xFE00_0000 (λ e. omega arith),
      place,
      level,
      categories,
      le-ltb _ _ h.place,
      le-ltb _ _ h.level,
    )

-- n is the number of the good label a
pub record NumberOf (a : Label) (n : ℕ) : Type 0 where
  pub is_good : T (good a)
  pub packed : pack a ≡ n

-- what an answer of unpacking says of the number
abbrev Meaning : ℕ → Option Label → Type 0
Meaning n (Some a) = NumberOf a n
Meaning n None = T true

module _ (n : ℕ) (small : n < 2 ^ 32) where
  by_tests : (high low far above : Bool) → eqb n 0xFF00_0000 ≡ high → eqb n 0xFE00_0000 ≡ low
      → ltb 16 (place_of n) ≡ far → ltb 7 (level_of n) ≡ above
      → Meaning n (cond high (Some High) (cond low (Some Low) (cond (far || above) None (Some (At (place_of n) (level_of n) (categories_of n))))))
  by_tests true low far above h k p l = record { is_good = tt; packed = sym (eqb-true n _ h) }
  by_tests false true far above h k p l = record { is_good = tt; packed = sym (eqb-true n _ k) }
  by_tests false false true above h k p l = tt
  by_tests false false false true h k p l = tt
  by_tests false false false false h k p l =
      record {
        is_good = bounded→good (place_of n) (level_of n) (categories_of n)
            (record { place = ltb-false 16 _ p; level = ltb-false 7 _ l; categories = omega arith });
        packed = omega arith;
      }

  meaning : Meaning n (unpack n)
  unfolding unpack
  meaning =
      by_tests (eqb n 0xFF00_0000) (eqb n 0xFE00_0000) (ltb 16 (place_of n)) (ltb 7 (level_of n)) refl refl refl refl

  -- a 32-bit number that stands for a label is the number of that label, which is good
  pub pack_unpack : (a : Label) → unpack n ≡ Some a → NumberOf a n
  pack_unpack a e = subst (Meaning n) e meaning

-- n is the number of no good label
abbrev pub NoLabel : ℕ → Type 0
NoLabel n = (a : Label) → NumberOf a n → ⊥

-- A bad label is the number of no good label ..
pub bad_no_label : (n : ℕ) → unpack n ≡ None → NoLabel n
bad_no_label n bad a h =
    let read : unpack (pack a) ≡ Some a = unpack_pack a h.is_good in
    let z : ◌≡◌ {A = ℕ} 0 1 = cc h.packed in
    omega arith

-- .. and "any other number", one of 32 bits that is the number of no good label, "is a bad label".
pub no_label_bad : (n : ℕ) → n < 2 ^ 32 → NoLabel n → unpack n ≡ None
no_label_bad n small none = by_reading (unpack n) refl
  where
    by_reading : (u : Option Label) → unpack n ≡ u → unpack n ≡ None
    by_reading (Some a) e = absurd (none a (pack_unpack n small a e))
    by_reading None e = e
