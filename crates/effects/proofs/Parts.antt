-- A loop that drops elements of one part of a house and leaves the other parts: the laws of Lists, over any part.
use Prim.Native.Nat.{ℕ, ◌+◌, ◌≤◌, ◌<◌}
use mathlib.Core.Path.{◌≡◌, sym, ap, ◌∙◌}
use mathlib.Core.Bool.{Bool, true, false}
use lib.ListN.{length, take, get_or, set}
use Rattle.records.specs.Lists.{filter}
use Rattle.records.specs.House.{House}
use Rattle.sessions.proofs.InPlace.{Part}
use Rattle.effects.proofs.Lists.{MovedUp, none_moved, moved_kept, moved_cut, moved_all}

module _ {A : Type 0} (q : Part A) (h₀ : House) (p : A → Bool) where
  pub record Sifted (i n : ℕ) (h : House) : Type 0 where
    pub only : h ≡ q.put h₀ (q.get h)
    pub moved : MovedUp p (q.get h₀) i n (q.get h)

  pub sift_start : (i : ℕ) → filter p (take i (q.get h₀)) ≡ take i (q.get h₀) → Sifted i i h₀
  sift_start i e = record { only = sym (q.same h₀); moved = none_moved p (q.get h₀) i e }

  pub sift_keep : (i n : ℕ) (h k : House) (d : A) → Sifted i n h → i < length (q.get h₀) → p (get_or (q.get h) i d) ≡ true
      → k ≡ q.put h (set (q.get h) n (get_or (q.get h) i d)) → Sifted (i + 1) (n + 1) k
  sift_keep i n h k d m l t s =
      let v = get_or (q.get h) i d in
      let g : q.get k ≡ set (q.get h) n v = ap q.get s ∙ q.got h (set (q.get h) n v) in
      record {
        only = s ∙ ap (λ (x : House). q.put x (set (q.get h) n v)) m.only ∙ q.twice h₀ (q.get h) (set (q.get h) n v) ∙ ap (q.put h₀) (sym g);
        moved = rw g (moved_kept p (q.get h₀) i n (q.get h) d m.moved l t);
      }

  pub sift_cut : (i n : ℕ) (h : House) (d : A) → Sifted i n h → i < length (q.get h₀) → p (get_or (q.get h) i d) ≡ false → Sifted (i + 1) n h
  sift_cut i n h d m l t = record { only = m.only; moved = moved_cut p (q.get h₀) i n (q.get h) d m.moved l t }

  pub sift_finish : (i n : ℕ) (h k : House) → Sifted i n h → length (q.get h₀) ≤ i → k ≡ q.put h (take n (q.get h)) → k ≡ q.put h₀ (filter p (q.get h₀))
  sift_finish i n h k m l s =
      s ∙ ap (λ (x : House). q.put x (take n (q.get h))) m.only ∙ q.twice h₀ (q.get h) (take n (q.get h))
      ∙ ap (q.put h₀) (moved_all p (q.get h₀) i n (q.get h) m.moved l)
