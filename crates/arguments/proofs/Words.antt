-- A word byte by byte.
use mathlib.Core.Path.{◌≡◌, refl}
use mathlib.Core.List.{List, [], ◌∷◌}
use Prim.Native.Nat.{ℕ}
use lib.ListN.{length, get_or}
use Rattle.std.proofs.lemmas.Slice.Eq.{text_from_reads}

pub six_bytes : (w : List ℕ) → length w ≡ 6 → w ≡ get_or w 0 0 ∷ get_or w 1 0 ∷ get_or w 2 0 ∷ get_or w 3 0 ∷ get_or w 4 0 ∷ get_or w 5 0 ∷ []
six_bytes w e = text_from_reads w _ e (refl, (refl, (refl, (refl, (refl, (refl, tt))))))
