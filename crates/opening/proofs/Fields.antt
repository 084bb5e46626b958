-- Fields that are written out are read back, each by its width.
use Prim.Native.Nat.{ℕ, ◌+◌, ◌/◌, ◌%◌}
use mathlib.Core.Path.{◌≡◌, refl, sym, ap, ◌∙◌}
use mathlib.Core.List.{List, [], ◌∷◌, ◌++◌, append_assoc}
use native.Mathlib.Omega.{arith}
use native.Mathlib.Nat.{add-zero}
use lib.ListN.{length, drop, length-append}
use lib.Seq.{get_or-drop, drop-drop}
use Rattle.request.specs.Bytes.{◌#◌}
use Rattle.request.proofs.RoundTrip.{quad_forth}
use Rattle.image.specs.Forms.{Width, one, two, four, size, sizes, spell, spelt, field_at, fields_at}

-- as many values as fields
abbrev pub Fill : List Width → List ℕ → Type 0
Fill [] [] = Unit {0}
Fill [] (v ∷ vs) = ⊥
Fill (w ∷ ws) [] = ⊥
Fill (w ∷ ws) (v ∷ vs) = Fill ws vs

pub length_spelt : (ws : List Width) (vs : List ℕ) → Fill ws vs → length (spelt ws vs) ≡ sizes ws
length_spelt [] [] f = refl
length_spelt [] (v ∷ vs) f = absurd f
length_spelt (w ∷ ws) [] f = absurd f
length_spelt (w ∷ ws) (v ∷ vs) f = length-append (spell w v) (spelt ws vs) ∙ (λ i. wide w i + length_spelt ws vs f i)
  where
    wide : (w : Width) → length (spell w v) ≡ size w
    wide one = refl
    wide two = refl
    wide four = refl

-- byte k behind byte i
byte : (b : List ℕ) (i k : ℕ) (l : List ℕ) → drop i b ≡ l → b # (i + k) ≡ l # k
byte b i k l e = sym (get_or-drop i b k 0) ∙ ap (λ (m : List ℕ). m # k) e

-- the leading byte of a field carries all that is left: no bound is needed
field_back : (w : Width) (v : ℕ) (b : List ℕ) (i : ℕ) (rest : List ℕ) → drop i b ≡ spell w v ++ rest → field_at w b i ≡ v
field_back one v b i rest e = rw (add-zero i) at (byte b i 0 (spell one v ++ rest) e)
field_back two v b i rest e =
    let z : b # i ≡ v / 256 = rw (add-zero i) at (byte b i 0 (spell two v ++ rest) e) in
    let y : b # (i + 1) ≡ v % 256 = byte b i 1 (spell two v ++ rest) e in
    rw (z, y) (omega arith)
field_back four v b i rest e =
    let z : b # i ≡ v / 16777216 = rw (add-zero i) at (byte b i 0 (spell four v ++ rest) e) in
    let y : b # (i + 1) ≡ v / 65536 % 256 = byte b i 1 (spell four v ++ rest) e in
    let x : b # (i + 2) ≡ v / 256 % 256 = byte b i 2 (spell four v ++ rest) e in
    let t : b # (i + 3) ≡ v % 256 = byte b i 3 (spell four v ++ rest) e in
    rw (z, y, x, t) (quad_forth v)

past : (w : Width) (v : ℕ) (rest : List ℕ) → drop (size w) (spell w v ++ rest) ≡ rest
past one v rest = refl
past two v rest = refl
past four v rest = refl

from_back : (ws : List Width) (vs : List ℕ) → Fill ws vs → (b : List ℕ) (i : ℕ) (rest : List ℕ) → drop i b ≡ spelt ws vs ++ rest → fields_at ws b i ≡ vs
from_back [] [] f b i rest e = refl
from_back [] (v ∷ vs) f b i rest e = absurd f
from_back (w ∷ ws) [] f b i rest e = absurd f
from_back (w ∷ ws) (v ∷ vs) f b i rest e =
    let whole : drop i b ≡ spell w v ++ (spelt ws vs ++ rest) = e ∙ append_assoc (spell w v) (spelt ws vs) rest in
    let later : drop (i + size w) b ≡ spelt ws vs ++ rest =
    sym (drop-drop (size w) i b) ∙ ap (drop (size w)) whole ∙ past w v (spelt ws vs ++ rest) in
    (λ j. field_back w v b i (spelt ws vs ++ rest) whole j ∷ from_back ws vs f b (i + size w) rest later j)

pub fields_back : (ws : List Width) (vs : List ℕ) → Fill ws vs → (rest : List ℕ) → fields_at ws (spelt ws vs ++ rest) 0 ≡ vs
fields_back ws vs f rest = from_back ws vs f (spelt ws vs ++ rest) 0 rest refl
