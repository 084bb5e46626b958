-- What the body of every row spells: one table over the rows, and what follows from it of any bytes.
use mathlib.Core.Path.{◌≡◌, refl, ap, ◌∙◌}
use mathlib.Core.List.{List, [], ◌∷◌, ◌++◌}
use Prim.Native.Nat.{ℕ, suc, ◌+◌, ◌≤◌, ◌<◌}
use native.Mathlib.Omega.{arith}
use lib.ListN.{length, length-append}
use Rattle.request.specs.Bytes.{◌#◌, pair, pair_at, quad, quad_at, pair_bytes, quad_bytes}
use Rattle.request.specs.Kinds.{Body, one, two, four, make, Row, rows}
use Rattle.request.specs.Reading.{fields_from}
use Rattle.request.specs.Writing.{Field, Spelling, ◌of◌, spelling, spelt, written}
use Rattle.request.specs.Framing.{kind_of}
use Rattle.request.specs.declared.Request.{Request}
use Rattle.request.proofs.Rows.{Each, ◌&◌}

-- whatever values its fields from byte i on have, the body ends at byte `end` and makes a request that is spelt with the kind and these fields behind `fs`
abbrev pub Spells : ℕ → List Field → ℕ → ℕ → Body → Type 0
Spells kind fs i end (one f) = (x : ℕ) → Spells kind (fs ++ (Field.one x ∷ [])) (i + 1) end (f x)
Spells kind fs i end (two f) = (x : ℕ) → Spells kind (fs ++ (Field.two x ∷ [])) (i + 2) end (f x)
Spells kind fs i end (four f) = (x : ℕ) → Spells kind (fs ++ (Field.four x ∷ [])) (i + 4) end (f x)
Spells kind fs i end (make q) = (spelling q ≡ (kind of fs)) × (i ≡ end)

abbrev pub Right : Row → Type 0
Right r = Spells r.kind [] 1 (1 + r.length) r.body

pub all_right : Each Right rows
all_right =
    (λ u new sort level c admin. (refl, refl))
    & (λ u room. (refl, refl))
    & (λ u w room. (refl, refl))
    & (λ u w room. (refl, refl))
    & (λ u w room level c. (refl, refl))
    & (λ u w room. (refl, refl))
    & (λ u script v room. (refl, refl))
    & (λ u script v room. (refl, refl))
    & (λ u script1 v script2 room. (refl, refl))
    & (λ u script v room. (refl, refl))
    & (λ u room. (refl, refl))
    & (λ u w room. (refl, refl))
    & (λ u w room. (refl, refl))
    & (λ u s room level c. (refl, refl))
    & (λ u s level c. (refl, refl))
    & (λ u s level c. (refl, refl))
    & (λ s script v. (refl, refl))
    & (λ s script v. (refl, refl))
    & (λ s script. (refl, refl))
    & (λ u s. (refl, refl))
    & (λ u. (refl, refl))
    & tt

module _ (kind end : ℕ) where
  pub onward : (p : Body) (fs : List Field) (i : ℕ) → Spells kind fs i end p → i ≤ end
  onward (one f) fs i s = let later = onward (f 0) (fs ++ (Field.one 0 ∷ [])) (i + 1) (s 0) in omega arith
  onward (two f) fs i s = let later = onward (f 0) (fs ++ (Field.two 0 ∷ [])) (i + 2) (s 0) in omega arith
  onward (four f) fs i s = let later = onward (f 0) (fs ++ (Field.four 0 ∷ [])) (i + 4) (s 0) in omega arith
  onward (make q) fs i s = omega (arith, s.1)

  -- ---- bytes that are alike up to the end make one request
  module _ (a b : List ℕ) (alike : (j : ℕ) → j < end → a # j ≡ b # j) where
    pub fields_alike : (p : Body) (fs : List Field) (i : ℕ) → Spells kind fs i end p → fields_from a i p ≡ fields_from b i p
    fields_alike (one f) fs i s =
        let x = b # i in
        let on = onward (f x) (fs ++ (Field.one x ∷ [])) (i + 1) (s x) in
        ap (λ (y : ℕ). fields_from a (i + 1) (f y)) (alike i (omega arith)) ∙ fields_alike (f x) (fs ++ (Field.one x ∷ [])) (i + 1) (s x)
    fields_alike (two f) fs i s =
        let x = pair_at b i in
        let on = onward (f x) (fs ++ (Field.two x ∷ [])) (i + 2) (s x) in
        let e : pair_at a i ≡ x = λ k. pair (alike i (omega arith) k) (alike (i + 1) (omega arith) k) in
        ap (λ (y : ℕ). fields_from a (i + 2) (f y)) e ∙ fields_alike (f x) (fs ++ (Field.two x ∷ [])) (i + 2) (s x)
    fields_alike (four f) fs i s =
        let x = quad_at b i in
        let on = onward (f x) (fs ++ (Field.four x ∷ [])) (i + 4) (s x) in
        let e : quad_at a i ≡ x =
        λ k. quad (alike i (omega arith) k) (alike (i + 1) (omega arith) k) (alike (i + 2) (omega arith) k) (alike (i + 3) (omega arith) k) in
        ap (λ (y : ℕ). fields_from a (i + 4) (f y)) e ∙ fields_alike (f x) (fs ++ (Field.four x ∷ [])) (i + 4) (s x)
    fields_alike (make q) fs i s = refl

-- ---- what is made of any bytes has the row's kind, and as many bytes as the row says
pub spelt_more : (fs : List Field) (f : Field) → spelt (fs ++ (f ∷ [])) ≡ spelt fs ++ spelt (f ∷ [])
spelt_more [] f = refl
spelt_more (Field.one x ∷ fs) f = ap (λ (t : List ℕ). x ∷ t) (spelt_more fs f)
spelt_more (Field.two x ∷ fs) f = ap (λ (t : List ℕ). pair_bytes x t) (spelt_more fs f)
spelt_more (Field.four x ∷ fs) f = ap (λ (t : List ℕ). quad_bytes x t) (spelt_more fs f)

longer : (fs : List Field) (f : Field) → length (spelt (fs ++ (f ∷ []))) ≡ length (spelt fs) + length (spelt (f ∷ []))
longer fs f = ap length (spelt_more fs f) ∙ length-append (spelt fs) (spelt (f ∷ []))

abbrev Headed : ℕ → ℕ → Request → Type 0
Headed kind end q = (kind_of q ≡ kind) × (length (written q) ≡ end)

module _ (b : List ℕ) (kind end : ℕ) where
  headed_from : (p : Body) (fs : List Field) (i : ℕ) → Spells kind fs i end p → suc (length (spelt fs)) ≡ i → Headed kind end (fields_from b i p)
  headed_from (one f) fs i s n = let x = b # i in headed_from (f x) (fs ++ (Field.one x ∷ [])) (i + 1) (s x) (omega (arith, longer fs (Field.one x), n))
  headed_from (two f) fs i s n = let x = pair_at b i in headed_from (f x) (fs ++ (Field.two x ∷ [])) (i + 2) (s x) (omega (arith, longer fs (Field.two x), n))
  headed_from (four f) fs i s n = let x = quad_at b i in headed_from (f x) (fs ++ (Field.four x ∷ [])) (i + 4) (s x) (omega (arith, longer fs (Field.four x), n))
  headed_from (make q) fs i s n = (
    ap (λ (t : Spelling). t.kind) s.0,
    ap (λ (t : Spelling). suc (length (spelt t.fields))) s.0 ∙ n ∙ s.1,
  )

pub headed : (b : List ℕ) (r : Row) → Right r → (kind_of (fields_from b 1 r.body) ≡ r.kind) × (length (written (fields_from b 1 r.body)) ≡ 1 + r.length)
headed b r s = headed_from b r.kind (1 + r.length) r.body [] 1 s refl
