-- Where the record of the rule would stand, directly after the counter, there is a 46 under rule 2 alone: no other record begins so.
use Prim.Native.Nat.{ℕ, suc}
use mathlib.Core.Path.{◌≡◌, refl}
use mathlib.Core.Bool.{Bool, true, false, cond}
use mathlib.Core.List.{List, [], ◌∷◌, ◌++◌}
use lib.Dec.{eqb}
use Rattle.request.specs.Bytes.{◌#◌}
use Rattle.records.specs.Places.{has, room_numbers}
use Rattle.records.specs.House.{House}
use Rattle.records.specs.declared.Rule.{Rule}
use Rattle.image.specs.Forms.{Form, written, written_if, listed}
use Rattle.image.specs.Image.{is_two, user_form, room_form, script_form, session_form, draft_form, image_of}

-- bytes that do not begin with 46, among them none
record Plain (b : List ℕ) : Type 0 where
  begins : eqb (b # 0) 0x46 ≡ false

infixl 30 ◌then◌
◌then◌ : {a b : List ℕ} → Plain a → Plain b → Plain (a ++ b)
◌then◌ {a} {b} p q = go a p
  where
    go : (a : List ℕ) → Plain a → Plain (a ++ b)
    go [] p = q
    go (x ∷ xs) p = record { begins = p.begins }

nothing : Plain []
nothing = record { begins = refl }

plain_if : {A : Type 0} (form : Form A) (there : A → Bool) → eqb form.kind 0x46 ≡ false → (n : ℕ) (x : A) → Plain (written_if form there n x)
plain_if form there k n x = go (there x)
  where
    go : (t : Bool) → Plain (cond t (written form n x) [])
    go true = record { begins = k }
    go false = nothing

plain_listed : {A : Type 0} (f : ℕ → A → List ℕ) → ((n : ℕ) (x : A) → Plain (f n x)) → (n : ℕ) (xs : List A) → Plain (listed f n xs)
plain_listed f each n [] = nothing
plain_listed f each n (x ∷ xs) = each n x then plain_listed f each (suc n) xs

-- the counter is five bytes, so place 5 is directly after it
pub rule_byte : (h : House) (last : ℕ) (rule : Rule) → eqb (image_of h last rule # 5) 0x46 ≡ is_two rule
unfolding image_of
rule_byte h last Rule.Two = refl
rule_byte h last Rule.One =
    let us = plain_listed (written_if user_form (λ u. u.here)) (plain_if user_form (λ u. u.here) refl) 0 h.users in
    let rs = plain_listed (written_if room_form (has h.rooms)) (plain_if room_form (has h.rooms) refl) 0 room_numbers in
    let ss = plain_listed (written_if script_form (λ s. s.here)) (plain_if script_form (λ s. s.here) refl) 0 h.scripts in
    let xs = plain_listed (written_if session_form (λ s. s.here)) (plain_if session_form (λ s. s.here) refl) 0 h.sessions in
    let ds = plain_listed (written draft_form) (λ n d. record { begins = refl }) 0 h.drafts in
    (us then rs then ss then xs then ds).begins
