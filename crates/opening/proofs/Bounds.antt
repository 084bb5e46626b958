-- An image of records that keep the rules is bytes: 01's bounds fit the widths of the fields.
use Prim.Native.Nat.{ℕ, zero, suc, ◌+◌, ◌≤◌, ◌<◌}
use mathlib.Core.Path.{◌≡◌, refl, sym, ◌∙◌}
use mathlib.Core.Bool.{Bool, true, false, cond}
use mathlib.Core.List.{List, [], ◌∷◌, ◌++◌}
use native.Mathlib.Omega.{arith}
use native.Mathlib.Decide.{ℕ_discrete, dec_le}
use lib.Dec.{leb}
use lib.Bits.{bit_and, and_le_l}
use lib.ListN.{length, get_or, get_or-eq_default}
use borrow.Author.Tests.{eqb-true}
use Rattle.request.specs.Bytes.{◌#◌}
use Rattle.records.specs.Places.{has, with, room_numbers}
use Rattle.records.specs.House.{no_user, no_script, no_session, as_number, house}
use Rattle.records.specs.declared.Session.{Session}
use Rattle.records.specs.declared.Draft.{Draft}
use Rattle.rules.specs.Lists.{Each}
use Rattle.rules.specs.Facts.{Among, Place, Rules, UserFine, ScriptFine, Seated, Filed, Ascending}
use Rattle.rules.proofs.Bools.{clash, at_most}
use Rattle.rules.proofs.Lists.{each_is, each_both, each_at}
use Rattle.rules.proofs.Sets.{among, room_number, with_among, with_other}
use Rattle.rules.proofs.Meaning.{rules_are}
use Rattle.image.specs.Forms.{Width, one, two, four, spell, spelt, Form, written, written_if, listed}
use Rattle.image.specs.Image.{counter_form, rule_form, is_two, user_form, room_form, script_form, session_form, draft_form, image_of}
use Rattle.reader.specs.Reading.{Saved}
use Rattle.opening.specs.Opening.{image, keeps}
use Rattle.opening.proofs.Fills.{each_place}

abbrev Byte : ℕ → Type 0
Byte x = x < 256

record AllBytes (b : List ℕ) : Type 0 where
  each : Each Byte b

infixl 30 ◌then◌
◌then◌ : {a b : List ℕ} → AllBytes a → AllBytes b → AllBytes (a ++ b)
◌then◌ {a} {b} f g = record { each = go a f.each }
  where
    go : (a : List ℕ) → Each Byte a → Each Byte (a ++ b)
    go [] e = g.each
    go (x ∷ xs) e = (e.0, go xs e.1)

-- ---- fields
-- what a field of that width can hold
abbrev limit : Width → ℕ
limit one = 256
limit two = 65536
limit four = 4294967296

-- as many values as fields or fewer, each small enough
abbrev Fits : List Width → List ℕ → Type 0
Fits [] vs = Unit {0}
Fits (w ∷ ws) [] = Unit {0}
Fits (w ∷ ws) (v ∷ vs) = (v < limit w) × Fits ws vs

spell_bytes : (w : Width) (v : ℕ) → v < limit w → AllBytes (spell w v)
spell_bytes one v h = record { each = (h, tt) }
spell_bytes two v h = record { each = (omega arith, (omega arith, tt)) }
spell_bytes four v h = record { each = (omega arith, (omega arith, (omega arith, (omega arith, tt)))) }

nothing : AllBytes []
nothing = record { each = tt }

spelt_bytes : (ws : List Width) (vs : List ℕ) → Fits ws vs → AllBytes (spelt ws vs)
spelt_bytes [] vs f = nothing
spelt_bytes (w ∷ ws) [] f = nothing
spelt_bytes (w ∷ ws) (v ∷ vs) f = spell_bytes w v f.0 then spelt_bytes ws vs f.1

-- ---- records: each element of which P holds, with an id below 64 or none that is written
record Fit {A : Type 0} (form : Form A) (there : A → Bool) (P : A → Type 0) (room : ℕ) : Type 0 where
  byte : form.kind < 256
  fits : (n : ℕ) (x : A) → n < room → there x ≡ true → P x → Fits form.widths (form.fields n x)

module _ {A : Type 0} {form : Form A} {there : A → Bool} {P : A → Type 0} {room : ℕ} (f : Fit form there P room) where
  record_bytes : (n : ℕ) (x : A) → n < room → there x ≡ true → P x → AllBytes (written form n x)
  record_bytes n x l t p = record { each = (f.byte, (spelt_bytes form.widths (form.fields n x) (f.fits n x l t p)).each) }

  record_bytes_if : (n : ℕ) (x : A) → n < room → P x → AllBytes (written_if form there n x)
  record_bytes_if n x l p = go (there x) refl
    where
      go : (t : Bool) → there x ≡ t → AllBytes (cond t (written form n x) [])
      go true k = record_bytes n x l k p
      go false k = nothing

listed_bytes : {A : Type 0} (f : ℕ → A → List ℕ) (P : A → Type 0) (room : ℕ) → ((n : ℕ) (x : A) → n < room → P x → AllBytes (f n x))
    → (n : ℕ) (xs : List A) → n + length xs ≤ room → Each P xs → AllBytes (listed f n xs)
listed_bytes f P room each n [] l e = nothing
listed_bytes f P room each n (x ∷ xs) l e =
    each n x (omega arith) e.0 then listed_bytes f P room each (suc n) xs (omega arith) e.1

-- ---- the fields' bounds by the rules
flag : (b : Bool) → as_number b < 256
flag false = omega arith
flag true = omega arith

-- a set among another is no larger
among_le : (s t : ℕ) → Among s t → s ≤ t
among_le s t f =
    let e : bit_and t s ≡ s = eqb-true (bit_and t s) s ((among s t).shown f) in
    omega (arith, and_le_l t s)

module _ (rooms : ℕ) (numbers : Among rooms 0x1FFFE) where
  -- sets of rooms, and of the house and rooms
  rooms_fit : (s : ℕ) → Among s rooms → s < 4294967296
  rooms_fit s f = omega (arith, among_le s 0x1FFFE (λ p k. numbers p (f p k)))

  places_fit : (s : ℕ) → Among s (with rooms house) → s < 4294967296
  unfolding has
  places_fit s f =
      omega (arith, among_le s 0x1FFFF (λ p k. with_among rooms 0 (omega arith) 0x1FFFF refl (λ q l. (among 0x1FFFE 0x1FFFF).says refl q (numbers q l)) p (f p k)))

  place_fits : (p : ℕ) → Place rooms p → p < 256
  place_fits p k = go (ℕ_discrete p 0)
    where
      go : Dec (p ≡ 0) → p < 256
      go (yes e) = omega arith
      go (no n) = omega (arith, (room_number p (numbers p (sym (with_other rooms 0 (omega arith) p n) ∙ k))).high)

-- what is there stands inside the list
inside : {A : Type 0} (there : A → Bool) (none : A) → there none ≡ false → (l : List A) (i : ℕ) → there (get_or l i none) ≡ true → i < length l
inside there none z [] i k = clash k z
inside there none z (x ∷ xs) zero k = omega arith
inside there none z (x ∷ xs) (suc i) k = let l = inside there none z xs i k in omega arith

-- draft numbers up to the last
numbers_up : (n last : ℕ) (l : List Draft) → Ascending n last l → Each (λ d. d.number ≤ last) l
numbers_up n last [] a = tt
numbers_up n last (d ∷ ds) a = (a.0.1, numbers_up d.number last ds a.1)

counter_fit : Fit counter_form (λ _. true) (λ last. last ≤ 4294967295) 1
counter_fit = record { byte = omega arith; fits = λ n last l t p. (omega arith, tt) }

rule_fit : Fit rule_form is_two (λ _. Unit {0}) 1
rule_fit = record { byte = omega arith; fits = λ n rule l t p. tt }

module _ (s : Saved) (R : Rules s.house s.last) where
  user_fit : Fit user_form (λ u. u.here) (UserFine s.house.rooms) 64
  user_fit = record {
    byte = omega arith;
    fits = λ n u l t p.
        let joined = rooms_fit s.house.rooms R.people.numbers u.rooms p.joined_there in
        let led = rooms_fit s.house.rooms R.people.numbers u.leads p.led_there in
        (omega arith, (omega (arith, p.sort_known), (omega (arith, p.label.level_fits), (p.label.categories_fit, (joined, (led, (flag u.admin, tt)))))));
  }

  room_fit : Fit room_form (has s.house.rooms) (λ r. r ≤ 16) 16
  room_fit = record { byte = omega arith; fits = λ n r l t p. (omega arith, tt) }

  script_fit : Fit script_form (λ x. x.here) (ScriptFine s.house.rooms) 64
  script_fit = record {
    byte = omega arith;
    fits = λ n x l t p.
        let origin = place_fits s.house.rooms R.people.numbers x.origin (p.origin_there t) in
        (omega arith, (omega (arith, p.label.level_fits), (p.label.categories_fit, (origin, tt))));
  }

  session_fit : Fit session_form (λ x. x.here) (Seated s.house.rooms s.house.users) 64
  session_fit = record {
    byte = omega arith;
    fits = λ n x l t p.
        let owner = inside (λ u. u.here) no_user refl s.house.users x.owner (p.owner_there t) in
        (omega arith, (omega (arith, R.people.size), (omega (arith, p.label.level_fits), (p.label.categories_fit, (flag x.writes, (place x t p x.writes refl, tt))))));
  }
    where
      place : (x : Session) → x.here ≡ true → Seated s.house.rooms s.house.users x → (w : Bool) → x.writes ≡ w → x.place < 256
      place x t p true w = place_fits s.house.rooms R.people.numbers x.place (p.writing w).place_there
      place x t p false w = omega (arith, p.reading t w)

  draft_fit : Fit draft_form (λ _. true) (λ d. Filed s.house.rooms s.house.scripts d × (d.number ≤ s.last)) 256
  draft_fit = record {
    byte = omega arith;
    fits = λ n d l t p.
        let script = inside (λ x. x.here) no_script refl s.house.scripts d.script p.0.script_there in
        (omega (arith, R.counter), (omega (arith, R.texts.size), (places_fit s.house.rooms R.people.numbers d.places p.0.places_there, tt)));
  }

  all_bytes : AllBytes (image s)
  unfolding image_of
  all_bytes =
      let h = s.house in
      let T = R.texts in
      let c = record_bytes counter_fit 0 s.last (omega arith) refl R.counter in
      let q = record_bytes_if rule_fit 0 s.rule (omega arith) tt in
      let us = listed_bytes (written_if user_form (λ u. u.here)) (UserFine h.rooms) 64 (record_bytes_if user_fit) 0 h.users (omega (arith, R.people.size))
      (each_place (UserFine h.rooms) no_user h.users R.people.each) in
      let rs = listed_bytes (written_if room_form (has h.rooms)) (λ r. r ≤ 16) 16 (record_bytes_if room_fit) 0 room_numbers (omega arith)
      ((each_is (λ r. leb r 16) (λ r. r ≤ 16) (λ r. at_most) room_numbers).says refl) in
      let ss = listed_bytes (written_if script_form (λ x. x.here)) (ScriptFine h.rooms) 64 (record_bytes_if script_fit) 0 h.scripts (omega (arith, T.size))
      (each_place (ScriptFine h.rooms) no_script h.scripts T.each) in
      let xs = listed_bytes (written_if session_form (λ x. x.here)) (Seated h.rooms h.users) 64 (record_bytes_if session_fit) 0 h.sessions (omega (arith, R.seats.size))
      (each_place (Seated h.rooms h.users) no_session h.sessions R.seats.each) in
      let ds = listed_bytes (written draft_form) (λ d. Filed h.rooms h.scripts d × (d.number ≤ s.last)) 256 (λ n d l p. record_bytes draft_fit n d l refl p)
      0 h.drafts (omega (arith, T.at_most))
      (each_both (Filed h.rooms h.scripts) (λ d. d.number ≤ s.last) h.drafts T.filed (numbers_up 0 s.last h.drafts T.ascending)) in
      c then q then us then rs then ss then xs then ds

-- each is a byte; past the end stands 0
pub image_bytes : (s : Saved) → keeps s ≡ true → (i : ℕ) → image s # i < 256
image_bytes s k i = go (dec_le (length (image s)) i)
  where
    go : Dec (length (image s) ≤ i) → image s # i < 256
    go (yes l) = omega (arith, get_or-eq_default (image s) 0 l)
    go (no n) = each_at Byte (image s) 0 i (omega arith) (all_bytes s ((rules_are s.house s.last).says k)).each
