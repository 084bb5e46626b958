-- A walk over an image takes in the records that it is the image of.
use Rattle.std.specs.Prelude.{Ok, Err}
use Prim.Native.Nat.{ℕ, suc, ◌≤◌}
use mathlib.Core.Path.{◌≡◌, refl, sym, ap, ◌∙◌}
use mathlib.Core.Bool.{Bool, true, false, cond}
use mathlib.Core.List.{List, [], ◌∷◌, ◌++◌, append_assoc, append-nil}
use native.Mathlib.Omega.{arith}
use lib.Dec.{eqb, leb}
use lib.ListN.{length, take, get_or, set, replicate, length-append}
use borrow.Author.Tests.{le-ltb}
use Rattle.request.specs.Bytes.{◌#◌}
use Rattle.request.specs.declared.FrameError.TheVariants.{Cut}
use Rattle.records.specs.Places.{has, with, room_numbers}
use Rattle.records.specs.House.{House, no_user, no_script, no_session, empty_house, is_yes, as_number}
use Rattle.records.specs.declared.User.{User}
use Rattle.records.specs.declared.Script.{Script}
use Rattle.records.specs.declared.Session.{Session}
use Rattle.records.specs.declared.Draft.{Draft}
use Rattle.records.specs.declared.Rule.{Rule}
use Rattle.rules.specs.Facts.{Among}
use Rattle.rules.proofs.Bools.{clash, equal, at_most}
use Rattle.rules.proofs.Lists.{each_is}
use Rattle.rules.proofs.Sets.{room_number, rooms_any}
use Rattle.rules.proofs.Meaning.{rules_are}
use Rattle.image.specs.Forms.{sizes, spelt, Form, written, written_if, listed}
use Rattle.image.specs.Image.{counter_form, rule_form, is_two, user_form, room_form, script_form, session_form, draft_form, image_of}
use Rattle.reader.specs.Reading.{Saved, saved, blank, row, rows, at, find, take_counter, take_rule, take_user, take_room, take_script, take_session, take_draft, taken_in, stopped, frame, walked}
use Rattle.reader.proofs.Walking.{skipped}
use Rattle.opening.specs.Opening.{image, keeps}
use Rattle.opening.proofs.Fields.{Fill, length_spelt, fields_back}
use Rattle.opening.proofs.Fills.{fills, put_if, fill_part, fill_table, fill_list, fill_set, each_place}

-- ---- whatever stands behind these bytes, a walk that comes to them with s leaves them with t
record Takes (b : List ℕ) (s t : Saved) : Type 0 where
  on : (rest : List ℕ) → walked 0 s (b ++ rest) ≡ walked 0 t rest

infixl 30 ◌then◌
◌then◌ : {b c : List ℕ} {s t u : Saved} → Takes b s t → Takes c t u → Takes (b ++ c) s u
◌then◌ {b} {c} {s} f g = record { on = λ rest. ap (walked 0 s) (append_assoc b c rest) ∙ f.on (c ++ rest) ∙ g.on rest }

leaves : {b : List ℕ} {s t u : Saved} → Takes b s t → t ≡ u → Takes b s u
leaves f e = record { on = λ rest. f.on rest ∙ ap (λ (v : Saved). walked 0 v rest) e }

nothing : {s : Saved} → Takes [] s s
nothing = record { on = λ rest. refl }

-- ---- a kind whose record is taken in as the element that it was written for
record Good {A : Type 0} (form : Form A) (put : ℕ → A → Saved → Saved) (there : A → Bool) : Type 0 where
  found : find rows form.kind ≡ at (row form put)
  full : (n : ℕ) (x : A) → Fill form.widths (form.fields n x)
  same : (n : ℕ) (x : A) (s : Saved) → there x ≡ true → put (form.fields n x # 0) (form.of (λ k. form.fields n x # k)) s ≡ put n x s

module _ {A : Type 0} {form : Form A} {put : ℕ → A → Saved → Saved} {there : A → Bool} (g : Good form put there) where
  -- one record
  record_back : (n : ℕ) (x : A) → there x ≡ true → (s : Saved) → Takes (written form n x) s (put n x s)
  unfolding walked
  record_back n x k s = record {
    on = λ rest.
        let vs = form.fields n x in
        let b = spelt form.widths vs ++ rest in
        let z = length_spelt form.widths vs (g.full n x) in
        let l = length-append (spelt form.widths vs) rest in
        let room : sizes form.widths ≤ length b = omega arith in
        ap (λ q. frame q b s (λ n t. walked n t b)) g.found
        ∙ ap (λ (t : Bool). cond t (stopped (Err Cut) s) (walked (sizes form.widths) (taken_in (at (row form put)) b s) b)) (le-ltb (length b) (sizes form.widths) room)
        ∙ ap (λ (us : List ℕ). walked (sizes form.widths) (put (us # 0) (form.of (λ k. us # k)) s) b) (fields_back form.widths vs (g.full n x) rest)
        ∙ ap (λ (m : ℕ). walked m (put (vs # 0) (form.of (λ k. vs # k)) s) b) (sym z)
        ∙ skipped (spelt form.widths vs) rest (put (vs # 0) (form.of (λ k. vs # k)) s)
        ∙ ap (λ (t : Saved). walked 0 t rest) (g.same n x s k);
  }

  record_if : (n : ℕ) (x : A) (s : Saved) → Takes (written_if form there n x) s (put_if there put n x s)
  record_if n x s = go (there x) refl
    where
      go : (t : Bool) → there x ≡ t → Takes (cond t (written form n x) []) s (cond t (put n x s) s)
      go true k = record_back n x k s
      go false k = nothing

-- the records of a list
listed_back : {A : Type 0} (f : ℕ → A → List ℕ) (into : ℕ → A → Saved → Saved) → ((n : ℕ) (x : A) (s : Saved) → Takes (f n x) s (into n x s))
    → (n : ℕ) (xs : List A) (s : Saved) → Takes (listed f n xs) s (fills into n xs s)
listed_back f into each n [] s = nothing
listed_back f into each n (x ∷ xs) s = each n x s then listed_back f into each (suc n) xs (into n x s)

-- ---- the kinds
yes_again : (b : Bool) → is_yes (as_number b) ≡ b
yes_again false = refl
yes_again true = refl

good_counter : Good counter_form take_counter (λ _. true)
good_counter = record { found = refl; full = λ n x. tt; same = λ n x s k. refl }

two_again : (rule : Rule) → is_two rule ≡ true → Rule.Two ≡ rule
two_again Rule.One k = clash k refl
two_again Rule.Two k = refl

good_rule : Good rule_form take_rule is_two
good_rule = record { found = refl; full = λ n x. tt; same = λ n x s k. ap (λ (rule : Rule). take_rule n rule s) (two_again x k) }

good_user : Good user_form take_user (λ u. u.here)
good_user = record {
  found = refl;
  full = λ n x. tt;
  same = λ n u s k. ap (λ (v : User). take_user n v s) (λ i. record {
    here = sym k i;
    sort = u.sort;
    level = u.level;
    categories = u.categories;
    rooms = u.rooms;
    leads = u.leads;
    admin = yes_again u.admin i;
  });
}

good_room : (rooms : ℕ) → Good room_form take_room (has rooms)
good_room rooms = record { found = refl; full = λ n x. tt; same = λ n x s k. refl }

good_script : Good script_form take_script (λ s. s.here)
good_script = record {
  found = refl;
  full = λ n x. tt;
  same = λ n x s k. ap (λ (v : Script). take_script n v s) (λ i. record { here = sym k i; level = x.level; categories = x.categories; origin = x.origin });
}

good_session : Good session_form take_session (λ s. s.here)
good_session = record {
  found = refl;
  full = λ n x. tt;
  same = λ n x s k. ap (λ (v : Session). take_session n v s) (λ i. record {
    here = sym k i;
    owner = x.owner;
    level = x.level;
    categories = x.categories;
    writes = yes_again x.writes i;
    place = x.place;
  });
}

good_draft : Good draft_form take_draft (λ _. true)
good_draft = record { found = refl; full = λ n x. tt; same = λ n x s k. refl }

-- "an image without it is rule 1"
rule_back : (h : House) (n : ℕ) (rule : Rule) → Takes (written_if rule_form is_two 0 rule) (saved h n Rule.One) (saved h n rule)
rule_back h n Rule.One = nothing
rule_back h n Rule.Two = record_back good_rule 0 Rule.Two refl (saved h n Rule.One)

-- ---- the tables, one behind the other
abbrev made : List User → ℕ → List Script → List Session → List Draft → ℕ → Rule → Saved
made us rs ss xs ds n rule = saved (record { users = us; rooms = rs; scripts = ss; sessions = xs; drafts = ds }) n rule

-- what is put into a part of the records where it is there
part_if : {A S T : Type 0} (there : A → Bool) (put : ℕ → A → S → S) (into : ℕ → A → T → T) (whole : T → S)
    → ((n : ℕ) (x : A) (t : T) → put n x (whole t) ≡ whole (into n x t))
    → (n : ℕ) (x : A) (t : T) → put_if there put n x (whole t) ≡ whole (put_if there into n x t)
part_if there put into whole is n x t = go (there x)
  where
    go : (b : Bool) → cond b (put n x (whole t)) (whole t) ≡ whole (cond b (into n x t) t)
    go true = is n x t
    go false = refl

-- those of a list that are there, put into one part of the records
part_back : {A T : Type 0} {form : Form A} {put : ℕ → A → Saved → Saved} {there : A → Bool} (g : Good form put there) (into : ℕ → A → T → T) (whole : T → Saved)
    → ((n : ℕ) (x : A) (t : T) → put n x (whole t) ≡ whole (into n x t))
    → (xs : List A) (t u : T) → fills (put_if there into) 0 xs t ≡ u → Takes (listed (written_if form there) 0 xs) (whole t) (whole u)
part_back {form = form} {put} {there} g into whole is xs t u e =
    leaves (listed_back (written_if form there) (put_if there put) (record_if g) 0 xs (whole t))
    (fill_part (put_if there put) (put_if there into) whole (part_if there put into whole is) 0 xs t ∙ ap whole e)

-- users, scripts, sessions: a slot that is not used is all zeros
table_back : {A : Type 0} {form : Form A} {put : ℕ → A → Saved → Saved} {there : A → Bool} (g : Good form put there) (none : A) (whole : List A → Saved)
    → ((n : ℕ) (x : A) (l : List A) → put n x (whole l) ≡ whole (set l n x))
    → (xs : List A) → length xs ≡ 64 → ((i : ℕ) → there (get_or xs i none) ≡ false → get_or xs i none ≡ none)
    → Takes (listed (written_if form there) 0 xs) (whole (replicate 64 none)) (whole xs)
table_back {there = there} g none whole is xs l absent =
    part_back g (λ n x l. set l n x) whole is xs (replicate 64 none) xs
    (fill_table there none 64 xs l (each_place (λ x. there x ≡ false → x ≡ none) none xs absent))

-- "Rooms 1..16"
rooms_back : (rooms : ℕ) → Among rooms 0x1FFFE → (whole : ℕ → Saved) → ((n r t : ℕ) → take_room n r (whole t) ≡ whole (with t r))
    → Takes (listed (written_if room_form (has rooms)) 0 room_numbers) (whole 0) (whole rooms)
rooms_back rooms numbers whole is =
    part_back (good_room rooms) (λ _ r s. with s r) whole is room_numbers 0 rooms
    (fill_set rooms room_numbers ((each_is (λ r. leb r 31) (λ r. r ≤ 31) (λ r. at_most) room_numbers).says refl)
    (λ q k. (rooms_any (λ r. eqb r q) (λ r. r ≡ q) (λ r. equal)).shown (record { room = q; number = room_number q (numbers q k); rule = refl })))

-- "at most 256 live"
drafts_back : (ds : List Draft) → length ds ≤ 256 → (whole : List Draft → Saved)
    → ((n : ℕ) (d : Draft) (l : List Draft) → take_draft n d (whole l) ≡ whole (take 256 (l ++ (d ∷ []))))
    → Takes (listed (written draft_form) 0 ds) (whole []) (whole ds)
drafts_back ds l whole is =
    leaves (listed_back (written draft_form) take_draft (λ n d s. record_back good_draft n d refl s) 0 ds (whole []))
    (fill_part take_draft (λ _ d l. take 256 (l ++ (d ∷ []))) whole is 0 ds [] ∙ ap whole (fill_list 256 0 [] ds (omega arith)))

-- ---- the whole image: for records that keep the rules, the walk over their image takes in exactly them
pub back : (s : Saved) → keeps s ≡ true → walked 0 blank (image s) ≡ stopped (Ok tt) s
unfolding image_of walked empty_house
back s k =
    let R = (rules_are s.house s.last).says k in
    let h = s.house in
    let n = s.last in
    let rule = s.rule in
    let scripts = replicate 64 no_script in
    let sessions = replicate 64 no_session in
    let all =
    record_back good_counter 0 n refl blank
    then rule_back empty_house n rule
    then table_back good_user no_user (λ l. made l 0 scripts sessions [] n rule) (λ n x l. refl) h.users R.people.size (λ i. (R.people.each i).absent)
    then rooms_back h.rooms R.people.numbers (λ r. made h.users r scripts sessions [] n rule) (λ n x l. refl)
    then table_back good_script no_script (λ l. made h.users h.rooms l sessions [] n rule) (λ n x l. refl) h.scripts R.texts.size (λ i. (R.texts.each i).absent)
    then table_back good_session no_session (λ l. made h.users h.rooms h.scripts l [] n rule) (λ n x l. refl) h.sessions R.seats.size (λ i. (R.seats.each i).absent)
    then drafts_back h.drafts R.texts.at_most (λ l. made h.users h.rooms h.scripts h.sessions l n rule) (λ n x l. refl) in
    ap (walked 0 blank) (sym (append-nil (image s))) ∙ all.on []
