-- The image of a desk. 02, L2: "Write the desk into a lent buffer as records of one kind byte and a fixed body: 40 the counter, 41 user, 42 room, 43 script, 44 session,
-- 45 draft, in that order and ascending by id or number, each with its id or number, then 01's fields in 01's order (numbers and sets four bytes, categories
-- two, the rest one)." L3: "a kind 46 record, directly after the counter, stands exactly when the rule is 2; it has no body, and an image without it is rule 1."
use Rattle.std.specs.Prelude.{ℕ, Bool, true, false, List, [], ◌∷◌, ◌++◌}
use Rattle.records.specs.Places.{has, room_numbers}
use Rattle.records.specs.House.{House, as_number, is_yes}
use Rattle.records.specs.declared.User.{User}
use Rattle.records.specs.declared.Script.{Script}
use Rattle.records.specs.declared.Session.{Session}
use Rattle.records.specs.declared.Draft.{Draft}
use Rattle.records.specs.declared.Rule.{Rule}
use Rattle.image.specs.Forms.{one, two, four, Form, written, written_if, listed}

-- the last number used
abbrev pub counter_form : Form ℕ
counter_form = record {
  kind = 0x40;
  widths = four ∷ [];
  fields = λ _ last. last ∷ [];
  of = λ f. f 0;
}

-- "a kind 46 record .. has no body": it can only say rule 2
abbrev pub rule_form : Form Rule
rule_form = record {
  kind = 0x46;
  widths = [];
  fields = λ _ _. [];
  of = λ _. Rule.Two;
}

-- "stands exactly when the rule is 2"
abbrev pub is_two : Rule → Bool
is_two Rule.One = false
is_two Rule.Two = true

-- "Users 0..63, each with sort .., level, categories, rooms joined, rooms led, house administrator yes or no"
abbrev pub user_form : Form User
user_form = record {
  kind = 0x41;
  widths = one ∷ one ∷ one ∷ two ∷ four ∷ four ∷ one ∷ [];
  fields = λ i u. i ∷ u.sort ∷ u.level ∷ u.categories ∷ u.rooms ∷ u.leads ∷ as_number u.admin ∷ [];
  of = λ f. record { here = true; sort = f 1; level = f 2; categories = f 3; rooms = f 4; leads = f 5; admin = is_yes (f 6) };
}

-- "Rooms 1..16": a room has nothing but its id
abbrev pub room_form : Form ℕ
room_form = record {
  kind = 0x42;
  widths = one ∷ [];
  fields = λ _ room. room ∷ [];
  of = λ f. f 0;
}

-- "Scripts 0..63, with level, categories, origin (a place)"
abbrev pub script_form : Form Script
script_form = record {
  kind = 0x43;
  widths = one ∷ one ∷ two ∷ one ∷ [];
  fields = λ i s. i ∷ s.level ∷ s.categories ∷ s.origin ∷ [];
  of = λ f. record { here = true; level = f 1; categories = f 2; origin = f 3 };
}

-- "Sessions 0..63, with owner, level, categories, kind (RO or RW) and, for RW only, a place"; "the missing place of an RO session 255"
abbrev pub session_form : Form Session
session_form = record {
  kind = 0x44;
  widths = one ∷ one ∷ one ∷ two ∷ one ∷ one ∷ [];
  fields = λ i s. i ∷ s.owner ∷ s.level ∷ s.categories ∷ as_number s.writes ∷ s.place ∷ [];
  of = λ f. record { here = true; owner = f 1; level = f 2; categories = f 3; writes = is_yes (f 4); place = f 5 };
}

-- "Drafts: .. each with a 32-bit number, its script and a set of places"
abbrev pub draft_form : Form Draft
draft_form = record {
  kind = 0x45;
  widths = four ∷ one ∷ four ∷ [];
  fields = λ _ d. d.number ∷ d.script ∷ d.places ∷ [];
  of = λ f. record { number = f 0; script = f 1; places = f 2 };
}

-- the image of the records h, the last number and the rule; users, scripts and sessions stand in the order of their ids, drafts in that of their numbers
unfoldable pub image_of : House → ℕ → Rule → List ℕ
image_of h last rule =
    written counter_form 0 last
    ++ written_if rule_form is_two 0 rule
    ++ listed (written_if user_form (λ u. u.here)) 0 h.users
    ++ listed (written_if room_form (has h.rooms)) 0 room_numbers
    ++ listed (written_if script_form (λ s. s.here)) 0 h.scripts
    ++ listed (written_if session_form (λ s. s.here)) 0 h.sessions
    ++ listed (written draft_form) 0 h.drafts
