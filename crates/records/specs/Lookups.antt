-- What a lookup finds. 01: "a lookup that finds nothing is itself refusal 4".
use Rattle.std.specs.Prelude.{ℕ, suc, Bool, cond, not, ◌&&◌, List, [], ◌∷◌, eqb, Option, Some, None}
use Rattle.records.specs.Places.{has}
use Rattle.records.specs.House.{House, user, script, session, draft_at, no_draft}
use Rattle.records.specs.declared.Draft.{Draft}

-- i, where it is there
abbrev pub found_if : Bool → ℕ → Option ℕ
found_if there i = cond there (Some i) None

abbrev pub find_user : House → ℕ → Option ℕ
find_user h u = found_if (user h u).here u

abbrev pub find_room : House → ℕ → Option ℕ
find_room h room = found_if (has h.rooms room) room

abbrev pub find_script : House → ℕ → Option ℕ
find_script h s = found_if (script h s).here s

abbrev pub find_session : House → ℕ → Option ℕ
find_session h s = found_if (session h s).here s

-- the place of the first of which the test holds; the first place is n
abbrev pub first_from : {A : Type 0} → ℕ → (A → Bool) → List A → Option ℕ
first_from n p [] = None
first_from n p (x ∷ xs) = cond (p x) (Some n) (first_from (suc n) p xs)

-- the draft v of script s
abbrev pub draft_is : ℕ → ℕ → Draft → Bool
draft_is s v d = eqb d.number v && eqb d.script s

abbrev pub find_draft : House → ℕ → ℕ → Option ℕ
find_draft h s v = first_from 0 (draft_is s v) h.drafts

-- what stands where a lookup found it
abbrev pub at_found : {A : Type 0} → Option ℕ → (ℕ → A) → A → A
at_found (Some i) f otherwise = f i
at_found None f otherwise = otherwise

-- the draft v of script s, or the absent one
abbrev pub draft : House → ℕ → ℕ → Draft
draft h s v = at_found (find_draft h s v) (draft_at h) no_draft

-- a draft of script i
abbrev pub of_script : ℕ → Draft → Bool
of_script i d = eqb d.script i

-- a draft that has a place
abbrev pub placed : Draft → Bool
placed d = not (eqb d.places 0)
