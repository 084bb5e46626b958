-- What several kinds of request ask in common: lists of lines.
use Rattle.std.specs.Prelude.{ℕ, List, [], ◌∷◌, ◌++◌}
use Rattle.label.specs.declared.Parts.{Parts}
use Rattle.records.specs.House.{House, user, script, session}
use Rattle.records.specs.declared.Rule.{Rule}
use Rattle.conditions.specs.Conditions.{opening, reading, updating, importing}
use Rattle.reasons.specs.Reasons.{Decided, a_user, a_script, a_session}
use Rattle.reasons.specs.Asking.{Line}
use Rattle.reasons.specs.Lines.{an_id, room_high, room_low, user_exists, room_exists, script_exists, session_exists, draft_exists, leads_room, level_holds, categories_hold}

-- 03 to 06, 0C, 0D: u, w and the room. 05 asks its level between the two parts.
unfoldable pub pair_numbers : ℕ → ℕ → ℕ → List Line
pair_numbers u w room = an_id u ∷ an_id w ∷ room_high room ∷ room_low room ∷ []

unfoldable pub pair_led : House → ℕ → ℕ → ℕ → List Line
pair_led h u w room = user_exists h u ∷ user_exists h w ∷ room_exists h room ∷ leads_room h u room ∷ []

-- 07, 08, 0A: u, a draft and the room
unfoldable pub draft_led : House → ℕ → ℕ → ℕ → ℕ → List Line
draft_led h u k v room = pair_numbers u k room ++ (user_exists h u ∷ room_exists h room ∷ script_exists h k ∷ draft_exists h k v ∷ leads_room h u room ∷ [])

-- two labels, of which the parts f fail or differ: the level, then the categories, that a record holds and that are wanted
abbrev pub label_lines : Parts → (ℕ → ℕ → Decided) → ℕ → ℕ → ℕ → ℕ → List Line
label_lines f by level c level' c' = level_holds f (by level level') ∷ categories_hold f (by c c') ∷ []

-- 10, 11, 12: the label of a session that is opened
unfoldable pub opens : House → ℕ → ℕ → ℕ → List Line
opens h u level c = label_lines (opening (user h u) level c) (a_user u) (user h u).level (user h u).categories level c

-- 13: the session's label, the script's
unfoldable pub covers : House → ℕ → ℕ → List Line
covers h s k =
    label_lines (reading (session h s) (script h k)) (a_session s) (session h s).level (session h s).categories (script h k).level (script h k).categories

-- 14: the session's label, the script's
unfoldable pub as_script : House → ℕ → ℕ → List Line
as_script h s k =
    label_lines (updating (session h s) (script h k)) (a_session s) (session h s).level (session h s).categories (script h k).level (script h k).categories

-- 09: the label of script 2, that of script 1, by the rule
unfoldable pub imports : Rule → House → ℕ → ℕ → List Line
imports rule h k₁ k₂ =
    label_lines (importing rule (script h k₂) (script h k₁)) (a_script k₂) (script h k₂).level (script h k₂).categories (script h k₁).level (script h k₁).categories

-- 13, 14: a session and a draft
unfoldable pub draft_asked : House → ℕ → ℕ → ℕ → List Line
draft_asked h s k v = an_id k ∷ an_id s ∷ script_exists h k ∷ session_exists h s ∷ draft_exists h k v ∷ []
