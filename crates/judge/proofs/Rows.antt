-- What is true of the row of every kind: one clause a kind, in which each fact is computed from the kind's lines.
use mathlib.Core.Path.{◌≡◌, refl}
use mathlib.Core.Bool.{Bool, true, false, not, ◌||◌}
use mathlib.Core.List.{[], ◌∷◌, ◌++◌}
use mathlib.Core.Logic.{◌⊎◌, inl, inr}
use lib.Dec.{eqb}
use Rattle.records.specs.Lists.{any, all}
use Rattle.records.specs.House.{House, user, script, session}
use Rattle.records.specs.declared.Rule.{Rule}
use Rattle.conditions.specs.Conditions.{opening, reading, updating, importing}
use Rattle.request.specs.declared.Request.{Request}
use Rattle.reasons.specs.Asking.{applies, numbers, once_after}
use Rattle.reasons.specs.Order.{ascend_from}
use Rattle.reasons.specs.Shared.{pair_numbers, pair_led, draft_led, opens, covers, as_script, imports, draft_asked}
use Rattle.judge.specs.Kinds.{enrol_numbers, enrol_where, establish_lines, import_numbers, import_exists, import_lines, disband_lines, create_lines, kill_lines, take_back_lines, Kind, kind}
use Rattle.judge.specs.Amended.{IsImport, is_import}

-- the numbers of the lines ascend in the order of refusals, 11 and 12 after them; they are the row's, each once; 9 and 16 apply where the level and the
-- categories compared fail; every rule has the same lines, or the kind is Import
abbrev pub Fine : Request → Kind → Rule → House → Type 0
Fine q k rule h =
    (ascend_from 0 (numbers (k.lines rule h) ++ (11 ∷ 12 ∷ [])) ≡ true)
    × (once_after 0 (numbers (k.lines rule h)) ≡ k.refusals)
    × (all (λ n. any (eqb n) k.refusals) (numbers (k.lines rule h)) ≡ true)
    × (applies 9 (k.lines rule h) ≡ (k.compared rule h).level)
    × (applies 16 (k.lines rule h) ≡ (k.compared rule h).categories)
    × (IsImport q ⊎ ((other : Rule) → k.lines rule h ≡ k.lines other h))

twice : (b : Bool) → (not (not b) || false) ≡ b
twice true = refl
twice false = refl

pub fine : (q : Request) (rule : Rule) (h : House) → Fine q (kind q) rule h
unfolding enrol_numbers enrol_where establish_lines pair_numbers pair_led draft_led import_numbers import_exists import_lines disband_lines opens covers as_script imports draft_asked create_lines kill_lines take_back_lines
fine (Request.Enrol u new sort level c admin) rule h = (refl, refl, refl, refl, refl, inr (λ other. refl))
fine (Request.Establish u room) rule h = (refl, refl, refl, refl, refl, inr (λ other. refl))
fine (Request.JoinStaff u w room) rule h = (refl, refl, refl, refl, refl, inr (λ other. refl))
fine (Request.LeaveStaff u w room) rule h = (refl, refl, refl, refl, refl, inr (λ other. refl))
fine (Request.JoinOutsider u w room level c) rule h = (refl, refl, refl, refl, refl, inr (λ other. refl))
fine (Request.LeaveOutsider u w room) rule h = (refl, refl, refl, refl, refl, inr (λ other. refl))
fine (Request.Add u k v room) rule h = (refl, refl, refl, refl, refl, inr (λ other. refl))
fine (Request.Remove u k v room) rule h = (refl, refl, refl, refl, refl, inr (λ other. refl))
fine (Request.Import u k₁ v k₂ room) rule h = (refl, refl, refl, twice (importing rule (script h k₂) (script h k₁)).level, twice (importing rule (script h k₂) (script h k₁)).categories, inl (is_import u k₁ v k₂ room))
fine (Request.Merge u k v room) rule h = (refl, refl, refl, refl, refl, inr (λ other. refl))
fine (Request.Disband u room) rule h = (refl, refl, refl, refl, refl, inr (λ other. refl))
fine (Request.MakeLead u w room) rule h = (refl, refl, refl, refl, refl, inr (λ other. refl))
fine (Request.EndLead u w room) rule h = (refl, refl, refl, refl, refl, inr (λ other. refl))
fine (Request.OpenInRoom u s room level c) rule h = (refl, refl, refl, twice (opening (user h u) level c).level, twice (opening (user h u) level c).categories, inr (λ other. refl))
fine (Request.OpenInHouse u s level c) rule h = (refl, refl, refl, twice (opening (user h u) level c).level, twice (opening (user h u) level c).categories, inr (λ other. refl))
fine (Request.OpenReadOnly u s level c) rule h = (refl, refl, refl, twice (opening (user h u) level c).level, twice (opening (user h u) level c).categories, inr (λ other. refl))
fine (Request.Read s k v) rule h = (refl, refl, refl, twice (reading (session h s) (script h k)).level, twice (reading (session h s) (script h k)).categories, inr (λ other. refl))
fine (Request.Update s k v) rule h = (refl, refl, refl, twice (updating (session h s) (script h k)).level, twice (updating (session h s) (script h k)).categories, inr (λ other. refl))
fine (Request.Create s k) rule h = (refl, refl, refl, refl, refl, inr (λ other. refl))
fine (Request.Kill u s) rule h = (refl, refl, refl, refl, refl, inr (λ other. refl))
fine (Request.TakeBack u) rule h = (refl, refl, refl, refl, refl, inr (λ other. refl))
