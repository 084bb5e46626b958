-- "Only refusals 9 and 16 at Import are amended": what the two rules judge alike.
use Rattle.std.specs.Prelude.{Result, Ok, Err}
use Rattle.std.specs.Result.{result_and}
use Prim.Native.Nat.{ℕ}
use mathlib.Core.Path.{◌≡◌, refl, ap}
use mathlib.Core.Bool.{Bool, true, false, ◌||◌}
use mathlib.Core.List.{List, [], ◌∷◌, ◌++◌}
use mathlib.Core.Logic.{◌⊎◌, inl, inr}
use Rattle.label.specs.declared.Parts.{Parts}
use Rattle.label.specs.Labels.{parts, dominates}
use Rattle.records.specs.House.{House, house, script}
use Rattle.records.specs.declared.Rule.{Rule}
use Rattle.conditions.specs.Conditions.{script_label}
use Rattle.request.specs.declared.Request.{Request}
use Rattle.reasons.specs.Reasons.{Decided, a_script}
use Rattle.reasons.specs.Asking.{Line, asked}
use Rattle.reasons.specs.Lines.{leads_room, origin_is, room_for_draft}
use Rattle.reasons.specs.Shared.{label_lines, imports}
use Rattle.reasons.specs.declared.Reason.{Reason}
use Rattle.reasons.proofs.Asking.{more}
use Rattle.judge.specs.declared.Grant.{Grant}
use Rattle.judge.specs.declared.Grant.TheVariants.{KeepNumbered}
use Rattle.judge.specs.Kinds.{import_numbers, import_exists, import_lines, lines_of, grant_of, grant_if, ruling_of}
use Rattle.judge.proofs.Rows.{fine}
use Rattle.judge.specs.Amended.{IsImport, Amended, alike, refuses_9, refuses_16}

-- ---- every other kind: the same lines by any two rules, so the same ruling
pub lines_alike : (r s : Rule) (h : House) (q : Request) → (IsImport q → ⊥) → lines_of r h q ≡ lines_of s h q
lines_alike r s h q other = go (fine q r h).5
  where
    go : IsImport q ⊎ ((t : Rule) → lines_of r h q ≡ lines_of t h q) → lines_of r h q ≡ lines_of s h q
    go (inl i) = absurd (other i)
    go (inr same) = same s

pub judged_alike : (r s : Rule) (h : House) (q : Request) → (IsImport q → ⊥) → ruling_of r h q ≡ ruling_of s h q
unfolding ruling_of
judged_alike r s h q other = ap (λ (ls : List Line). grant_if (grant_of q) (asked ls)) (lines_alike r s h q other)

-- ---- Import: what is asked before the labels, and after them, is the same
module _ (by : ℕ → ℕ → Decided) (level c level' c' : ℕ) (after : List Line) where
  abbrev ruled : Result (Unit {0}) Reason → Parts → Result Grant Reason
  ruled before f = grant_if KeepNumbered (result_and before (asked (label_lines f by level c level' c' ++ after)))

  -- the parts that fail one way or the other, and those that fail the one way
  amended : (before : Result (Unit {0}) Reason) (f f' g g' p p' : Bool) → Amended (ruled before (parts (f || f') (g || g') p)) (ruled before (parts f g p'))
  unfolding asked
  amended (Err r) f f' g g' p p' = alike refl
  amended (Ok x) true f' g g' p p' = refuses_9 _ refl refl
  amended (Ok x) false true g g' p p' = refuses_9 _ refl refl
  amended (Ok x) false false true g' p p' = refuses_16 _ refl refl
  amended (Ok x) false false false true p p' = refuses_16 _ refl refl
  amended (Ok x) false false false false p p' = alike refl

module _ (h : House) (u k₁ v k₂ room : ℕ) where
  -- what Import asks before the labels
  front : List Line
  front = import_numbers u k₁ k₂ room ++ import_exists h u k₁ v k₂ room ++ (leads_room h u room ∷ origin_is h k₁ room ∷ origin_is h k₂ house ∷ [])

  behind : (rule : Rule) → ruling_of rule h (Request.Import u k₁ v k₂ room) ≡ grant_if KeepNumbered (result_and (asked front) (asked (imports rule h k₁ k₂ ++ (room_for_draft h ∷ []))))
  unfolding ruling_of import_numbers import_exists import_lines front
  behind rule = ap (grant_if KeepNumbered) (more front (imports rule h k₁ k₂ ++ (room_for_draft h ∷ [])))

  pub import_amended : Amended (ruling_of Rule.One h (Request.Import u k₁ v k₂ room)) (ruling_of Rule.Two h (Request.Import u k₁ v k₂ room))
  unfolding imports
  import_amended =
      let x = script h k₂ in
      let y = script h k₁ in
      let f = dominates (script_label x) (script_label y) in
      let g = dominates (script_label y) (script_label x) in
      rw (behind Rule.One, behind Rule.Two)
      (amended (a_script k₂) x.level x.categories y.level y.categories (room_for_draft h ∷ []) (asked front) f.level g.level f.categories
      g.categories (f.place || g.place) f.place)
