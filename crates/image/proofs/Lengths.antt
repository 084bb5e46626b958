-- How long an image is: at most 5 bytes of the counter, 1 of the rule, 15 of each of 64 users, 2 of 16 rooms, 6 of 64 scripts, 8 of 64 sessions, 10 of 256 drafts.
use Prim.Native.Nat.{ℕ, suc, ◌*◌, ◌≤◌}
use mathlib.Core.Path.{refl}
use mathlib.Core.List.{List, [], ◌∷◌, ◌++◌}
use native.Mathlib.Omega.{arith}
use native.Mathlib.Nat.{mul-suc, mul-le-mul_left}
use lib.ListN.{length, length-append}
use Rattle.records.specs.House.{view}
use Rattle.records.specs.declared.Rule.{Rule}
use Rattle.image.specs.Forms.{written, written_if, listed}
use Rattle.image.specs.Image.{counter_form, rule_form, is_two, image_of}
use Rattle.image.proofs.Plans.{wide_if, Plan, user_plan, room_plan, script_plan, session_plan, draft_plan}

abbrev part : {A : Type 0} → Plan A → List ℕ
part P = listed P.bytes 0 P.list

module _ {A : Type 0} (P : Plan A) where
  listed_length : (n : ℕ) (xs : List A) → length (listed P.bytes n xs) ≤ P.width * length xs
  listed_length n [] = omega arith
  listed_length n (x ∷ xs) =
      let z = listed_length (suc n) xs in
      omega (arith, length-append (P.bytes n x) (listed P.bytes (suc n) xs), mul-suc P.width (length xs), P.wide n x)

  part_length : length (part P) ≤ P.width * P.count
  part_length = omega (arith, listed_length 0 P.list, mul-le-mul_left P.width P.most)

-- of any cells, any last number and either rule
pub image_length : (s : List ℕ) (last : ℕ) (rule : Rule) → length (image_of (view s) last rule) ≤ 4454
unfolding image_of
image_length s last rule =
    let c = written counter_form 0 last in
    let q = written_if rule_form is_two 0 rule in
    let u = part (user_plan s) in
    let r = part (room_plan s) in
    let t = part (script_plan s) in
    let e = part (session_plan s) in
    let d = part (draft_plan s) in
    omega (
      arith,
      length-append (c ++ q ++ u ++ r ++ t ++ e) d,
      length-append (c ++ q ++ u ++ r ++ t) e,
      length-append (c ++ q ++ u ++ r) t,
      length-append (c ++ q ++ u) r,
      length-append (c ++ q) u,
      length-append c q,
      wide_if rule_form is_two 1 (λ i r. refl) 0 rule,
      part_length (user_plan s),
      part_length (room_plan s),
      part_length (script_plan s),
      part_length (session_plan s),
      part_length (draft_plan s),
    )
