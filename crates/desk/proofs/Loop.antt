-- Where the loop that reads stands between two turns: where `turn` leads from the first stand by the pieces read, and within its bounds.
use mathlib.Core.Path.{◌≡◌, refl, sym, ap, ◌∙◌, subst}
use mathlib.Core.Bool.{Bool, true, false, ◌&&◌}
use mathlib.Core.List.{List, [], ◌∷◌, ◌++◌}
use Prim.Native.Nat.{ℕ, ◌+◌, ◌-◌, ◌*◌, ◌≤◌}
use native.Mathlib.Omega.{arith}
use lib.ListN.{length, take, drop, length-append, length-take, length-drop}
use lib.Seq.{length-take-le, take_at}
use Rattle.records.specs.House.{House}
use Rattle.records.specs.declared.Rule.{Rule}
use Rattle.effects.specs.declared.Change.{Change}
use Rattle.history.specs.Machine.{Desk}
use Rattle.desk.specs.Counts.{IsPrefixLen}
use Rattle.desk.specs.Turns.{Stand, stand, first, Turned, turn, stand_after, went_on, LedTo, TurnIs}
use Rattle.desk.specs.declared.pieces.Turn.{Turn}
use Rattle.desk.proofs.Steps.{part_length, ordinal_near, few_waiting}

-- d₀ is the desk that the program opened
pub record Reached (rule : Rule) (why : Bool) (d₀ : Desk House Change) (s : Stand) : Type 0 where
  pub pieces : List (List ℕ)
  pub went : went_on rule why (first d₀) pieces ≡ true
  pub is : stand_after rule why (first d₀) pieces ≡ s

after_one_more : (rule : Rule) (why : Bool) (s : Stand) (pieces : List (List ℕ)) (piece : List ℕ) → stand_after rule why s (pieces ++ (piece ∷ [])) ≡ (turn rule why (stand_after rule why s pieces) piece).next
after_one_more rule why s [] piece = refl
after_one_more rule why s (p ∷ more) piece = after_one_more rule why (turn rule why s p).next more piece

went_one_more : (rule : Rule) (why : Bool) (s : Stand) (pieces : List (List ℕ)) (piece : List ℕ) → went_on rule why s pieces ≡ true → (turn rule why (stand_after rule why s pieces) piece).onward ≡ true → went_on rule why s (pieces ++ (piece ∷ [])) ≡ true
went_one_more rule why s [] piece w on = rw on refl
went_one_more rule why s (p ∷ more) piece w on = go (turn rule why s p).onward w (λ v. went_one_more rule why (turn rule why s p).next more piece v on)
  where
    go : (g : Bool) → g && went_on rule why (turn rule why s p).next more ≡ true → (went_on rule why (turn rule why s p).next more ≡ true → went_on rule why (turn rule why s p).next (more ++ (piece ∷ [])) ≡ true)
        → g && went_on rule why (turn rule why s p).next (more ++ (piece ∷ [])) ≡ true
    go true w rest = rest w
    go false w rest = w

reached_on : (rule : Rule) (why : Bool) (d₀ : Desk House Change) (s : Stand) → Reached rule why d₀ s → (piece : List ℕ) → (turn rule why s piece).onward ≡ true → Reached rule why d₀ (turn rule why s piece).next
reached_on rule why d₀ s r piece on =
    record {
      pieces = r.pieces ++ (piece ∷ []);
      went = went_one_more rule why (first d₀) r.pieces piece r.went (ap (λ (x : Stand). (turn rule why x piece).onward) r.is ∙ on);
      is = after_one_more rule why (first d₀) r.pieces piece ∙ ap (λ (x : Stand). (turn rule why x piece).next) r.is;
    }

pub record Between (rule : Rule) (why : Bool) (d₀ d : Desk House Change) (ordinal have turns : ℕ) (buf out : List ℕ) : Type 0 where
  pub few : have ≤ 8
  pub buf_length : length buf ≡ 1024
  pub out_length : length out ≡ 139264
  pub small : ordinal ≤ 1 + 1024 * turns
  pub reached : Reached rule why d₀ (stand d ordinal (take have buf))

pub at_start : (rule : Rule) (why : Bool) (d : Desk House Change) (buf out : List ℕ) → length buf ≡ 1024 → length out ≡ 139264 → Between rule why d d 1 0 0 buf out
at_start rule why d buf out b o =
    record {
      few = omega arith;
      buf_length = b;
      out_length = o;
      small = omega arith;
      reached = record { pieces = []; went = refl; is = refl };
    }

pub led_now : {rule : Rule} {why : Bool} {d₀ d : Desk House Change} {ordinal have turns : ℕ} {buf out : List ℕ} → Between rule why d₀ d ordinal have turns buf out → LedTo rule why d₀ d
led_now b = record { pieces = b.reached.pieces; is = ap (λ (s : Stand). s.desk) b.reached.is }

-- bytes were read behind the first `have` bytes of buf
abbrev pub filled : List ℕ → ℕ → List ℕ → List ℕ
filled buf have bytes = take have buf ++ (bytes ++ drop (length buf - have) (drop have buf))

pub filled_length : (buf : List ℕ) (have : ℕ) (bytes : List ℕ) → have ≤ length buf → length bytes ≡ length (take (length buf - have) (drop have buf)) → length (filled buf have bytes) ≡ length buf
filled_length buf have bytes l e =
    let p = part_length have buf in
    let t = length-take-le have buf l in
    let d = length-drop have buf in
    let r = length-drop (length buf - have) (drop have buf) in
    simp length-append (omega arith)

pub filled_same : (buf : List ℕ) (have : ℕ) (bytes : List ℕ) → have ≤ length buf → take have (filled buf have bytes) ≡ take have buf
filled_same buf have bytes l = take_at (take have buf) (bytes ++ drop (length buf - have) (drop have buf)) have (length-take-le have buf l)

pub text_there : {t : Turned} {d : Desk House Change} {r : Turn} {buf out : List ℕ} → TurnIs t d r buf out → IsPrefixLen r.text out
text_there {r = r} {out = out} is =
    let size : r.text ≡ length (take r.text out) = is.text_length ∙ ap length (sym is.text) in
    (omega (arith, size, length-take r.text out), size)

-- a piece was read: buf is now `read`, with the bytes that wait as they were
module _ {rule : Rule} {why : Bool} {d₀ d : Desk House Change} {ordinal have turns : ℕ} {buf out : List ℕ} (between : Between rule why d₀ d ordinal have turns buf out) (read : List ℕ) (same : take have read ≡ take have buf)
    (got : ℕ) (room : have + got ≤ length read) (read_length : length read ≡ 1024)
    {d' : Desk House Change} (r : Turn) (buf' out' : List ℕ) (is : TurnIs (turn rule why (stand d ordinal (take have read)) (take got (drop have read))) d' r buf' out')
  where
    pub again : length buf' ≡ 1024 → length out' ≡ 139264 → r.onward ≡ true → Between rule why d₀ d' r.ordinal r.have (turns + 1) buf' out'
    again b o on =
        let s : Stand = stand d ordinal (take have read) in
        let piece : List ℕ = take got (drop have read) in
        let goes : (turn rule why s piece).onward ≡ true = sym is.onward ∙ on in
        let near = ordinal_near rule why d ordinal read have got room in
        record {
          few = omega (arith, is.have, few_waiting rule why d ordinal read have got room goes);
          buf_length = b;
          out_length = o;
          small = omega (arith, between.small, is.ordinal, near, room, read_length);
          reached =
              let here : Reached rule why d₀ s = subst (λ (w : List ℕ). Reached rule why d₀ (stand d ordinal w)) (sym same) between.reached in
              let next : (turn rule why s piece).next ≡ stand d' r.ordinal (take r.have buf') = λ i. stand (sym is.desk i) (sym is.ordinal i) (sym is.waiting i) in
              subst (Reached rule why d₀) next (reached_on rule why d₀ s here piece goes);
        }

    -- whether its text could be written or not
    pub led_on : LedTo rule why d₀ d'
    led_on =
        let s : Stand = stand d ordinal (take have read) in
        let piece : List ℕ = take got (drop have read) in
        let here : Reached rule why d₀ s = subst (λ (w : List ℕ). Reached rule why d₀ (stand d ordinal w)) (sym same) between.reached in
        record {
          pieces = here.pieces ++ (piece ∷ []);
          is = ap (λ (x : Stand). x.desk) (after_one_more rule why (first d₀) here.pieces piece ∙ ap (λ (x : Stand). (turn rule why x piece).next) here.is) ∙ sym is.desk;
        }
