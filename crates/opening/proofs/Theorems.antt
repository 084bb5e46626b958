-- What opening accepts, both round trips, that bytes and records, last number and rule determine each other, and each refusal. 02, L2 and L3.
use Rattle.std.specs.Prelude.{Ok, Err}
use Prim.Native.Nat.{ℕ, ◌<◌}
use mathlib.Core.Path.{◌≡◌, refl, sym, ap, ◌∙◌, subst}
use mathlib.Core.Bool.{Bool, true, false, cond, ◌&&◌}
use mathlib.Core.List.{List, [], ◌∷◌}
use mathlib.Core.Logic.{◌⊎◌, inl, inr}
use native.Mathlib.Omega.{arith}
use native.Mathlib.Decide.{ℕ_discrete}
use lib.Dec.{eqb}
use lib.ListN.{length}
use borrow.Author.Tests.{eqb-true, eq-eqb, ne_eqb}
use Rattle.request.specs.Bytes.{◌#◌, Bytes}
use Rattle.request.specs.declared.FrameError.{FrameError}
use Rattle.request.proofs.Absurd.{differ}
use Rattle.rules.proofs.Bools.{left, right, clash}
use Rattle.image.specs.Image.{is_two, image_of}
use Rattle.reader.specs.Reading.{Saved, blank, Walk, Taken, walked, stop_of}
use Rattle.reader.proofs.Walking.{walk_stops}
use Rattle.opening.specs.Opening.{error_number, of_frame, keeps, image, IsImage, Opens, refused, accepted, same_bytes, by_walk, opened_by}
use Rattle.opening.specs.declared.OpenError.{OpenError}
use Rattle.opening.specs.declared.OpenError.TheVariants.{Cut, NoImage}
use Rattle.opening.proofs.Bounds.{image_bytes}
use Rattle.opening.proofs.Marks.{rule_byte}
use Rattle.opening.proofs.Back as walking

-- ---- for records that keep the rules, the walk over their image takes in exactly them
pub back : (s : Saved) → keeps s ≡ true → walked 0 blank (image s) ≡ record { stop = Ok tt; got = s }
back s k = walking.back s k

-- ---- bytes compared
pub same_says : (a b : List ℕ) → same_bytes a b ≡ true → a ≡ b
same_says [] [] h = refl
same_says [] (y ∷ ys) h = clash h refl
same_says (x ∷ xs) [] h = clash h refl
same_says (x ∷ xs) (y ∷ ys) h =
    let head = eqb-true x y (left (eqb x y) (same_bytes xs ys) h) in
    let tail = same_says xs ys (right (eqb x y) (same_bytes xs ys) h) in
    (λ i. head i ∷ tail i)

pub same_shown : (a : List ℕ) → same_bytes a a ≡ true
same_shown [] = refl
same_shown (x ∷ xs) = rw (eq-eqb x x refl) (same_shown xs)

never_empty : (s : Saved) → eqb (length (image s)) 0 ≡ false
unfolding image_of
never_empty s = ne_eqb (length (image s)) 0 (λ e. omega arith)

-- ---- what is written is accepted, and gives the same records, number and rule
pub saved_opens : (s : Saved) → keeps s ≡ true → opened_by (image s) ≡ accepted s
unfolding opened_by
saved_opens s k =
    let t = walked 0 blank (image s) in
    ap (λ (e : Bool). cond e (refused Cut) (by_walk t (image s) t.stop)) (never_empty s)
    ∙ ap (λ (t : Taken). by_walk t (image s) t.stop) (back s k)
    ∙ ap (λ (e : Bool). cond (e && same_bytes (image s) (image s)) (accepted s) (refused NoImage)) k
    ∙ ap (λ (e : Bool). cond e (accepted s) (refused NoImage)) (same_shown (image s))

-- ---- what is accepted keeps the rules and is written as the same bytes; what is refused gives the empty desk with last number 0 and rule 1
abbrev pub Fine : List ℕ → Opens → Type 0
Fine b o =
    (o.answer ≡ Ok tt → (keeps o.now ≡ true) × (image o.now ≡ b))
    × ((why : OpenError) → o.answer ≡ Err why → o.now ≡ blank)

refusal : (b : List ℕ) (why : OpenError) → Fine b (refused why)
refusal b why = ((λ e. differ (cc)), (λ m e. refl))

pub fine : (b : List ℕ) → Fine b (opened_by b)
unfolding opened_by
fine b = empty (eqb (length b) 0)
  where
    t : Taken
    t = walked 0 blank b

    tested : (e : Bool) → (keeps t.got && same_bytes (image t.got) b) ≡ e → Fine b (cond e (accepted t.got) (refused NoImage))
    tested true h = (
      (λ _. (
        left (keeps t.got) (same_bytes (image t.got) b) h,
        same_says (image t.got) b (right (keeps t.got) (same_bytes (image t.got) b) h),
      )),
      (λ n e. differ (cc)),
    )
    tested false h = refusal b NoImage

    by : (w : Walk) → Fine b (by_walk t b w)
    by (Ok _) = tested (keeps t.got && same_bytes (image t.got) b) refl
    by (Err e) = refusal b (of_frame e)

    empty : (e : Bool) → Fine b (cond e (refused Cut) (by_walk t b t.stop))
    empty true = refusal b Cut
    empty false = by t.stop

pub opens_saved : (b : List ℕ) (s : Saved) → opened_by b ≡ accepted s → (keeps s ≡ true) × (image s ≡ b)
opens_saved b s e =
    let f = (fine b).0 (ap (λ (o : Opens). o.answer) e) in
    let now = ap (λ (o : Opens). o.now) e in
    (sym (ap keeps now) ∙ f.0, sym (ap image now) ∙ f.1)

-- "like a refused image, gives the empty desk with last number 0 and rule 1"
pub refused_blank : (b : List ℕ) (why : OpenError) → (opened_by b).answer ≡ Err why → opened_by b ≡ refused why
refused_blank b why e = λ i. record { answer = e i; now = (fine b).1 why e i }

-- ---- "The reader accepts exactly the images in that form that keep 01's bounds and record rules."
pub accepts_images : (b : List ℕ) → IsImage b → (opened_by b).answer ≡ Ok tt
accepts_images b i = ap (λ (c : List ℕ). (opened_by c).answer) (sym i.written) ∙ ap (λ (o : Opens). o.answer) (saved_opens i.of i.kept)

pub accepts_only_images : (b : List ℕ) → (opened_by b).answer ≡ Ok tt → IsImage b
accepts_only_images b e = let f = (fine b).0 e in record { of = (opened_by b).now; kept = f.0; written = f.1 }

-- each byte of an image is one
pub images_are_bytes : (b : List ℕ) → IsImage b → Bytes b
images_are_bytes b i n = subst (λ (c : List ℕ). c # n < 256) i.written (image_bytes i.of i.kept n)

-- "a kind 46 record, directly after the counter, stands exactly when the rule is 2"
pub marks_rule_2 : (b : List ℕ) → (opened_by b).answer ≡ Ok tt → eqb (b # 5) 0x46 ≡ is_two (opened_by b).now.rule
marks_rule_2 b e =
    let s = (opened_by b).now in
    subst (λ (c : List ℕ). eqb (c # 5) 0x46 ≡ is_two s.rule) ((fine b).0 e).1 (rule_byte s.house s.last s.rule)

-- ---- "Equal records and counter exactly when equal bytes"; "L2's equality then speaks of records, counter and rule"
pub bytes_determine : (s t : Saved) → keeps s ≡ true → keeps t ≡ true → image s ≡ image t → s ≡ t
bytes_determine s t k l e = ap (λ (o : Opens). o.now) (sym (saved_opens s k) ∙ ap opened_by e ∙ saved_opens t l)

pub records_determine : (s t : Saved) → s ≡ t → image s ≡ image t
records_determine s t e = ap image e

-- ---- the refusals, for every string of bytes. "14 .. an image that is empty or ends inside a body"
pub no_bytes_14 : (opened_by [] ≡ refused Cut) × (error_number Cut ≡ 14)
unfolding opened_by
no_bytes_14 = (refl, refl)

-- by where the walk stops
by_stop : (b : List ℕ) → (length b ≡ 0 → ⊥) → (w : Walk) → stop_of 0 b ≡ w → opened_by b ≡ by_walk (walked 0 blank b) b w
unfolding opened_by
by_stop b some w e =
    let t = walked 0 blank b in
    ap (λ (e : Bool). cond e (refused Cut) (by_walk t b t.stop)) (ne_eqb (length b) 0 some) ∙ ap (by_walk t b) (walk_stops 0 blank b ∙ e)

-- over no bytes the walk is whole
some_bytes : (b : List ℕ) → (stop_of 0 b ≡ Ok tt → ⊥) → length b ≡ 0 → ⊥
unfolding stop_of
some_bytes [] n e = n refl
some_bytes (x ∷ xs) n e = omega arith

pub cut_14 : (b : List ℕ) → stop_of 0 b ≡ Err FrameError.Cut → (opened_by b ≡ refused Cut) × (error_number Cut ≡ 14)
cut_14 b e = (by_stop b (some_bytes b (λ w. differ (cc))) (Err FrameError.Cut) e, refl)

-- "an unknown kind met there is 15"
pub unknown_15 : (b : List ℕ) → stop_of 0 b ≡ Err FrameError.Unknown → (opened_by b ≡ refused NoImage) × (error_number NoImage ≡ 15)
unknown_15 b e = (by_stop b (some_bytes b (λ w. differ (cc))) (Err FrameError.Unknown) e, refl)

-- "15 not an image": whole frames, some of them, that are no image
pub whole_15 : (b : List ℕ) → (length b ≡ 0 → ⊥) → stop_of 0 b ≡ Ok tt → (IsImage b → ⊥) → (opened_by b ≡ refused NoImage) × (error_number NoImage ≡ 15)
whole_15 b some e never =
    let t = walked 0 blank b in
    let all = by_stop b some (Ok tt) e in
    (all ∙ go (keeps t.got && same_bytes (image t.got) b) (λ o. never (accepts_only_images b (ap (λ (p : Opens). p.answer) all ∙ o))), refl)
  where
    go : (e : Bool) → ((cond e (accepted (walked 0 blank b).got) (refused NoImage)).answer ≡ Ok tt → ⊥)
        → cond e (accepted (walked 0 blank b).got) (refused NoImage) ≡ refused NoImage
    go true n = absurd (n refl)
    go false n = refl

-- ---- and no other bytes: 14 only where there are none or a body is cut, 15 only where a kind is unknown or the frames are no image
pub only_14 : (b : List ℕ) (why : OpenError) → error_number why ≡ 14 → opened_by b ≡ refused why → (length b ≡ 0) ⊎ (stop_of 0 b ≡ Err FrameError.Cut)
only_14 b NoImage n e = absurd (omega arith)
only_14 b Cut n e = go (ℕ_discrete (length b) 0) (stop_of 0 b) refl
  where
    other : {A : Type 0} → refused NoImage ≡ refused Cut → A
    other z = let y = ap (λ (o : Opens). o.answer) z in differ (cc)

    open_or_15 : {A : Type 0} (t : Bool) → cond t (accepted (walked 0 blank b).got) (refused NoImage) ≡ refused Cut → A
    open_or_15 true z =
        let y : Ok tt ≡ Err Cut = ap (λ (o : Opens). o.answer) z in
        differ (cc)
    open_or_15 false z = other z

    go : Dec (length b ≡ 0) → (w : Walk) → stop_of 0 b ≡ w → (length b ≡ 0) ⊎ (stop_of 0 b ≡ Err FrameError.Cut)
    go (yes z) w k = inl z
    go (no n) (Err FrameError.Cut) k = inr k
    go (no n) (Err FrameError.Unknown) k = other (sym (unknown_15 b k).0 ∙ e)
    go (no n) (Ok _) k = open_or_15 (keeps (walked 0 blank b).got && same_bytes (image (walked 0 blank b).got) b) (sym (by_stop b n (Ok tt) k) ∙ e)

pub only_15 : (b : List ℕ) (why : OpenError) → error_number why ≡ 15 → opened_by b ≡ refused why → (stop_of 0 b ≡ Err FrameError.Unknown) ⊎ ((stop_of 0 b ≡ Ok tt) × (IsImage b → ⊥))
only_15 b Cut n e = absurd (omega arith)
only_15 b NoImage n e = go (stop_of 0 b) refl
  where
    no_image : IsImage b → ⊥
    no_image i = let z : Err NoImage ≡ Ok tt = sym (ap (λ (o : Opens). o.answer) e) ∙ accepts_images b i in differ (cc)

    go : (w : Walk) → stop_of 0 b ≡ w → (stop_of 0 b ≡ Err FrameError.Unknown) ⊎ ((stop_of 0 b ≡ Ok tt) × (IsImage b → ⊥))
    go (Err FrameError.Unknown) k = inl k
    go (Ok _) k = inr (k, no_image)
    go (Err FrameError.Cut) k = let z = ap (λ (o : Opens). o.answer) (sym (cut_14 b k).0 ∙ e) in differ (cc)
