-- One request after the other, and a piece behind the bytes that wait.
use Rattle.std.specs.Prelude.{Result, Ok, Err}
use mathlib.Core.Path.{◌≡◌, refl, sym, ap, ◌∙◌, subst}
use mathlib.Core.Bool.{Bool, true, false, cond, not}
use mathlib.Core.List.{List, [], ◌++◌, append_assoc, append-nil}
use Prim.Native.Nat.{ℕ, suc, ◌+◌, ◌-◌, ◌*◌, ◌≤◌, ◌<◌}
use native.Mathlib.Omega.{arith}
use native.Mathlib.Nat.{zero-add, add_assoc}
use lib.Dec.{eqb}
use lib.ListN.{length, take, drop, length-drop, length-append}
use lib.Seq.{take-add, drop_at, drop-length, length-take-le, take_all, drop-drop}
use Rattle.request.specs.Bytes.{◌#◌}
use Rattle.request.specs.Kinds.{body_length}
use Rattle.request.specs.Reading.{frame_of}
use Rattle.request.specs.Writing.{written}
use Rattle.request.specs.Framing.{End, no_bytes, unknown_kind, cut_body, Series, by_frame, series_of, written_out}
use Rattle.request.specs.declared.Request.{Request}
use Rattle.request.proofs.Framing.{whole_is, series_empty, series_unknown, series_cut, series_whole, cuts}
use Rattle.records.specs.House.{House}
use Rattle.records.specs.declared.Rule.{Rule}
use Rattle.effects.specs.declared.Change.{Change}
use Rattle.judge.specs.declared.Grant.{Grant}
use Rattle.judge.specs.Kinds.{ruling_of}
use Rattle.history.specs.Machine.{Desk, Outcome, outcome, ruled, step, run}
use Rattle.history.specs.Desk.{verdict_of, desk_rules}
use Rattle.history.specs.declared.Answer.{Answer}
use Rattle.history.specs.declared.Answer.TheVariants.{Refused}
use Rattle.reasons.specs.Reasons.{bare, zeros}
use Rattle.reasons.specs.declared.Reason.{Reason}
use Rattle.why.specs.Why.{reason_after}
use Rattle.why.proofs.Ruled.{from_ruling}
use Rattle.desk.specs.Lines.{line_of, Put}
use Rattle.desk.specs.Answers.{reason_for, given_to}
use Rattle.desk.specs.Printed.{lines_from}
use Rattle.desk.specs.Turns.{Done, reads_on, done_with, all_of, Stand, stand, turn, turned_by, TurnIs}
use Rattle.desk.specs.Steps.{so_far, done, one_of, Made}
use Rattle.desk.specs.declared.answers.Progress.{Progress}
use Rattle.desk.proofs.Texts.{line_short, if_asked, put_nothing, put_as}
use Rattle.desk.proofs.Frames.{used_inside, few_wait, few_answers}
use Rattle.request.specs.declared.FrameError.{FrameError}
use Rattle.request.specs.declared.FrameError.TheVariants.{Unknown, Cut}

-- u bytes and a text come before what x tells
abbrev behind : ℕ → List ℕ → Done → Done
behind u text x = done x.desk x.ordinal (u + x.used) (text ++ x.text) x.onward

behind_twice : (u v : ℕ) (s t : List ℕ) (x : Done) → behind u s (behind v t x) ≡ behind (u + v) (s ++ t) x
behind_twice u v s t x =
    let a = sym (add_assoc u v x.used) in
    let b = sym (append_assoc s t x.text) in
    λ i. done x.desk x.ordinal (a i) (b i) x.onward

-- ---- one request, as its frame tells
module _ (rule : Rule) (why ended : Bool) (d : Desk House Change) (k : ℕ) (R O : List ℕ) (at text : ℕ) (O' : List ℕ) where
  pub made_whole : (q : Request) (x : Result Grant Reason) (a : Answer) (w : Reason) (d' : Desk House Change) (n : ℕ) → Ok q ≡ frame_of R → x ≡ ruling_of rule d.current q
      → outcome d' a ≡ ruled (desk_rules rule) d (verdict_of q x) → w ≡ cond why (reason_after x d.last (length d.log)) zeros → n ≡ body_length (R # 0)
      → Put O at (line_of why k (R # 0) a w) text O' → Made (one_of rule why ended d k R) O at d' (so_far (k + 1) (n + 1) text true) O'
  unfolding step
  made_whole q x a w d' n f j acted after is-n put =
      let o : outcome d' a ≡ step (desk_rules rule) d q = acted ∙ ap (λ (z : Result Grant Reason). ruled (desk_rules rule) d (verdict_of q z)) j in
      let is-w : w ≡ cond why (reason_for rule d q) zeros = after ∙ ap (λ (z : Reason). cond why z zeros) (from_ruling d.last (length d.log) rule d.current q j) in
      rw (sym f)
      (record {
        desk = ap (λ (x : Outcome House Change). x.desk) o;
        ordinal = refl;
        used = omega (arith, is-n);
        put =
            let same : line_of why k (R # 0) a w ≡ line_of why k (R # 0) (step (desk_rules rule) d q).answer (reason_for rule d q) =
            (λ i. line_of why k (R # 0) (o i).answer (is-w i)) ∙ if_asked why k (R # 0) (step (desk_rules rule) d q).answer (reason_for rule d q) in
            put_as same put;
        onward = refl;
      })

  pub made_unknown : Err Unknown ≡ frame_of R → Put O at (line_of why k (R # 0) (Refused 1) (bare 1)) text O' → Made (one_of rule why ended d k R) O at d (so_far (k + 1) 0 text false) O'
  made_unknown f put = rw (sym f) (record { desk = refl; ordinal = refl; used = refl; put = put; onward = refl })

  pub made_cut : Err Cut ≡ frame_of R → ended ≡ true → Put O at (line_of why k (R # 0) (Refused 2) (bare 2)) text O' → Made (one_of rule why ended d k R) O at d (so_far (k + 1) 0 text false) O'
  made_cut f e put = rw (sym f, e) (record { desk = refl; ordinal = refl; used = refl; put = put; onward = refl })

pub made_waits : (rule : Rule) (why ended : Bool) (d : Desk House Change) (k : ℕ) (R O : List ℕ) (at : ℕ) → Err Cut ≡ frame_of R → ended ≡ false → Made (one_of rule why ended d k R) O at d (so_far k 0 at true) O
made_waits rule why ended d k R O at f e =
    rw (sym f, e) (record { desk = refl; ordinal = refl; used = refl; put = put_nothing O at; onward = refl })

-- ---- the first request decides: nothing more is done with the bytes, or it is answered and the rest follows
data Next (rule : Rule) (why ended : Bool) (d : Desk House Change) (k : ℕ) (b : List ℕ) : Done → Type 0 where
  last : {x : Done} → x.used ≡ 0 → length x.text ≤ 136 → all_of rule why ended d k b ≡ x → Next rule why ended d k b x
  more : {x : Done} → 0 < x.used → x.used ≤ length b → x.ordinal ≡ k + 1 → length x.text ≤ 136
      → all_of rule why ended d k b ≡ behind x.used x.text (all_of rule why ended x.desk x.ordinal (drop x.used b)) → Next rule why ended d k b x

next : (rule : Rule) (why ended : Bool) (d : Desk House Change) (k : ℕ) (b : List ℕ) → 0 < length b → Next rule why ended d k b (one_of rule why ended d k b)
next rule why ended d k b some = by (frame_of b) refl ended
  where
    refused : (e : Bool) (n : ℕ) (s : Series) → series_of b ≡ s → done_with rule why e d k s ≡ done d (k + 1) 0 (line_of why k (b # 0) (Refused n) (bare n) ++ []) false
        → all_of rule why e d k b ≡ done d (k + 1) 0 (line_of why k (b # 0) (Refused n) (bare n)) false
    refused e n s is same = ap (done_with rule why e d k) is ∙ same ∙ ap (λ (t : List ℕ). done d (k + 1) 0 t false) (append-nil (line_of why k (b # 0) (Refused n) (bare n)))

    by : (f : Result Request FrameError) → frame_of b ≡ f → (ended : Bool)
        → Next rule why ended d k b (by_frame f (done d (k + 1) 0 (line_of why k (b # 0) (Refused 1) (bare 1)) false)
        (cond ended (done d (k + 1) 0 (line_of why k (b # 0) (Refused 2) (bare 2)) false) (done d k 0 [] true))
        (λ (q : Request). done (step (desk_rules rule) d q).desk (k + 1) (suc (body_length (b # 0))) (line_of why k (b # 0) (step (desk_rules rule) d q).answer (reason_for rule d q)) true))
    by (Err Unknown) f ended = last refl (line_short why k (b # 0) (Refused 1) (bare 1)) (refused ended 1 _ (series_unknown b f) refl)
    by (Err Cut) f true = last refl (line_short why k (b # 0) (Refused 2) (bare 2)) (refused true 2 _ (series_cut b some f) refl)
    by (Err Cut) f false =
        let e : k + 0 ≡ k = omega arith in
        last {x = done d k 0 [] true} refl (omega arith) (ap (done_with rule why false d k) (series_cut b some f) ∙ ap (λ (n : ℕ). done d n 0 [] true) e)
    by (Ok q) f ended =
        let n : ℕ = suc (body_length (b # 0)) in
        let w = whole_is b q f in
        let inside = w.inside in
        let e : Desk House Change = (step (desk_rules rule) d q).desk in
        let s : Series = series_of (drop n b) in
        let counted : k + suc (length (given_to rule ended e s)) ≡ k + 1 + length (given_to rule ended e s) = omega arith in
        let size : length (written q ++ written_out s.requests) ≡ n + length (written_out s.requests) =
        length-append (written q) (written_out s.requests) ∙ ap (λ (m : ℕ). m + length (written_out s.requests)) w.size in
        let kind = w.kind in
        more {x = done e (k + 1) n (line_of why k (b # 0) (step (desk_rules rule) d q).answer (reason_for rule d q)) true} (omega arith) (omega (arith, inside)) refl (line_short why k (b # 0) (step (desk_rules rule) d q).answer (reason_for rule d q))
        (ap (done_with rule why ended d k) (series_whole b q f)
        ∙ (λ i. done (run (desk_rules rule) e s.requests) (counted i) (size i) (line_of why k (kind i) (step (desk_rules rule) d q).answer (reason_for rule d q) ++ lines_from why (k + 1) (given_to rule ended e s)) (reads_on ended s.end)))

-- ---- the loop over a piece: R is the piece, of which u bytes are used, and the lines so far end at `at`
pub record SoFar (rule : Rule) (why ended : Bool) (d : Desk House Change) (k : ℕ) (R : List ℕ) (d₁ : Desk House Change) (k₁ u at : ℕ) (O : List ℕ) : Type 0 where
  pub in_piece : u ≤ length R
  pub counted : k₁ ≤ k + u
  pub short : at ≤ 136 * u
  pub is : all_of rule why ended d k R ≡ behind u (take at O) (all_of rule why ended d₁ k₁ (drop u R))

pub at_first : (rule : Rule) (why ended : Bool) (d : Desk House Change) (k : ℕ) (R O : List ℕ) → SoFar rule why ended d k R d k 0 0 O
at_first rule why ended d k R O =
    let x : Done = all_of rule why ended d k R in
    let z = sym (zero-add x.used) in
    record { in_piece = omega arith; counted = omega arith; short = omega arith; is = λ i. done x.desk x.ordinal (z i) x.text x.onward }

made : (x : Done) (d : Desk House Change) (k u at : ℕ) (O O₀ : List ℕ) (g : Bool) → x ≡ done d k u (take at O) g → at ≤ length O → Made x O₀ 0 d (so_far k u at g) O
made x d k u at O O₀ g e room =
    let size : length x.text ≡ at = ap (λ (y : Done). length y.text) e ∙ length-take-le at O room in
    record {
      desk = sym (ap (λ (y : Done). y.desk) e);
      ordinal = sym (ap (λ (y : Done). y.ordinal) e);
      used = sym (ap (λ (y : Done). y.used) e);
      put = record { ends = omega (arith, size); is = sym (ap (λ (y : Done). y.text) e) };
      onward = sym (ap (λ (y : Done). y.onward) e);
    }

pub part_length : (u : ℕ) (R : List ℕ) → length (take (length R - u) (drop u R)) ≡ length R - u
part_length u R = let e = length-drop u R in length-take-le (length R - u) (drop u R) (omega arith)

module _ {rule : Rule} {why ended : Bool} {d : Desk House Change} {k : ℕ} {R : List ℕ} {d₁ : Desk House Change} {k₁ u at : ℕ} {O : List ℕ} (sofar : SoFar rule why ended d k R d₁ k₁ u at O) (O₀ : List ℕ)
  where
    pub all_used : length R ≤ u → at ≤ length O → Made (all_of rule why ended d k R) O₀ 0 d₁ (so_far k₁ u at (not ended)) O
    all_used l room =
        let all-of : u ≡ length R = omega (arith, sofar.in_piece) in
        let gone : drop u R ≡ [] = ap (λ (j : ℕ). drop j R) all-of ∙ drop-length R in
        let k-same : k₁ + 0 ≡ k₁ = omega arith in
        let u_same : u + 0 ≡ u = omega arith in
        let t_same = append-nil (take at O) in
        made (all_of rule why ended d k R) d₁ k₁ u at O O₀ (not ended)
        (sofar.is ∙ ap (λ (b : List ℕ). behind u (take at O) (all_of rule why ended d₁ k₁ b)) gone ∙ ap (λ (s : Series). behind u (take at O) (done_with rule why ended d₁ k₁ s)) series_empty
        ∙ (λ i. done d₁ (k-same i) (u_same i) (t_same i) (not ended)))
        room

    -- the first of the bytes that are left: it is used whole, or not at all
    module _ (less : u < length R) where
      abbrev x : Done
      x = one_of rule why ended d₁ k₁ (drop u R)

      abbrev part : List ℕ
      part = take (length R - u) (drop u R)

      all_of_part : part ≡ drop u R
      all_of_part = take_all (length R - u) (drop u R) (simp length-drop (omega arith))

      then_next : Next rule why ended d₁ k₁ (drop u R) x
      then_next = next rule why ended d₁ k₁ (drop u R) (omega (arith, length-drop u R, less))

      pub used_fits : (n : ℕ) → n ≡ (one_of rule why ended d₁ k₁ part).used → u + n ≤ length R
      used_fits n is-n = of then_next (is-n ∙ ap (λ (b : List ℕ). (one_of rule why ended d₁ k₁ b).used) all_of_part)
        where
          of : {y : Done} → Next rule why ended d₁ k₁ (drop u R) y → n ≡ y.used → u + n ≤ length R
          of (last z short e) same = omega (arith, z, same, less)
          of (more some fits count short e) same = omega (arith, fits, same, less, length-drop u R)

    module _ (less : u < length R) {d₂ : Desk House Change} (r : Progress) (O' : List ℕ) (next-made : Made (one_of rule why ended d₁ k₁ (part less)) O at d₂ r O') where
      made_next : Made (x less) O at d₂ r O'
      made_next = subst (λ (P : List ℕ). Made (one_of rule why ended d₁ k₁ P) O at d₂ r O') (all_of_part less) next-made

      told : (y : Done) → all_of rule why ended d₁ k₁ (drop u R) ≡ y → all_of rule why ended d k R ≡ behind u (take at O) y
      told y e = sofar.is ∙ ap (behind u (take at O)) e

      line_short' : length (x less).text ≤ 136
      line_short' = of (then_next less)
        where
          of : {y : Done} → Next rule why ended d₁ k₁ (drop u R) y → length y.text ≤ 136
          of (last z short e) = short
          of (more some fits count short e) = short

      pub text_fits : r.text ≤ at + 136
      text_fits = omega (arith, made_next.put.ends, line_short')

      -- nothing more is done with the bytes
      pub stays : r.used ≡ 0 → r.text ≤ length O' → Made (all_of rule why ended d k R) O₀ 0 d₂ (so_far r.ordinal (u + r.used) r.text r.onward) O'
      stays none room = of (then_next less) refl
        where
          of : {y : Done} → Next rule why ended d₁ k₁ (drop u R) y → y ≡ x less → Made (all_of rule why ended d k R) O₀ 0 d₂ (so_far r.ordinal (u + r.used) r.text r.onward) O'
          of (more some fits count short e) is_x = absurd (omega (arith, none, made_next.used, some, ap (λ (y : Done). y.used) is_x))
          of {y} (last z short e) is_x =
              let m = made_next in
              made (all_of rule why ended d k R) d₂ r.ordinal (u + r.used) r.text O' O₀ r.onward
              (told (x less) (e ∙ is_x) ∙ (λ i. done (sym m.desk i) (sym m.ordinal i) (u + sym m.used i) (sym m.put.is i) (sym m.onward i))) room

      -- a request was answered, and the rest follows
      pub goes : (r.used ≡ 0 → ⊥) → SoFar rule why ended d k R d₂ r.ordinal (u + r.used) r.text O'
      goes some-used = of (then_next less) refl
        where
          of : {y : Done} → Next rule why ended d₁ k₁ (drop u R) y → y ≡ x less → SoFar rule why ended d k R d₂ r.ordinal (u + r.used) r.text O'
          of (last z short e) is_x = absurd (some-used (made_next.used ∙ sym (ap (λ (y : Done). y.used) is_x) ∙ z))
          of {y} (more some fits count short e) is_x =
              let m = made_next in
              let used : r.used ≡ y.used = m.used ∙ sym (ap (λ (w : Done). w.used) is_x) in
              let ordinal : r.ordinal ≡ y.ordinal = m.ordinal ∙ sym (ap (λ (w : Done). w.ordinal) is_x) in
              let desk : d₂ ≡ y.desk = m.desk ∙ sym (ap (λ (w : Done). w.desk) is_x) in
              let text : take r.text O' ≡ take at O ++ y.text = m.put.is ∙ ap (λ (w : Done). take at O ++ w.text) (sym is_x) in
              let size : length y.text ≡ length (x less).text = ap (λ (w : Done). length w.text) is_x in
              record {
                in_piece = used_fits less r.used next-made.used;
                counted = omega (arith, sofar.counted, ordinal, count, used, some);
                short = omega (arith, sofar.short, m.put.ends, size, short, used, some);
                is =
                    told _ e
                    ∙ behind_twice u y.used (take at O) y.text (all_of rule why ended y.desk y.ordinal (drop y.used (drop u R)))
                    ∙ ap (λ (b : List ℕ). behind (u + y.used) (take at O ++ y.text) (all_of rule why ended y.desk y.ordinal b)) (drop-drop y.used u R)
                    ∙ (λ i. behind (u + sym used i) (sym text i) (all_of rule why ended (sym desk i) (sym ordinal i) (drop (u + sym used i) R)));
              }

-- ---- a piece of `got` bytes was read behind the first `have` bytes of buf
-- a piece without its used bytes, as a part of the buffer
rest_of : (B : List ℕ) (end used : ℕ) → used ≤ end → end ≤ length B → drop used (take end B) ≡ take (end - used) (drop used B)
rest_of B end used l₁ l₂ =
    let e : used + (end - used) ≡ end = omega arith in
    ap (λ (k : ℕ). drop used (take k B)) (sym e) ∙ ap (drop used) (take-add used (end - used) B)
    ∙ drop_at (take used B) (take (end - used) (drop used B)) used (length-take-le used B (omega arith))

pub used_of_piece : (buf : List ℕ) (end : ℕ) → end ≤ length buf → (n : ℕ) → n ≡ length (written_out (series_of (take end buf)).requests) → n ≤ end
used_of_piece buf end room n is-n =
    let l = used_inside (cuts (take end buf)) in
    omega (arith, is-n, l, length-take-le end buf room)

module _ (rule : Rule) (why : Bool) (d : Desk House Change) (k : ℕ) (buf : List ℕ) (have got : ℕ) (room : have + got ≤ length buf) where
  abbrev pub stands : Stand
  stands = stand d k (take have buf)

  abbrev pub piece : List ℕ
  piece = take got (drop have buf)

  piece_length : length piece ≡ got
  piece_length = length-take-le got (drop have buf) (simp length-drop (omega arith))

  whole_piece : take (have + got) buf ≡ take have buf ++ piece
  whole_piece = take-add have got buf

  turn_is : turn rule why stands piece ≡ turned_by (take (have + got) buf) (all_of rule why (eqb got 0) d k (take (have + got) buf))
  turn_is =
      ap (λ (n : ℕ). turned_by (take have buf ++ piece) (all_of rule why (eqb n 0) d k (take have buf ++ piece))) piece_length
      ∙ ap (λ (b : List ℕ). turned_by b (all_of rule why (eqb got 0) d k b)) (sym whole_piece)

  -- the rest was moved to the front
  pub turned : {out out' : List ℕ} {d' : Desk House Change} (r : Progress) → Made (all_of rule why (eqb got 0) d k (take (have + got) buf)) out 0 d' r out'
      → (n : ℕ) (buf' : List ℕ) → n ≡ have + got - r.used → take n buf' ≡ take n (drop r.used buf)
      → TurnIs (turn rule why stands piece) d' (record { ordinal = r.ordinal; have = n; text = r.text; onward = r.onward }) buf' out'
  turned {out} {out'} {d'} r m n buf' is-n moved =
      let b : List ℕ = take (have + got) buf in
      let fits = used_of_piece buf (have + got) room r.used m.used in
      let rest : drop r.used b ≡ take n buf' =
      rest_of buf (have + got) r.used fits room ∙ ap (λ (j : ℕ). take j (drop r.used buf)) (sym is-n) ∙ sym moved in
      let same : drop r.used b ≡ drop (all_of rule why (eqb got 0) d k b).used b = ap (λ (j : ℕ). drop j b) m.used in
      let size : length (drop r.used b) ≡ n = length-drop r.used b ∙ ap (λ (j : ℕ). j - r.used) (length-take-le (have + got) buf room) ∙ sym is-n in
      subst (λ t. TurnIs t d' (record { ordinal = r.ordinal; have = n; text = r.text; onward = r.onward }) buf' out') (sym turn_is)
      (record {
        desk = m.desk;
        ordinal = m.ordinal;
        have = sym size ∙ ap length same;
        waiting = sym rest ∙ same;
        text_length = m.put.ends ∙ zero-add (length (all_of rule why (eqb got 0) d k b).text);
        text = m.put.is;
        onward = m.onward;
      })

  -- ---- bounds of a turn
  pub ordinal_near : (turn rule why stands piece).next.ordinal ≤ k + (have + got)
  ordinal_near =
      let b : List ℕ = take have buf ++ piece in
      let l = few_answers rule (cuts b) (eqb (length piece) 0) d in
      omega (arith, l, ap length whole_piece, length-take-le (have + got) buf room)

  pub few_waiting : (turn rule why stands piece).onward ≡ true → length (turn rule why stands piece).next.waiting ≤ 8
  few_waiting goes = few_wait (cuts (take have buf ++ piece)) (still (series_of (take have buf ++ piece)).end (eqb (length piece) 0) goes)
    where
      still : (e : End) (ended : Bool) → reads_on ended e ≡ true → reads_on false e ≡ true
      still no_bytes ended g = refl
      still (unknown_kind kind) ended g = g
      still (cut_body kind) ended g = refl
