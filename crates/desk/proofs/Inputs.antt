-- However the input falls into pieces, what is written for them is what is printed for it.
use mathlib.Core.Path.{◌≡◌, refl, sym, ap, ◌∙◌}
use mathlib.Core.Bool.{Bool, true, false, cond, ◌&&◌}
use mathlib.Core.List.{List, [], ◌∷◌, ◌++◌, append_assoc, append-nil}
use Prim.Native.Nat.{ℕ, ◌+◌, ◌<◌}
use native.Mathlib.Omega.{arith}
use lib.Dec.{eqb}
use lib.ListN.{length, drop}
use borrow.Author.Tests.{ne_eqb}
use Rattle.request.specs.Framing.{End, no_bytes, unknown_kind, cut_body, Series, series_of, written_out, kind_of}
use Rattle.request.specs.declared.Request.{Request}
use Rattle.request.proofs.Framing.{cuts}
use Rattle.request.proofs.Absurd.{differ}
use Rattle.records.specs.House.{House}
use Rattle.records.specs.declared.Rule.{Rule}
use Rattle.effects.specs.declared.Change.{Change}
use Rattle.history.specs.Machine.{Desk, step, run}
use Rattle.history.specs.Desk.{desk_rules}
use Rattle.desk.specs.Lines.{line_of}
use Rattle.desk.specs.Answers.{Given, reply, reason_for, replies, at_end, given_to}
use Rattle.desk.specs.Printed.{lines_from, printed_on, printed}
use Rattle.desk.specs.Turns.{reads_on, Stand, first, turn, writes, went_on, Pieces, joined}
use Rattle.desk.proofs.Frames.{prepend, onwards, more_follows}

-- ---- lists of answers, one behind the other
lines_behind : (why : Bool) (k : ℕ) (xs ys : List Given) → lines_from why k (xs ++ ys) ≡ lines_from why k xs ++ lines_from why (k + length xs) ys
lines_behind why k [] ys = let e : k ≡ k + 0 = omega arith in ap (λ (n : ℕ). lines_from why n ys) e
lines_behind why k (x ∷ xs) ys =
    let e : k + 1 + length xs ≡ k + length (x ∷ xs) = omega arith in
    ap (λ (t : List ℕ). line_of why k x.kind x.answer x.reason ++ t) (lines_behind why (k + 1) xs ys ∙ ap (λ (n : ℕ). lines_from why (k + 1) xs ++ lines_from why n ys) e)
    ∙ sym (append_assoc (line_of why k x.kind x.answer x.reason) (lines_from why (k + 1) xs) (lines_from why (k + length (x ∷ xs)) ys))

given_behind : (rule : Rule) (d : Desk House Change) (qs : List Request) (s : Series) → given_to rule true d (prepend qs s) ≡ replies rule d qs ++ given_to rule true (run (desk_rules rule) d qs) s
given_behind rule d [] s = refl
given_behind rule d (q ∷ qs) s = ap (λ (gs : List Given). reply (kind_of q) (step (desk_rules rule) d q).answer (reason_for rule d q) ∷ gs) (given_behind rule (step (desk_rules rule) d q).desk qs s)

-- ---- a turn that is not the last: the text is the beginning of what is to be printed, and all of it where the program stops
module _ (rule : Rule) (why : Bool) (d : Desk House Change) (k : ℕ) (b later : List ℕ) where
  abbrev qs : List Request
  qs = (series_of b).requests

  abbrev e : Desk House Change
  e = run (desk_rules rule) d qs

  abbrev rest : List ℕ
  rest = drop (length (written_out qs)) b ++ later

  begun : printed_on rule why d k (b ++ later)
      ≡ lines_from why k (given_to rule false d (series_of b))
      ++ cond (reads_on false (series_of b).end) (printed_on rule why (run (desk_rules rule) d qs) (k + length (given_to rule false d (series_of b))) rest) []
  begun = ap (λ (s : Series). lines_from why k (given_to rule true d s)) (more_follows (cuts b) later) ∙ ap (lines_from why k) (given_behind rule d qs (onwards (series_of b).end rest)) ∙ by (series_of b).end
    where
      waits : lines_from why k (replies rule d qs ++ given_to rule true e (series_of rest)) ≡ lines_from why k (replies rule d qs ++ []) ++ printed_on rule why e (k + length (replies rule d qs ++ [])) rest
      waits = lines_behind why k (replies rule d qs) (given_to rule true e (series_of rest)) ∙ ap (λ (gs : List Given). lines_from why k gs ++ printed_on rule why e (k + length gs) rest) (sym (append-nil (replies rule d qs)))

      by : (end : End) → lines_from why k (replies rule d qs ++ given_to rule true e (onwards end rest))
          ≡ lines_from why k (replies rule d qs ++ at_end false end) ++ cond (reads_on false end) (printed_on rule why e (k + length (replies rule d qs ++ at_end false end)) rest) []
      by no_bytes = waits
      by (unknown_kind kind) = sym (append-nil (lines_from why k (replies rule d qs ++ at_end false (unknown_kind kind))))
      by (cut_body kind) = waits

not_end : (piece : List ℕ) → 0 < length piece → eqb (length piece) 0 ≡ false
not_end piece some = ne_eqb (length piece) 0 (λ e. omega (arith, some, e))

turn_begun : (rule : Rule) (why : Bool) (s : Stand) (piece : List ℕ) → 0 < length piece → (later : List ℕ)
    → printed_on rule why s.desk s.ordinal ((s.waiting ++ piece) ++ later)
    ≡ (turn rule why s piece).text ++ cond (turn rule why s piece).onward (printed_on rule why (turn rule why s piece).next.desk (turn rule why s piece).next.ordinal ((turn rule why s piece).next.waiting ++ later)) []
turn_begun rule why s piece some later =
    rw (not_end piece some) (begun rule why s.desk s.ordinal (s.waiting ++ piece) later)

-- ---- all pieces, and then the end
all_written : (rule : Rule) (why : Bool) (s : Stand) (pieces : List (List ℕ)) → Pieces pieces → writes rule why s pieces ≡ printed_on rule why s.desk s.ordinal (s.waiting ++ joined pieces)
all_written rule why s [] are = refl
all_written rule why s (piece ∷ more) are =
    let next : Stand = (turn rule why s piece).next in
    ap (λ (t : List ℕ). (turn rule why s piece).text ++ cond (turn rule why s piece).onward t []) (all_written rule why next more are.1)
    ∙ sym (turn_begun rule why s piece are.0 (joined more))
    ∙ ap (printed_on rule why s.desk s.ordinal) (append_assoc s.waiting piece (joined more))

-- where the program stopped, nothing that follows is printed
all_stopped : (rule : Rule) (why : Bool) (s : Stand) (pieces : List (List ℕ)) → Pieces pieces → went_on rule why s pieces ≡ false → (later : List ℕ)
    → writes rule why s pieces ≡ printed_on rule why s.desk s.ordinal (s.waiting ++ (joined pieces ++ later))
all_stopped rule why s [] are stops later = differ cc
all_stopped rule why s (piece ∷ more) are stops later =
    let next : Stand = (turn rule why s piece).next in
    go next (turn rule why s piece).onward stops (λ e. all_stopped rule why next more are.1 e later)
    ∙ sym (turn_begun rule why s piece are.0 (joined more ++ later))
    ∙ ap (printed_on rule why s.desk s.ordinal)
    (append_assoc s.waiting piece (joined more ++ later) ∙ ap (λ (t : List ℕ). s.waiting ++ t) (sym (append_assoc piece (joined more) later)))
  where
    go : (next : Stand) (g : Bool) → g && went_on rule why next more ≡ false
        → (went_on rule why next more ≡ false → writes rule why next more ≡ printed_on rule why next.desk next.ordinal (next.waiting ++ (joined more ++ later)))
        → (turn rule why s piece).text ++ cond g (writes rule why next more) [] ≡ (turn rule why s piece).text ++ cond g (printed_on rule why next.desk next.ordinal (next.waiting ++ (joined more ++ later))) []
    go next false e rest = refl
    go next true e rest = ap (λ (t : List ℕ). (turn rule why s piece).text ++ t) (rest e)

-- d is the desk that the program opened
pub prints_pieces : (rule : Rule) (why : Bool) (d : Desk House Change) (pieces : List (List ℕ)) → Pieces pieces → writes rule why (first d) pieces ≡ printed rule why d (joined pieces)
prints_pieces rule why d pieces are = all_written rule why (first d) pieces are

pub stops_for_good : (rule : Rule) (why : Bool) (d : Desk House Change) (pieces : List (List ℕ)) → Pieces pieces → went_on rule why (first d) pieces ≡ false → (later : List ℕ)
    → writes rule why (first d) pieces ≡ printed rule why d (joined pieces ++ later)
stops_for_good rule why d pieces are stops later = all_stopped rule why (first d) pieces are stops later
