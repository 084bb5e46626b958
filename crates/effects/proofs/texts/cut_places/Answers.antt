-- `cut_places` meets its contract: a map in place over the live drafts; while the answer is yes, each that was passed has a place.
use native.Mathlib.Omega.{arith}
use Prim.Native.Nat.{ℕ}
use mathlib.Core.Path.{◌≡◌, sym, ◌∙◌, ap}
use lib.ListN.{length, take}
use lib.Seq.{take_all}
use Rattle.records.specs.Lists.{filter}
use Rattle.records.specs.House.{House, view, no_draft}
use Rattle.records.specs.Lookups.{placed}
use Rattle.effects.specs.Elements.{unplaced}
use Rattle.sessions.proofs.InPlace.{drafts, done_length, store, finish_map}
use Rattle.effects.proofs.Lists.{stays_stored}
use Rattle.effects.proofs.Same.{both}
-- the first i drafts of h have a place
use Rattle.effects.proofs.texts.cut_places.Goals as goal

abbrev Placed : ℕ → House → Type 0
Placed i h = filter placed (take i h.drafts) ≡ take i h.drafts

pub drafts-preserved : goal.drafts-preserved
drafts-preserved c =
    let put = c.put_draft in
    let p = c.unplaced-less in
    let d = c.draft_at-draft in
    let t = c.drafts-test.true in
    let l = c.drafts in
    let n = c.draft_count-end.ensures in
    let size = ap (λ (h : House). length h.drafts) l.invariant.1.is ∙ done_length _ l.i _ in
    let is = p.ensures ∙ ap (unplaced _) d.ensures in (
      omega arith,
      store drafts _ _ l.i _ no_draft l.invariant.1 (omega arith) _ _ is put.ensures,
      λ e.
          let k = both _ _ e in
          rw put.ensures (stays_stored placed (view l.records).drafts l.i p.result (omega (arith, size)) k.1 (l.invariant.2 k.0)),
    )

pub returns : goal.returns
returns c =
    let l = c.drafts in
    let t = c.drafts-test.false in
    let n = c.draft_count-end.ensures in
    let is = finish_map drafts _ _ l.i _ l.invariant.1 (omega arith) in
    let size = ap (λ (h : House). length h.drafts) l.invariant.1.is ∙ done_length _ l.i _ in
    let same = ap (λ (h : House). h.drafts) is in (
      is,
      λ e.
          let all : filter placed (view l.records).drafts ≡ (view l.records).drafts =
          rw (take_all l.i (view l.records).drafts (omega (arith, size))) at (l.invariant.2 e) in
          ap (filter placed) (sym same) ∙ all ∙ same,
    )
