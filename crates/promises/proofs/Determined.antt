-- Any two results that a contract allows coincide. A contract that is an equation with a definition on the arguments leaves one result; for each public
-- contract of another form a theorem takes what its `ensures` says of two results, and what `view`, `past` or `shown` shows of the parts lent.
use Rattle.std.specs.Prelude.{Option, Result}
use Prim.Native.Nat.{ℕ, ◌≤◌}
use mathlib.Core.Path.{◌≡◌, sym, ap, ◌∙◌}
use mathlib.Core.List.{List}
use lib.ListN.{length}
use Rattle.request.specs.declared.Request.{Request}
use Rattle.records.specs.House.{House, view, empty_house}
use Rattle.records.specs.declared.Rule.{Rule}
use Rattle.effects.specs.declared.Change.{Change}
use Rattle.reader.specs.Reading.{Saved, blank, Walk, Taken, stopped, walked}
use Rattle.opening.specs.Opening.{Opening, Opens, opens, opened_by}
use Rattle.opening.specs.Desks.{OpensDesk, opens_desk, desk_by}
use Rattle.counter.specs.Numbers.{next_after, last_after}
use Rattle.counter.specs.declared.Counter.{Counter}
use Rattle.counter.specs.declared.Issued.{Issued}
use Rattle.kept.specs.Log.{past}
use Rattle.reasons.specs.declared.Reason.{Reason}
use Rattle.judge.specs.declared.Grant.{Grant}
use Rattle.history.specs.Machine.{Outcome, outcome, opened, ruled, step}
use Rattle.history.specs.Desk as history
use Rattle.history.specs.Desk.{verdict_of, desk_rules, shown, opened_under}
use Rattle.history.specs.declared.Answer.{Answer}
use Rattle.history.specs.declared.Desk.{Desk}
use Rattle.history.specs.declared.NoRule.{NoRule}
use Rattle.batch.specs.Batch.{State, stop_number, Batched}
use Rattle.batch.specs.declared.Ran.{Ran}
use Rattle.batch.specs.declared.RanDesk.{RanDesk}
use Rattle.batch.proofs.Bounds.{one_result}
use Rattle.house.specs.Calls.{Left, left, as_opened, as_loaded, BatchCall}

-- r and s are results (or what a view shows of records), v what the definition says
pub determined : {A : Type 0} {r s v : A} → r ≡ v → s ≡ v → r ≡ s
determined p q = p ∙ sym q

-- what a desk shows
abbrev shown_of : Desk → State
shown_of d = shown d.base d.log d.current d.last

-- two results of records::draft_count: one_draft_count
pub one_draft_count : (records : List ℕ) (r s : ℕ) → (r ≡ length (view records).drafts) × (r ≤ 256) → (s ≡ length (view records).drafts) × (s ≤ 256) → r ≡ s
one_draft_count records r s p q = determined p.0 q.0

-- two results of kept::kept_count: one_kept_count
pub one_kept_count : (log : List ℕ) (r s : ℕ) → (r ≡ length (past log)) × (r ≤ 32) → (s ≡ length (past log)) × (s ≤ 32) → r ≡ s
one_kept_count log r s p q = determined p.0 q.0

-- two results of counter::issue: one_issue
pub one_issue : (entry c d : Counter) (r s : Option ℕ)
    → (r ≡ next_after entry.last) × (c.last ≡ last_after entry.last)
    → (s ≡ next_after entry.last) × (d.last ≡ last_after entry.last) → (r ≡ s) × (c ≡ d)
one_issue entry c d r s p q = (determined p.0 q.0, (λ i. record { last = determined p.1 q.1 i }))

-- two results of counter::issue_from: one_issued
pub one_issued : (last : ℕ) (r s : Issued)
    → (r.next ≡ next_after last) × (r.last ≡ last_after last) → (s.next ≡ next_after last) × (s.last ≡ last_after last) → r ≡ s
one_issued last r s p q = λ i. record { next = determined p.0 q.0 i; last = determined p.1 q.1 i }

-- s₁ and s₂ are what the records show, with the last number and the rule
-- two results of reader::take_all: one_walk
pub one_walk : (image : List ℕ) (s₁ s₂ : Saved) (r s : Walk) → stopped r s₁ ≡ walked 0 blank image → stopped s s₂ ≡ walked 0 blank image → (r ≡ s) × (s₁ ≡ s₂)
one_walk image s₁ s₂ r s p q = (ap (λ (t : Taken). t.stop) (determined p q), ap (λ (t : Taken). t.got) (determined p q))

-- two results of opening::open: one_opening
pub one_opening : (image : List ℕ) (s₁ s₂ : Saved) (r s : Opening) → opens r s₁ ≡ opened_by image → opens s s₂ ≡ opened_by image → (r ≡ s) × (s₁ ≡ s₂)
one_opening image s₁ s₂ r s p q = (ap (λ (o : Opens). o.answer) (determined p q), ap (λ (o : Opens). o.now) (determined p q))

-- two results of opening::open_desk: one_desk
pub one_desk : (image : List ℕ) (d₁ d₂ : State) (r s : Opening) (rule₁ rule₂ : Rule) → opens_desk r d₁ rule₁ ≡ desk_by image → opens_desk s d₂ rule₂ ≡ desk_by image
    → (r ≡ s) × (d₁ ≡ d₂) × (rule₁ ≡ rule₂)
one_desk image d₁ d₂ r s rule₁ rule₂ p q =
    (ap (λ (o : OpensDesk). o.answer) (determined p q), ap (λ (o : OpensDesk). o.desk) (determined p q), ap (λ (o : OpensDesk). o.rule) (determined p q))

-- two results of history::empty: one_empty
pub one_empty : (r s : Desk) → (shown_of r ≡ opened empty_house 0) × (r.rule ≡ Rule.One) → (shown_of s ≡ opened empty_house 0) × (s.rule ≡ Rule.One)
    → (shown_of r ≡ shown_of s) × (r.rule ≡ s.rule)
one_empty r s p q = (determined p.0 q.0, determined p.1 q.1)

-- two results of history::open: one_opened
pub one_opened : (last rule : ℕ) (d₁ d₂ : State) (r s : Result (Unit {0}) NoRule) (rule₁ rule₂ : Rule)
    → history.opens r d₁ rule₁ ≡ opened_under last rule → history.opens s d₂ rule₂ ≡ opened_under last rule → (r ≡ s) × (d₁ ≡ d₂) × (rule₁ ≡ rule₂)
one_opened last rule d₁ d₂ r s rule₁ rule₂ p q =
    (ap (λ (o : history.Opens). o.answer) (determined p q), ap (λ (o : history.Opens). o.desk) (determined p q), ap (λ (o : history.Opens). o.rule) (determined p q))

-- d₁ and d₂ are what `shown` shows of the parts at exit
one_outcome : {o : Outcome House Change} (d₁ d₂ : State) (r s : Answer) → outcome d₁ r ≡ o → outcome d₂ s ≡ o → (d₁ ≡ d₂) × (r ≡ s)
one_outcome d₁ d₂ r s p q =
    (ap (λ (o : Outcome House Change). o.desk) (determined p q), ap (λ (o : Outcome House Change). o.answer) (determined p q))

-- two results of history::act: one_acted
pub one_acted : (d : State) (request : Request) (ruling : Result Grant Reason) (d₁ d₂ : State) (r s : Answer)
    → ((rule : Rule) → outcome d₁ r ≡ ruled (desk_rules rule) d (verdict_of request ruling))
    → ((rule : Rule) → outcome d₂ s ≡ ruled (desk_rules rule) d (verdict_of request ruling)) → (d₁ ≡ d₂) × (r ≡ s)
one_acted d request ruling d₁ d₂ r s p q = one_outcome d₁ d₂ r s (p Rule.One) (q Rule.One)

-- two results of history::take: one_taken
pub one_taken : (rule : Rule) (d : State) (request : Request) (d₁ d₂ : State) (r s : Answer)
    → outcome d₁ r ≡ step (desk_rules rule) d request → outcome d₂ s ≡ step (desk_rules rule) d request → (d₁ ≡ d₂) × (r ≡ s)
one_taken rule d request d₁ d₂ r s p q = one_outcome d₁ d₂ r s p q

-- two results of batch::run: one_run
pub one_run : (rule : Rule) (d : State) (requests answers : List ℕ) (place : ℕ) (d₁ d₂ : State) (r s : Ran) (answers₁ answers₂ : List ℕ)
    → Batched rule d requests answers place d₁ r answers₁ → Batched rule d requests answers place d₂ s answers₂ → (d₁ ≡ d₂) × ((r ≡ s) × (answers₁ ≡ answers₂))
one_run rule d requests answers place d₁ d₂ r s answers₁ answers₂ p q = one_result p q

-- two results of batch::run_desk: one_ran_desk
pub one_ran_desk : (rule : Rule) (d : State) (requests answers : List ℕ) (place : ℕ) (r s : RanDesk) (answers₁ answers₂ : List ℕ)
    → Batched rule d requests answers place (shown_of r.desk) r.ran answers₁ × (r.desk.rule ≡ rule)
    → Batched rule d requests answers place (shown_of s.desk) s.ran answers₂ × (s.desk.rule ≡ rule)
    → ((shown_of r.desk ≡ shown_of s.desk) × ((r.ran ≡ s.ran) × (answers₁ ≡ answers₂))) × (r.desk.rule ≡ s.desk.rule)
one_ran_desk rule d requests answers place r s answers₁ answers₂ p q = (one_result p.0 q.0, determined p.1 q.1)

-- ---- from C: r and s are the numbers answered, rule₁ and rule₂ those of the desk's rule. The exports of house_c have the contracts of house, word for word.
one_left : {o : Left} (d₁ d₂ : State) (r s rule₁ rule₂ : ℕ) → left r d₁ rule₁ ≡ o → left s d₂ rule₂ ≡ o → (r ≡ s) × (d₁ ≡ d₂) × (rule₁ ≡ rule₂)
one_left d₁ d₂ r s rule₁ rule₂ p q =
    (ap (λ (l : Left). l.answer) (determined p q), ap (λ (l : Left). l.desk) (determined p q), ap (λ (l : Left). l.rule) (determined p q))

-- two results of house::desk_open_parts: one_house_opened
-- two results of house_c::desk_open_parts: one_house_opened
pub one_house_opened : (start under : ℕ) (d₁ d₂ : State) (r s rule₁ rule₂ : ℕ)
    → left r d₁ rule₁ ≡ as_opened (opened_under start under) → left s d₂ rule₂ ≡ as_opened (opened_under start under) → (r ≡ s) × (d₁ ≡ d₂) × (rule₁ ≡ rule₂)
one_house_opened start under d₁ d₂ r s rule₁ rule₂ p q = one_left d₁ d₂ r s rule₁ rule₂ p q

-- two results of house::desk_load_parts: one_house_loaded
-- two results of house_c::desk_load_parts: one_house_loaded
pub one_house_loaded : (image : List ℕ) (d₁ d₂ : State) (r s rule₁ rule₂ : ℕ)
    → left r d₁ rule₁ ≡ as_loaded (desk_by image) → left s d₂ rule₂ ≡ as_loaded (desk_by image) → (r ≡ s) × (d₁ ≡ d₂) × (rule₁ ≡ rule₂)
one_house_loaded image d₁ d₂ r s rule₁ rule₂ p q = one_left d₁ d₂ r s rule₁ rule₂ p q

-- two results of house::desk_batch_parts: one_house_batch
-- two results of house_c::desk_batch_parts: one_house_batch
pub one_house_batch : (rule : Rule) (d : State) (requests answers : List ℕ) (place : ℕ) (d₁ d₂ : State) (r s used₁ used₂ written₁ written₂ : ℕ) (answers₁ answers₂ : List ℕ)
    → BatchCall rule d requests answers place d₁ r used₁ written₁ answers₁ → BatchCall rule d requests answers place d₂ s used₂ written₂ answers₂
    → (r ≡ s) × (d₁ ≡ d₂) × (used₁ ≡ used₂) × (written₁ ≡ written₂) × (answers₁ ≡ answers₂)
one_house_batch rule d requests answers place d₁ d₂ r s used₁ used₂ written₁ written₂ answers₁ answers₂ p q =
    let same = one_result p.batched q.batched in
    let ran = same.1.0 in (
      p.is_number ∙ ap (λ (t : Ran). stop_number t.stop) ran ∙ sym q.is_number,
      same.0,
      ap (λ (t : Ran). t.used) ran,
      ap (λ (t : Ran). t.written) ran,
      same.1.1,
    )
