-- What is promised holds of every desk that bytes reach, from any records and last number that meet the record rules: over any calls of the batch, and over
-- any input of the program.
use Rattle.std.specs.Prelude.{Ok, Err}
use Prim.Native.Nat.{ℕ, ◌≤◌}
use mathlib.Core.Path.{◌≡◌, refl, sym, ap, ◌∙◌, subst}
use mathlib.Core.Bool.{Bool, true, false, ◌&&◌}
use mathlib.Core.List.{List, [], ◌∷◌, ◌++◌}
use native.Mathlib.Omega.{arith}
use lib.ListN.{length}
use lib.Seq.{take_all}
use Rattle.request.specs.Bytes.{Bytes}
use Rattle.request.specs.Framing.{series_of}
use Rattle.request.specs.declared.Request.{Request}
use Rattle.records.specs.Lists.{all}
use Rattle.records.specs.House.{House, empty_house}
use Rattle.records.specs.declared.Rule.{Rule}
use Rattle.counter.specs.Numbers.{top}
use Rattle.history.specs.Machine.{opened, step, run, answers}
use Rattle.history.specs.Desk.{desk_rules}
use Rattle.batch.specs.Batch.{State, room_for, taken}
use Rattle.batch.proofs.Served.{desk_runs}
use Rattle.rules.specs.Rules.{rules}
use Rattle.rules.proofs.Empty.{empty_meets}
use Rattle.reader.specs.Reading.{Saved}
use Rattle.opening.specs.Opening.{Opening, keeps, opened_by}
use Rattle.opening.specs.Desks.{desk_by}
use Rattle.opening.proofs.Theorems.{fine}
use Rattle.promises.specs.Fits.{fits}
use Rattle.promises.specs.Calls.{Call, Calls, none, then, room_of, taken_in, Promised}
use Rattle.promises.proofs.Fitting.{taken_fit}
use Rattle.promises.proofs.Reached.{reached}
use Rattle.promises.proofs.Back.{back_as_it_stood}
use Rattle.promises.proofs.Seen.{given_once, live_made}
use Rattle.promises.proofs.Sight.{sessions_within, reads_within}
use Rattle.promises.proofs.Leads.{always_led}
use Rattle.promises.proofs.Demands.{by_the_book, by_the_answers, rising, no_change_left, newest_goes}

-- ---- of any requests that fit their bytes
pub of_requests : (rule : Rule) (h : House) (last : ℕ) → rules h last ≡ true → (qs : List Request) → all fits qs ≡ true → Promised rule h last qs (run (desk_rules rule) (opened h last) qs)
of_requests rule h last m qs fit = record {
  by_the_book = by_the_book rule h last qs;
  by_the_answers = by_the_answers rule h last qs;
  rising = rising rule h last qs;
  no_change_left = λ u a z. no_change_left rule h last qs u a z;
  newest_goes = λ u a n. newest_goes rule h last qs u a n;
  back_as_it_stood = λ q rs u c b. back_as_it_stood rule h last qs q rs u c b;
  given_once = given_once rule h last qs;
  live_made = live_made rule h last m qs;
  sessions_within = sessions_within rule h last m qs fit;
  reads_within = reads_within rule h last m qs fit;
  always_led = always_led rule h last m qs fit;
  meets = reached rule h last m qs fit;
}

-- ---- of any calls of the batch
run_on : (rule : Rule) (d : State) (ps qs : List Request) → run (desk_rules rule) d (ps ++ qs) ≡ run (desk_rules rule) (run (desk_rules rule) d ps) qs
run_on rule d [] qs = refl
run_on rule d (p ∷ ps) qs = run_on rule (step (desk_rules rule) d p).desk ps qs

all_on : (ps qs : List Request) → all fits ps ≡ true → all fits qs ≡ true → all fits (ps ++ qs) ≡ true
all_on [] qs a b = b
all_on (p ∷ ps) qs a b = go (fits p) a (λ t. all_on ps qs t b)
  where
    go : (t : Bool) → (t && all fits ps) ≡ true → (all fits ps ≡ true → all fits (ps ++ qs) ≡ true) → (t && all fits (ps ++ qs)) ≡ true
    go true e on = on e
    go false e on = e

-- a desk that calls lead to is the one that the requests which they took lead to, and all of these fit
pub calls_run : {rule : Rule} {d d' : State} {cs : List Call} → Calls rule d cs d' → d' ≡ run (desk_rules rule) d (taken_in rule d cs)
calls_run {rule} none = refl
calls_run {rule} {d} {d'} (then {d₁ = d₁} {cs = cs} c bytes b more) =
    let qs : List Request = taken rule d c.requests (room_of c) in
    calls_run more ∙ ap (λ (x : State). run (desk_rules rule) x (taken_in rule x cs)) (desk_runs b) ∙ sym (run_on rule d qs (taken_in rule (run (desk_rules rule) d qs) cs))

pub calls_fit : {rule : Rule} {d d' : State} {cs : List Call} → Calls rule d cs d' → all fits (taken_in rule d cs) ≡ true
calls_fit {rule} none = refl
calls_fit {rule} {d} (then {cs = cs} c bytes b more) =
    all_on (taken rule d c.requests (room_of c)) _ (taken_fit c.requests bytes (room_for (room_of c) (answers (desk_rules rule) d (series_of c.requests).requests)))
    (subst (λ (x : State). all fits (taken_in rule x cs) ≡ true) (desk_runs b) (calls_fit more))

pub of_calls : (rule : Rule) (h : House) (last : ℕ) → rules h last ≡ true → {cs : List Call} {d : State} → Calls rule (opened h last) cs d → Promised rule h last (taken_in rule (opened h last) cs) d
of_calls rule h last m {cs} {d} c =
    subst (Promised rule h last (taken_in rule (opened h last) cs)) (sym (calls_run c)) (of_requests rule h last m (taken_in rule (opened h last) cs) (calls_fit c))

-- ---- of any input of the program, whatever it opened with: its answers are those of the requests that the input is cut into
pub of_input : (rule : Rule) (h : House) (last : ℕ) → rules h last ≡ true → (input : List ℕ) → Bytes input
    → Promised rule h last (series_of input).requests (run (desk_rules rule) (opened h last) (series_of input).requests)
of_input rule h last m input bytes =
    let qs : List Request = (series_of input).requests in
    of_requests rule h last m qs (subst (λ (l : List Request). all fits l ≡ true) (take_all (length qs) qs (omega arith)) (taken_fit input bytes (length qs)))

-- ---- from an opening without records, with any last number: they meet the rules
pub from_empty : (rule : Rule) (last : ℕ) → last ≤ top → {cs : List Call} {d : State} → Calls rule (opened empty_house last) cs d → Promised rule empty_house last (taken_in rule (opened empty_house last) cs) d
from_empty rule last l = of_calls rule empty_house last (empty_meets last l)

pub input_from_empty : (rule : Rule) (last : ℕ) → last ≤ top → (input : List ℕ) → Bytes input
    → Promised rule empty_house last (series_of input).requests (run (desk_rules rule) (opened empty_house last) (series_of input).requests)
input_from_empty rule last l = of_input rule empty_house last (empty_meets last l)

-- ---- from any image, under its rule: what opens meets the rules, and a refused image opens the empty desk with last number 0
opened_meets : (b : List ℕ) (a : Opening) → (opened_by b).answer ≡ a → keeps (opened_by b).now ≡ true
opened_meets b (Ok _) e = ((fine b).0 e).0
opened_meets b (Err n) e = subst (λ (s : Saved). keeps s ≡ true) (sym ((fine b).1 n e)) (empty_meets 0 (omega arith))

pub from_image : (b : List ℕ) {cs : List Call} {d : State} → Calls (desk_by b).rule (desk_by b).desk cs d
    → Promised (desk_by b).rule (opened_by b).now.house (opened_by b).now.last (taken_in (desk_by b).rule (desk_by b).desk cs) d
from_image b = of_calls (desk_by b).rule (opened_by b).now.house (opened_by b).now.last (opened_meets b (opened_by b).answer refl)

pub input_from_image : (b input : List ℕ) → Bytes input
    → Promised (desk_by b).rule (opened_by b).now.house (opened_by b).now.last (series_of input).requests
    (run (desk_rules (desk_by b).rule) (desk_by b).desk (series_of input).requests)
input_from_image b = of_input (desk_by b).rule (opened_by b).now.house (opened_by b).now.last (opened_meets b (opened_by b).answer refl)
