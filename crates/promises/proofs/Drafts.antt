-- Scripts and drafts: what each needs to pass from one state of the records to the next.
use Prim.Native.Nat.{ℕ, zero, suc, ◌≤◌, ◌<◌}
use mathlib.Core.Path.{◌≡◌}
use mathlib.Core.Bool.{Bool, true, false, cond}
use mathlib.Core.List.{List, [], ◌∷◌, ◌++◌, map}
use native.Mathlib.Omega.{arith}
use lib.ListN.{get_or, set}
use Rattle.records.specs.Lists.{filter}
use Rattle.records.specs.House.{no_script, no_draft}
use Rattle.records.specs.declared.Script.{Script}
use Rattle.records.specs.declared.Draft.{Draft}
use Rattle.rules.specs.Facts.{Among, Filed, Ascending, Texts}
use Rattle.rules.proofs.Lists.{each_imp}
use Rattle.promises.proofs.Parts.{place_move}

-- ---- more rooms
pub texts_more : (rooms rooms' : ℕ) → Among rooms rooms' → (last : ℕ) (ss : List Script) (ds : List Draft) → Texts rooms last ss ds → Texts rooms' last ss ds
texts_more rooms rooms' more last ss ds T = record {
  size = T.size;
  each = λ i. let s = T.each i in record {
    absent = s.absent;
    label = s.label;
    origin_there = λ k. place_move rooms rooms' (get_or ss i no_script).origin (more (get_or ss i no_script).origin) (s.origin_there k);
  };
  drafted = T.drafted;
  filed = each_imp (Filed rooms ss) (Filed rooms' ss) ds
      (λ d f. record {
        script_there = f.script_there;
        places_there = λ p k. place_move rooms rooms' p (more p) (f.places_there p k);
        some_place = f.some_place;
        room_script = f.room_script;
        house_script = f.house_script;
      }) T.filed;
  ascending = T.ascending;
  at_most = T.at_most;
}

-- ---- ascending numbers
pub ascending_later : (n last later : ℕ) → last ≤ later → (l : List Draft) → Ascending n last l → Ascending n later l
ascending_later n last later h [] a = tt
ascending_later n last later h (d ∷ ds) a = ((a.0.0, omega (arith, a.0.1)), ascending_later d.number last later h ds a.1)

ascending_lower : (n m last : ℕ) → n ≤ m → (l : List Draft) → Ascending m last l → Ascending n last l
ascending_lower n m last h [] a = tt
ascending_lower n m last h (d ∷ ds) a = ((omega (arith, a.0.0), a.0.1), a.1)

pub ascending_keep : (p : Draft → Bool) (n last : ℕ) (l : List Draft) → Ascending n last l → Ascending n last (filter p l)
ascending_keep p n last [] a = tt
ascending_keep p n last (d ∷ ds) a = go (ascending_keep p d.number last ds a.1) (p d)
  where
    go : Ascending d.number last (filter p ds) → (b : Bool) → Ascending n last (cond b (d ∷ filter p ds) (filter p ds))
    go r true = (a.0, r)
    go r false = ascending_lower n d.number last (omega (arith, a.0.0)) (filter p ds) r

pub ascending_map : (f : Draft → Draft) → ((d : Draft) → (f d).number ≡ d.number) → (n last : ℕ) (l : List Draft) → Ascending n last l
    → Ascending n last (map f l)
ascending_map f e n last [] a = tt
ascending_map f e n last (d ∷ ds) a = rw (e d) (a.0, ascending_map f e d.number last ds a.1)

pub ascending_set : (n last : ℕ) (l : List Draft) (i : ℕ) (v : Draft) → v.number ≡ (get_or l i no_draft).number → Ascending n last l → Ascending n last (set l i v)
ascending_set n last [] i v e a = tt
ascending_set n last (d ∷ ds) zero v e a = rw e a
ascending_set n last (d ∷ ds) (suc i) v e a = (a.0, ascending_set d.number last ds i v e a.1)

-- one more, whose number is above them all
pub ascending_more : (n last : ℕ) (l : List Draft) (x : Draft) → n ≤ last → last < x.number → Ascending n last l → Ascending n x.number (l ++ (x ∷ []))
ascending_more n last [] x h k a = ((omega arith, omega arith), tt)
ascending_more n last (d ∷ ds) x h k a = ((a.0.0, omega (arith, a.0.1)), ascending_more d.number last ds x a.0.1 k a.1)
