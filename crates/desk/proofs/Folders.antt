-- The folder of a name, by the place of the last `/`.
use Rattle.std.proofs.Common.{◌≡◌, ◌≢◌, ℕ, zero, suc, ◌+◌, ◌<◌, ◌≤◌, Bool, true, false, cond, ◌||◌, List, [], ◌∷◌, length, get_or, refl, ap, arith, eqb}
use Rattle.std.proofs.lemmas.Bool.{eq-eqb, ne_eqb}
use Rattle.desk.specs.Names.{folder_length}

pub none_left : (name : List ℕ) → ((k : ℕ) → k < length name → get_or name k 0 ≢ 47) → folder_length name ≡ 0
none_left [] none = refl
none_left (byte ∷ name) none = rw (ne_eqb byte 47 (none 0 (omega arith)), none_left name (λ k h. none (suc k) (omega arith))) refl

pub after_last : (name : List ℕ) (i : ℕ) → i < length name → get_or name i 0 ≡ 47 → ((k : ℕ) → i + 1 ≤ k → k < length name → get_or name k 0 ≢ 47) → folder_length name ≡ i + 1
after_last [] i inside here after = absurd (omega arith)
after_last (byte ∷ name) zero inside here after = rw (eq-eqb byte 47 here) (ap suc (none_left name (λ k h. after (suc k) (omega arith) (omega arith))))
after_last (byte ∷ name) (suc i) inside here after =
    rw (after_last name i (omega arith) here (λ k l h. after (suc k) (omega arith) (omega arith)), ne_eqb (i + 1) 0 (λ z. omega (arith, z))) (folder (eqb byte 47))
  where
    folder : (t : Bool) → cond (t || true) (suc (i + 1)) 0 ≡ suc i + 1
    folder true = omega arith
    folder false = omega arith
