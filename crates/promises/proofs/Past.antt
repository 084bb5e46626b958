-- What holds of the records after any number of the kept changes, from the oldest on: a kept change and a take-back pass it on. Of any rulebook.
use Prim.Native.Nat.{ℕ, ◌+◌, ◌-◌, ◌≤◌}
use mathlib.Core.Path.{◌≡◌, refl, sym, ap, subst, ◌∙◌}
use mathlib.Core.Bool.{Bool, true, false, cond}
use mathlib.Core.List.{List, [], ◌∷◌, ◌++◌, foldl-append}
use native.Mathlib.Omega.{arith}
use native.Mathlib.Decide.{dec_le}
use lib.Dec.{ltb}
use lib.ListN.{length, take, drop, length-append, length-take, take-append-drop}
use lib.Seq.{take-nil, take_all, take-append-le, take-take, take-add}
use Rattle.history.specs.Machine.{Rulebook, Desk, Outcome, opened, changed, keep_change}
use Rattle.promises.specs.Back.{TakenBack}

-- a granted take-back leaves this desk
pub left_so : {S C Q : Type 0} {R : Rulebook S C Q} {d : Desk S C} {o : Outcome S C} → TakenBack R d o
    → o.desk ≡ record { base = d.base; log = take (length d.log - 1) d.log; current = changed R d.base (take (length d.log - 1) d.log); last = d.last }
left_so t = λ i. record { base = t.base i; log = t.log i; current = t.records i; last = t.last i }

-- one more without the newest
pub newest_off : {A : Type 0} (l : List A) (x : A) → take (length (l ++ (x ∷ [])) - 1) (l ++ (x ∷ [])) ≡ l
newest_off l x =
    let n : length (l ++ (x ∷ [])) - 1 ≡ length l = omega (arith, length-append l (x ∷ [])) in
    ap (λ (k : ℕ). take k (l ++ (x ∷ []))) n ∙ take-append-le (length l) l (x ∷ []) (omega arith) ∙ take_all (length l) l (omega arith)

module _ {S C Q : Type 0} (R : Rulebook S C Q) where
  -- a change kept: with room for one more, and where the oldest goes into the base
  pub keep_ways : (P : Desk S C → Type 0) (d : Desk S C) (c : C) (n : ℕ)
      → (ltb (length d.log) 32 ≡ true → P (record { base = d.base; log = d.log ++ (c ∷ []); current = R.apply d.current c; last = n }))
      → (ltb (length d.log) 32 ≡ false
      → P (record { base = changed R d.base (take 1 d.log); log = drop 1 d.log ++ (c ∷ []); current = R.apply d.current c; last = n }))
      → P (keep_change R d c n)
  unfolding keep_change
  keep_ways P d c n room full = go (ltb (length d.log) 32) refl
    where
      go : (t : Bool) → ltb (length d.log) 32 ≡ t → P (cond t
          (record { base = d.base; log = d.log ++ (c ∷ []); current = R.apply d.current c; last = n })
          (record { base = changed R d.base (take 1 d.log); log = drop 1 d.log ++ (c ∷ []); current = R.apply d.current c; last = n }))
      go true t = room t
      go false t = full t

  pub records_after : (d : Desk S C) (c : C) (n : ℕ) → (keep_change R d c n).current ≡ R.apply d.current c
  records_after d c n = keep_ways (λ e. e.current ≡ R.apply d.current c) d c n (λ t. refl) (λ t. refl)

  pub log_after : (d : Desk S C) (c : C) (n : ℕ) → (keep_change R d c n).log ≡ cond (ltb (length d.log) 32) (d.log ++ (c ∷ [])) (drop 1 d.log ++ (c ∷ []))
  log_after d c n =
      keep_ways (λ e. e.log ≡ cond (ltb (length d.log) 32) (d.log ++ (c ∷ [])) (drop 1 d.log ++ (c ∷ []))) d c n (λ t. rw t) (λ t. rw t)

  pub last_after_lem : (d : Desk S C) (c : C) (n : ℕ) → (keep_change R d c n).last ≡ n
  last_after_lem d c n = keep_ways (λ e. e.last ≡ n) d c n (λ t. refl) (λ t. refl)

  -- after any number of the changes G holds; with all of them made the records are s
  pub record Held (G : S → Type 0) (base : S) (log : List C) (s : S) : Type 0 where
    pub made : s ≡ changed R base log
    pub each : (k : ℕ) → G (changed R base (take k log))

  module _ (G : S → Type 0) (base : S) (log : List C) (s : S) (H : Held G base log s) where
    -- one change more
    push : (G' : S → Type 0) → ((x : S) → G x → G' x) → (c : C) → G' (R.apply s c) → Held G' base (log ++ (c ∷ [])) (R.apply s c)
    push G' more c next = record { made = made'; each = λ k. at k (dec_le k (length log)) }
      where
        made' : R.apply s c ≡ changed R base (log ++ (c ∷ []))
        made' = ap (λ (x : S). R.apply x c) H.made ∙ sym (foldl-append R.apply base log (c ∷ []))

        at : (k : ℕ) → Dec (k ≤ length log) → G' (changed R base (take k (log ++ (c ∷ []))))
        at k (yes l) = rw (take-append-le k log (c ∷ []) l) (more (changed R base (take k log)) (H.each k))
        at k (no l) =
            let e : take k (log ++ (c ∷ [])) ≡ log ++ (c ∷ []) = take_all k (log ++ (c ∷ [])) (omega (arith, length-append log (c ∷ []))) in
            rw (e, ← made') next

    -- the oldest goes into the base
    settle : Held G (changed R base (take 1 log)) (drop 1 log) s
    settle = record {
      made = H.made ∙ ap (changed R base) (sym (take-append-drop 1 log)) ∙ foldl-append R.apply base (take 1 log) (drop 1 log);
      each = λ k. rw (← foldl-append R.apply base (take 1 log) (take k (drop 1 log)), ← take-add 1 k log) (H.each (1 + k));
    }

    -- the newest is taken back
    pop : (m : ℕ) → Held G base (take m log) (changed R base (take m log))
    pop m = record { made = refl; each = λ k. at k (dec_le k m) }
      where
        at : (k : ℕ) → Dec (k ≤ m) → G (changed R base (take k (take m log)))
        at k (yes l) = rw (take-take k m log l) (H.each k)
        at k (no l) = rw (take_all k (take m log) (omega (arith, length-take m log))) (H.each m)

  -- ---- of a desk
  abbrev pub Sound : (S → Type 0) → Desk S C → Type 0
  Sound G d = Held G d.base d.log d.current

  -- the records of all kept changes but the newest
  abbrev pub less_newest : Desk S C → S
  less_newest d = changed R d.base (take (length d.log - 1) d.log)

  pub sound_opened : (G : S → Type 0) (s : S) (n : ℕ) → G s → Sound G (opened s n)
  sound_opened G s n g = record { made = refl; each = λ k. rw (take-nil {A = C} k) g }

  module _ (G : S → Type 0) (d : Desk S C) (H : Sound G d) where
    pub now_holds : G d.current
    now_holds = subst G (ap (changed R d.base) (take_all (length d.log) d.log (omega arith)) ∙ sym H.made) (H.each (length d.log))

    pub sound_more : (G' : S → Type 0) → ((x : S) → G x → G' x) → Sound G' d
    sound_more G' more = record { made = H.made; each = λ k. more (changed R d.base (take k d.log)) (H.each k) }

    pub sound_keep : (G' : S → Type 0) → ((x : S) → G x → G' x) → (c : C) (n : ℕ) → G' (R.apply d.current c) → Sound G' (keep_change R d c n)
    sound_keep G' more c n next =
        keep_ways (Sound G') d c n (λ _. push G d.base d.log d.current H G' more c next)
        (λ _. push G (changed R d.base (take 1 d.log)) (drop 1 d.log) d.current (settle G d.base d.log d.current H) G' more c next)

    pub sound_back : {o : Outcome S C} → TakenBack R d o → Sound G o.desk
    sound_back t = subst (Sound G) (sym (left_so t)) (pop G d.base d.log d.current H (length d.log - 1))

    -- a change kept and taken back leaves the records before it
    pub keep_back : (c : C) (n : ℕ) → less_newest (keep_change R d c n) ≡ d.current
    keep_back c n =
        keep_ways (λ e. less_newest e ≡ d.current) d c n
        (λ _. ap (changed R d.base) (newest_off d.log c) ∙ sym H.made)
        (λ _. ap (changed R (changed R d.base (take 1 d.log))) (newest_off (drop 1 d.log) c) ∙ sym (settle G d.base d.log d.current H).made)
