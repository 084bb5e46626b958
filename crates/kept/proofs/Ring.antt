-- The ring of slots: what the kept changes are after a store, a push and a pop.
use Prim.Native.Nat.{ℕ, suc, ◌+◌, ◌-◌, ◌*◌, ◌%◌, ◌≤◌, ◌<◌, min}
use mathlib.Core.Path.{◌≡◌, refl, sym, ap, ◌∙◌}
use mathlib.Core.List.{List, [], ◌∷◌, ◌++◌, append_assoc}
use native.Mathlib.Omega.{arith}
use native.Mathlib.Decide.{dec_le}
use borrow.Rule.Slice.PartMut.{put_mid}
use lib.ListN.{length, get_or, set, take, drop, replicate, take-append-drop, length-set, length-append, length-take, length-drop, get_or-append}
use lib.Seq.{take-suc-set, drop-set-lt, drop-drop, get_or-set_same, get_or-set_other, ext_get_or, get_or-take, get_or-drop, get_or_at}
use Rattle.records.specs.Tables.{at, puts, put_at, tabulate}
use Rattle.records.proofs.Tables.{Laid, length_tabulate, get_d_tabulate, length_puts, same_put, put_here, put_other, same_set, zeros_at}
use Rattle.request.specs.Bytes.{◌#◌, quad, quad_bytes}
use Rattle.request.specs.Reading.{request_of}
use Rattle.request.specs.Writing.{framed}
use Rattle.request.specs.declared.Request.{Request}
use Rattle.request.proofs.RoundTrip.{quad_forth}
use Rattle.request.proofs.Framed.{framed_length, framed_makes}
use Rattle.effects.specs.declared.Change.{Change}
use Rattle.kept.specs.Log.{change_table, past, no_change}

-- ---- a change and its 13 bytes
spelt : (l : List ℕ) → tabulate (length l) (λ i. l # i) ≡ l
unfolding tabulate
spelt [] = refl
spelt (x ∷ xs) = ap (λ (r : List ℕ). x ∷ r) (spelt xs)

nine : (l : List ℕ) → length l ≡ 9 → l # 0 ∷ l # 1 ∷ l # 2 ∷ l # 3 ∷ l # 4 ∷ l # 5 ∷ l # 6 ∷ l # 7 ∷ l # 8 ∷ [] ≡ l
unfolding tabulate
nine l z = ap (λ (n : ℕ). tabulate n (λ i. l # i)) (sym z) ∙ spelt l

-- a change is what its own bytes say
said : (q : Request) (n : ℕ) → change_table.of (λ k. change_table.cells (record { request = q; number = n }) # k) ≡ record { request = q; number = n }
said q n =
    let read = ap (request_of (framed q # 0)) (nine (framed q) (framed_length q)) ∙ framed_makes q in
    (λ i. record { request = read i; number = quad_forth n i })

-- ---- values that are put one behind the other are a part that is written at once
puts_part : (s : List ℕ) (b k : ℕ) (vs : List ℕ) → b + k + length vs ≤ length s → put_mid (b + k) (length vs) s vs ≡ puts s b k vs
puts_part s b k [] h = take-append-drop (b + k) s
puts_part s b k (v ∷ vs) h =
    let r = set s (b + k) v in
    let z = length-set s (b + k) v in
    let next : b + suc k ≡ suc (b + k) = omega arith in
    let front : take (b + suc k) r ≡ take (b + k) s ++ (v ∷ []) = rw next (take-suc-set s (b + k) v (omega arith)) in
    let rest : drop (length vs) (drop (b + suc k) r) ≡ drop (suc (length vs)) (drop (b + k) s) =
    ap (drop (length vs)) (drop-set-lt (b + suc k) s (b + k) v (omega arith)) ∙ drop-drop (length vs) (b + suc k) s
    ∙ ap (λ (n : ℕ). drop n s) (omega arith) ∙ sym (drop-drop (suc (length vs)) (b + k) s) in
    sym (append_assoc (take (b + k) s) (v ∷ []) (vs ++ drop (suc (length vs)) (drop (b + k) s)))
    ∙ rw (← front, ← rest) (puts_part r b (suc k) vs (omega arith))

puts_more : (s : List ℕ) (b k : ℕ) (vs ws : List ℕ) → puts s b k (vs ++ ws) ≡ puts (puts s b k vs) b (k + length vs) ws
puts_more s b k [] ws = ap (λ (n : ℕ). puts s b n ws) (omega arith)
puts_more s b k (v ∷ vs) ws = puts_more (set s (b + k) v) b (suc k) vs ws ∙ ap (λ (n : ℕ). puts (puts s b k (v ∷ vs)) b n ws) (omega arith)

-- a slot's two parts, written one after the other
pub two_parts : (s : List ℕ) (c : Change) (slot : ℕ) (xs ys : List ℕ) → length s ≡ 418 → slot < 32 → xs ≡ framed c.request → ys ≡ quad_bytes c.number []
    → let at : ℕ = 2 + 13 * slot in put_mid (at + 9) (at + 13 - (at + 9)) (put_mid at (at + 9 - at) s xs) ys ≡ put_at change_table s slot c
two_parts s c slot xs ys z low is-xs is-ys =
    let at : ℕ = 2 + 13 * slot in
    let nine-long : length xs ≡ 9 = ap length is-xs ∙ framed_length c.request in
    let four-long : length ys ≡ 4 = ap length is-ys in
    let r = puts s at 0 xs in
    let first : put_mid at (at + 9 - at) s xs ≡ r =
    ap (λ (n : ℕ). put_mid at n s xs) (omega arith) ∙ ap (λ (n : ℕ). put_mid n (length xs) s xs) (omega arith) ∙ puts_part s at 0 xs (omega arith) in
    let y = length_puts s at 0 xs in
    let then : put_mid (at + 9) (at + 13 - (at + 9)) r ys ≡ puts r at 9 ys =
    ap (λ (n : ℕ). put_mid (at + 9) n r ys) (omega arith) ∙ puts_part r at 9 ys (omega arith) in
    let all : puts s at 0 (xs ++ ys) ≡ puts r at 9 ys = puts_more s at 0 xs ys ∙ ap (λ (n : ℕ). puts r at n ys) (omega arith) in
    let b = framed c.request in
    ap (λ (t : List ℕ). put_mid (at + 9) (at + 13 - (at + 9)) t ys) first ∙ then ∙ sym all
    ∙ ap (λ (t : List ℕ). puts s at 0 (t ++ ys)) (is-xs ∙ sym (nine b (framed_length c.request))) ∙ ap (λ (t : List ℕ). puts s at 0 (b # 0 ∷ b # 1 ∷ b # 2 ∷ b # 3 ∷ b # 4 ∷ b # 5 ∷ b # 6 ∷ b # 7 ∷ b # 8 ∷ t)) is-ys

pub change_laid : Laid change_table
change_laid = record {
  near = λ f g h. λ i. record {
    request = request_of (h 0 (omega arith) i) (h 0 (omega arith) i ∷ h 1 (omega arith) i ∷ h 2 (omega arith) i ∷ h 3 (omega arith) i ∷ h 4 (omega arith) i ∷ h 5 (omega arith) i ∷ h 6 (omega arith) i ∷ h 7 (omega arith) i ∷ h 8 (omega arith) i ∷ []);
    number = quad (h 9 (omega arith) i) (h 10 (omega arith) i) (h 11 (omega arith) i) (h 12 (omega arith) i);
  };
  wide = λ c. refl;
}

-- ---- the kept changes by their places
pub past_length : (s : List ℕ) → length (past s) ≡ min (s # 1) 32
unfolding past
past_length s = length_tabulate (min (s # 1) 32) (λ i. at change_table s ((s # 0 + i) % 32))

-- zeros show no change
pub past_zeros : (n : ℕ) → past (replicate n 0) ≡ []
unfolding past tabulate
past_zeros n = ap (λ (k : ℕ). tabulate (min k 32) (λ i. at change_table (replicate n 0) ((replicate n 0 # 0 + i) % 32))) (zeros_at n 1)

pub past_at : (s : List ℕ) (i : ℕ) (d : Change) → i < length (past s) → get_or (past s) i d ≡ at change_table s ((s # 0 + i) % 32)
unfolding past
past_at s i d h =
    let z = past_length s in
    get_d_tabulate (min (s # 1) 32) (λ i. at change_table s ((s # 0 + i) % 32)) i d (omega arith)

-- from the slot behind the newest, 31 steps meet every other slot
apart : (slot i : ℕ) → slot < 32 → i < 31 → ((slot + 1) % 32 + i) % 32 ≡ slot → ⊥
apart slot i h k e = omega arith

-- a byte before the slots changes no slot
at_same : (s : List ℕ) (k v j : ℕ) → k < 2 → at change_table (set s k v) j ≡ at change_table s j
at_same s k v j h = change_laid.near _ _ (λ m l. same_set s k v (2 + 13 * j + m) (λ x y. omega arith))

module _ (s : List ℕ) (z : length s ≡ 418) (c : Change) (slot : ℕ) (low : slot < 32) where
  abbrev stored : List ℕ
  stored = put_at change_table s slot c

  stored_length : length stored ≡ 418
  stored_length = length_puts s (2 + 13 * slot) 0 (change_table.cells c) ∙ z

  stored_byte : (k : ℕ) → k < 2 → stored # k ≡ s # k
  stored_byte k h = same_put change_table change_laid s slot c low k (λ x y. omega arith)

  -- there was room: the change stands behind the others
  pub push_room : (n : ℕ) → n ≡ length (past s) → n < 32 → slot ≡ (s # 0 + n) % 32 → past (set stored 1 (n + 1)) ≡ past s ++ (c ∷ [])
  push_room n e h q =
      let r = set stored 1 (n + 1) in
      let l = past_length s in
      let byte1 : r # 1 ≡ n + 1 = get_or-set_same stored 1 (n + 1) 0 (omega (arith, stored_length)) in
      let byte0 : r # 0 ≡ s # 0 = get_or-set_other stored 1 0 (n + 1) 0 (λ x. omega arith) ∙ stored_byte 0 (omega arith) in
      let size : length (past r) ≡ n + 1 = past_length r ∙ omega arith in
      let both : length (past s ++ (c ∷ [])) ≡ n + 1 = length-append (past s) (c ∷ []) ∙ omega arith in
      ext_get_or c (past r) (past s ++ (c ∷ [])) (size ∙ sym both) (λ i k.
      past_at r i c k ∙ ap (λ (b : ℕ). at change_table r ((b + i) % 32)) byte0 ∙ at_same stored 1 (n + 1) ((s # 0 + i) % 32) (omega arith)
      ∙ place i (omega arith) (dec_le n i))
    where
      place : (i : ℕ) → i < n + 1 → Dec (n ≤ i) → at change_table stored ((s # 0 + i) % 32) ≡ get_or (past s ++ (c ∷ [])) i c
      place i k (yes y) =
          let j : i ≡ n = omega arith in
          let here : (s # 0 + i) % 32 ≡ slot = omega arith in
          rw (here, put_here change_table change_laid s slot c low (said c.request c.number) (omega arith), get_or_at (past s) c [] c i (omega arith))
      place i k (no y) =
          put_other change_table change_laid s slot c low ((s # 0 + i) % 32) (λ x. omega arith)
          ∙ sym (past_at s i c (omega arith)) ∙ sym (get_or-append (past s) (c ∷ []) c i (omega arith))

  -- the log was full: the change stands in the slot of the oldest, and the next one is the oldest now
  pub push_full : length (past s) ≡ 32 → slot ≡ (s # 0 + 32) % 32 → past (set stored 0 ((slot + 1) % 32)) ≡ drop 1 (past s) ++ (c ∷ [])
  push_full e q =
      let r = set stored 0 ((slot + 1) % 32) in
      let l = past_length s in
      let byte0 : r # 0 ≡ (slot + 1) % 32 = get_or-set_same stored 0 ((slot + 1) % 32) 0 (omega (arith, stored_length)) in
      let byte1 : r # 1 ≡ s # 1 = get_or-set_other stored 0 1 ((slot + 1) % 32) 0 (λ x. omega arith) ∙ stored_byte 1 (omega arith) in
      let size : length (past r) ≡ 32 = past_length r ∙ omega arith in
      let both : length (drop 1 (past s) ++ (c ∷ [])) ≡ 32 = length-append (drop 1 (past s)) (c ∷ []) ∙ omega (arith, length-drop 1 (past s)) in
      ext_get_or c (past r) (drop 1 (past s) ++ (c ∷ [])) (size ∙ sym both) (λ i k.
      past_at r i c k ∙ ap (λ (b : ℕ). at change_table r ((b + i) % 32)) byte0 ∙ at_same stored 0 ((slot + 1) % 32) (((slot + 1) % 32 + i) % 32) (omega arith)
      ∙ place i (omega arith) (dec_le 31 i))
    where
      place : (i : ℕ) → i < 32 → Dec (31 ≤ i) → at change_table stored (((slot + 1) % 32 + i) % 32) ≡ get_or (drop 1 (past s) ++ (c ∷ [])) i c
      place i k (yes y) =
          let here : ((slot + 1) % 32 + i) % 32 ≡ slot = omega arith in
          let d : length (drop 1 (past s)) ≡ i = length-drop 1 (past s) ∙ omega arith in
          rw (here, put_here change_table change_laid s slot c low (said c.request c.number) (omega arith), get_or_at (drop 1 (past s)) c [] c i d)
      place i k (no y) =
          let step : ((slot + 1) % 32 + i) % 32 ≡ (s # 0 + (1 + i)) % 32 = omega arith in
          let d : i < length (drop 1 (past s)) = omega (arith, length-drop 1 (past s)) in
          put_other change_table change_laid s slot c low (((slot + 1) % 32 + i) % 32) (apart slot i low (omega arith))
          ∙ ap (at change_table s) step ∙ sym (past_at s (1 + i) c (omega arith)) ∙ sym (get_or-drop 1 (past s) i c)
          ∙ sym (get_or-append (drop 1 (past s)) (c ∷ []) c i d)

-- one change fewer
pub pop_one : (s : List ℕ) → length s ≡ 418 → (n : ℕ) → n ≡ length (past s) → 0 < n → past (set s 1 (n - 1)) ≡ take (n - 1) (past s)
pop_one s z n e h =
    let r = set s 1 (n - 1) in
    let l = past_length s in
    let byte1 : r # 1 ≡ n - 1 = get_or-set_same s 1 (n - 1) 0 (omega arith) in
    let byte0 : r # 0 ≡ s # 0 = get_or-set_other s 1 0 (n - 1) 0 (λ x. omega arith) in
    let size : length (past r) ≡ n - 1 = past_length r ∙ omega arith in
    let both : length (take (n - 1) (past s)) ≡ n - 1 = length-take (n - 1) (past s) ∙ omega arith in
    ext_get_or no_change (past r) (take (n - 1) (past s)) (size ∙ sym both) (λ i k.
    past_at r i no_change k ∙ ap (λ (b : ℕ). at change_table r ((b + i) % 32)) byte0 ∙ at_same s 1 (n - 1) ((s # 0 + i) % 32) (omega arith)
    ∙ sym (past_at s i no_change (omega arith)) ∙ sym (get_or-take (n - 1) (past s) i no_change (omega arith)))
