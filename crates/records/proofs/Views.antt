-- The house that the cells show once one of them, or one element, is stored.
use Prim.Native.Nat.{ℕ, suc, ◌+◌, ◌≤◌, ◌<◌, min}
use mathlib.Core.Path.{◌≡◌, refl, sym, ap, ◌∙◌}
use mathlib.Core.Logic.{inl, inr}
use mathlib.Core.Bool.{Bool, true, false}
use mathlib.Core.List.{List, [], ◌∷◌, ◌++◌}
use native.Mathlib.Omega.{arith}
use native.Mathlib.Numerals.{add-one}
use native.Mathlib.Nat.{mod-eq_of_lt}
use native.Mathlib.Decide.{dec_le}
use lib.ListN.{length, get_or, set, take, replicate, length-take, length-append}
use lib.Seq.{get_or-set_same, take-set-lt, take-set-le, set_out, take-take, take_all, take_at, take-suc-set}
use Rattle.records.specs.Tables.{at, table, put_at}
use Rattle.records.specs.House.{House, as_number, is_yes, view, user_table, script_table, session_table, draft_table, no_user, no_script, no_session, empty_house, with_drafts, put_user, put_rooms, put_script, put_session, put_draft, cut_drafts, add_draft}
use Rattle.records.specs.declared.User.{User}
use Rattle.records.specs.declared.Script.{Script}
use Rattle.records.specs.declared.Session.{Session}
use Rattle.records.specs.declared.Draft.{Draft}
use Rattle.records.proofs.Tables.{Laid, Again, start, zeros_at, same_set, same_put, length_puts, length_table, first_length, first_at, table_same, table_put, table_zeros}

-- ---- the four tables are laid out well
pub user_laid : Laid user_table
user_laid = record {
  near = λ f g h. cc (h 0 (omega arith), h 1 (omega arith), h 2 (omega arith), h 3 (omega arith), h 4 (omega arith), h 5 (omega arith), h 6 (omega arith));
  wide = λ a. refl;
}

pub script_laid : Laid script_table
script_laid = record {
  near = λ f g h. cc (h 0 (omega arith), h 1 (omega arith), h 2 (omega arith), h 3 (omega arith));
  wide = λ a. refl;
}

pub session_laid : Laid session_table
session_laid = record {
  near = λ f g h. cc (h 0 (omega arith), h 1 (omega arith), h 2 (omega arith), h 3 (omega arith), h 4 (omega arith), h 5 (omega arith));
  wide = λ a. refl;
}

pub draft_laid : Laid draft_table
draft_laid = record {
  near = λ f g h. cc (h 0 (omega arith), h 1 (omega arith), h 2 (omega arith));
  wide = λ a. refl;
}

-- ---- an element's own cells say it again, where its fields have their bytes
yes_again : (b : Bool) → is_yes (as_number b) ≡ b
yes_again false = refl
yes_again true = refl

pub user_again : (u : User) → u.sort < 256 → u.level < 256 → u.categories < 65536 → Again user_table u
user_again u a b c = rw (yes_again u.here, yes_again u.admin, mod-eq_of_lt a, mod-eq_of_lt b, mod-eq_of_lt c)

pub script_again : (s : Script) → s.level < 256 → s.categories < 65536 → s.origin < 256 → Again script_table s
script_again s a b c = rw (yes_again s.here, mod-eq_of_lt a, mod-eq_of_lt b, mod-eq_of_lt c)

pub session_again : (s : Session) → s.owner < 256 → s.level < 256 → s.categories < 65536 → s.place < 256 → Again session_table s
session_again s a b c d = rw (yes_again s.here, yes_again s.writes, mod-eq_of_lt a, mod-eq_of_lt b, mod-eq_of_lt c, mod-eq_of_lt d)

pub draft_again : (d : Draft) → d.script < 256 → Again draft_table d
draft_again d a = rw (mod-eq_of_lt a)

-- ---- a house by its five parts
same_house : {h k : House} → h.users ≡ k.users → h.rooms ≡ k.rooms → h.scripts ≡ k.scripts → h.sessions ≡ k.sessions → h.drafts ≡ k.drafts → h ≡ k
same_house a b c d e = λ i. record { users = a i; rooms = b i; scripts = c i; sessions = d i; drafts = e i }

same_first : {A : Type 0} {n k : ℕ} {a b : List A} → n ≡ k → a ≡ b → take n a ≡ take k b
same_first e d = λ j. take (e j) (d j)

-- one of the first n anew, or one behind them
set_first : {A : Type 0} (n : ℕ) (l : List A) (i : ℕ) (a : A) → take n (set l i a) ≡ set (take n l) i a
set_first n l i a = go (dec_le (suc i) n)
  where
    go : Dec (suc i ≤ n) → take n (set l i a) ≡ set (take n l) i a
    go (yes h) = take-set-lt n l i a h
    go (no h) =
        let z : length (take n l) ≤ i = rw (length-take n l) (omega arith) in
        take-set-le n l i a (omega arith) ∙ sym (set_out (take n l) i a z)

-- ---- after a store
module _ (s : List ℕ) (z : length s ≡ 1858) where
  pub view_user : (i : ℕ) (u : User) → Again user_table u → i < 64 → view (put_at user_table s i u) ≡ put_user (view s) i u
  unfolding view
  view_user i u again h =
      let m = same_put user_table user_laid s i u h in
      same_house
      (table_put user_table user_laid s i u h again (omega arith))
      (m 0 (λ l k. omega arith))
      (table_same script_table script_laid s _ m (inr (omega arith)))
      (table_same session_table session_laid s _ m (inr (omega arith)))
      (same_first (m 1 (λ l k. omega arith)) (table_same draft_table draft_laid s _ m (inr (omega arith))))

  pub view_script : (i : ℕ) (a : Script) → Again script_table a → i < 64 → view (put_at script_table s i a) ≡ put_script (view s) i a
  unfolding view
  view_script i a again h =
      let m = same_put script_table script_laid s i a h in
      same_house
      (table_same user_table user_laid s _ m (inl (omega arith)))
      (m 0 (λ l k. omega arith))
      (table_put script_table script_laid s i a h again (omega arith))
      (table_same session_table session_laid s _ m (inr (omega arith)))
      (same_first (m 1 (λ l k. omega arith)) (table_same draft_table draft_laid s _ m (inr (omega arith))))

  pub view_session : (i : ℕ) (a : Session) → Again session_table a → i < 64 → view (put_at session_table s i a) ≡ put_session (view s) i a
  unfolding view
  view_session i a again h =
      let m = same_put session_table session_laid s i a h in
      same_house
      (table_same user_table user_laid s _ m (inl (omega arith)))
      (m 0 (λ l k. omega arith))
      (table_same script_table script_laid s _ m (inl (omega arith)))
      (table_put session_table session_laid s i a h again (omega arith))
      (same_first (m 1 (λ l k. omega arith)) (table_same draft_table draft_laid s _ m (inr (omega arith))))

  -- a draft's cells, also where no live draft stands in them
  view_row : (i : ℕ) (a : Draft) → Again draft_table a → i < 256 → view (put_at draft_table s i a) ≡ with_drafts (view s) (take (get_or s 1 0) (set (table draft_table s) i a))
  unfolding view
  view_row i a again h =
      let m = same_put draft_table draft_laid s i a h in
      same_house
      (table_same user_table user_laid s _ m (inl (omega arith)))
      (m 0 (λ l k. omega arith))
      (table_same script_table script_laid s _ m (inl (omega arith)))
      (table_same session_table session_laid s _ m (inl (omega arith)))
      (same_first (m 1 (λ l k. omega arith)) (table_put draft_table draft_laid s i a h again (omega arith)))

  pub view_draft : (i : ℕ) (a : Draft) → Again draft_table a → i < 256 → view (put_at draft_table s i a) ≡ put_draft (view s) i a
  unfolding view
  view_draft i a again h = view_row i a again h ∙ rw (set_first (get_or s 1 0) (table draft_table s) i a)

  pub view_rooms : (n : ℕ) → view (set s 0 n) ≡ put_rooms (view s) n
  unfolding view
  view_rooms n =
      let m = same_set s 0 n in
      same_house
      (table_same user_table user_laid s _ m (inr (omega arith)))
      (get_or-set_same s 0 n 0 (omega arith))
      (table_same script_table script_laid s _ m (inr (omega arith)))
      (table_same session_table session_laid s _ m (inr (omega arith)))
      (same_first (m 1 (λ l k. omega arith)) (table_same draft_table draft_laid s _ m (inr (omega arith))))

  view_live : (n : ℕ) → view (set s 1 n) ≡ with_drafts (view s) (take n (table draft_table s))
  unfolding view
  view_live n =
      let m = same_set s 1 n in
      same_house
      (table_same user_table user_laid s _ m (inr (omega arith)))
      (m 0 (λ l k. omega arith))
      (table_same script_table script_laid s _ m (inr (omega arith)))
      (table_same session_table session_laid s _ m (inr (omega arith)))
      (same_first (get_or-set_same s 1 n 0 (omega arith)) (table_same draft_table draft_laid s _ m (inr (omega arith))))

-- ---- how many there are
module _ (s : List ℕ) where
  pub count_users : length (view s).users ≡ 64
  unfolding view
  count_users = length_table user_table user_laid s

  pub count_scripts : length (view s).scripts ≡ 64
  unfolding view
  count_scripts = length_table script_table script_laid s

  pub count_sessions : length (view s).sessions ≡ 64
  unfolding view
  count_sessions = length_table session_table session_laid s

  pub count_drafts : length (view s).drafts ≡ min (get_or s 1 0) 256
  unfolding view
  count_drafts = first_length draft_table draft_laid s (get_or s 1 0)

  pub live_at : (i : ℕ) (d : Draft) → i < length (view s).drafts → get_or (view s).drafts i d ≡ at draft_table s i
  unfolding view
  live_at i d h = first_at draft_table draft_laid s (get_or s 1 0) i d h

module _ (s : List ℕ) (z : length s ≡ 1858) (n : ℕ) where
  pub view_cut : n < length (view s).drafts → view (set s 1 n) ≡ cut_drafts (view s) n
  unfolding view
  view_cut h =
      let k = count_drafts s in
      view_live s z n ∙ rw (take-take n (get_or s 1 0) (table draft_table s) (omega arith))

  pub view_add : (a : Draft) → Again draft_table a → n ≡ length (view s).drafts → n < 256 → view (set (put_at draft_table s n a) 1 (n + 1)) ≡ add_draft (view s) a
  unfolding view
  view_add a again e h =
      let k = count_drafts s in
      let r = put_at draft_table s n a in
      let l = length_table draft_table draft_laid s in
      let q : n ≡ get_or s 1 0 = omega arith in
      let f : length (take (get_or s 1 0) (table draft_table s) ++ (a ∷ [])) ≤ 256 = rw (length-append (take (get_or s 1 0) (table draft_table s)) (a ∷ [])) (omega arith) in
      view_live r (length_puts s (start draft_table n) 0 (draft_table.cells a) ∙ z) (n + 1)
      ∙ ap (λ (x : House). with_drafts x (take (n + 1) (table draft_table r))) (view_row s z n a again h)
      ∙ ap (with_drafts (view s)) (rw (table_put draft_table draft_laid s n a h again (omega arith), take_all 256 (take (get_or s 1 0) (table draft_table s) ++ (a ∷ [])) f, ← q, add-one n, take-suc-set (table draft_table s) n a (omega arith)))

-- where 256 live, one more is none more
pub add_full : (h : House) (d : Draft) → length h.drafts ≡ 256 → add_draft h d ≡ h
add_full h d e = ap (with_drafts h) (take_at h.drafts (d ∷ []) 256 e)

-- ---- no records
pub view_zeros : (n : ℕ) → view (replicate n 0) ≡ empty_house
unfolding view empty_house
view_zeros n =
    same_house
    (table_zeros user_table user_laid n no_user refl)
    (zeros_at n 0)
    (table_zeros script_table script_laid n no_script refl)
    (table_zeros session_table session_laid n no_session refl)
    (same_first (zeros_at n 1) refl)
