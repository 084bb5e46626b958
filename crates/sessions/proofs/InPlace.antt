-- A loop that changes one part of a house element by element and leaves the others: what it has done after i turns.
use Prim.Native.Nat.{ℕ, suc, ◌+◌, ◌≤◌, ◌<◌}
use mathlib.Core.Path.{◌≡◌, refl, sym, ap, ◌∙◌}
use mathlib.Core.List.{List, [], ◌∷◌, ◌++◌, map, append_assoc, append-nil}
use native.Mathlib.Numerals.{add-one}
use native.Mathlib.Nat.{add-zero, zero-add, add-suc, suc-add}
use native.Mathlib.Omega.{arith}
use lib.ListN.{length, take, drop, get_or, set, length-append, take-append-drop, drop_of_length-le}
use lib.Seq.{take-suc, drop-cons, set_at, get_or_at, set-get_or, length-take-le, take_all}
use Rattle.records.specs.Lists.{map_from}
use Rattle.records.specs.House.{House, with_users, with_scripts, with_sessions, with_drafts}
use Rattle.records.specs.declared.User.{User}
use Rattle.records.specs.declared.Script.{Script}
use Rattle.records.specs.declared.Session.{Session}
use Rattle.records.specs.declared.Draft.{Draft}

-- ---- of a list: the first i elements are done
module _ {A : Type 0} (f : ℕ → A → A) where
  length_map_from : (n : ℕ) (l : List A) → length (map_from n f l) ≡ length l
  length_map_from n [] = refl
  length_map_from n (x ∷ xs) = ap suc (length_map_from (suc n) xs)

  map_from_append : (n : ℕ) (xs ys : List A) → map_from n f (xs ++ ys) ≡ map_from n f xs ++ map_from (n + length xs) f ys
  map_from_append n [] ys = rw add-zero
  map_from_append n (x ∷ xs) ys = rw (map_from_append (suc n) xs ys, add-suc, suc-add)

  abbrev pub done : ℕ → List A → List A
  done i l = map_from 0 f (take i l) ++ drop i l

  module _ (i : ℕ) (l : List A) (d : A) (h : i < length l) where
    front : length (map_from 0 f (take i l)) ≡ i
    front = length_map_from 0 (take i l) ∙ length-take-le i l (omega arith)

    opened : done i l ≡ map_from 0 f (take i l) ++ (get_or l i d ∷ drop (suc i) l)
    opened = ap (λ (r : List A). map_from 0 f (take i l) ++ r) (drop-cons l i d h)

    -- the next element is as it was
    pub done_next : get_or (done i l) i d ≡ get_or l i d
    done_next = rw opened (get_or_at (map_from 0 f (take i l)) (get_or l i d) (drop (suc i) l) d i front)

    pub done_more : set (done i l) i (f i (get_or l i d)) ≡ done (i + 1) l
    done_more =
        rw (
          opened,
          set_at (map_from 0 f (take i l)) (get_or l i d) (drop (suc i) l) (f i (get_or l i d)) i front,
          add-one,
          take-suc l i d h,
          map_from_append 0 (take i l) (get_or l i d ∷ []),
          append_assoc,
          zero-add,
          length-take-le i l (omega arith),
        )

  pub done_length : (i : ℕ) (l : List A) → length (done i l) ≡ length l
  done_length i l =
      length-append (map_from 0 f (take i l)) (drop i l) ∙ ap (λ (n : ℕ). n + length (drop i l)) (length_map_from 0 (take i l))
      ∙ sym (length-append (take i l) (drop i l)) ∙ ap length (take-append-drop i l)

  pub done_all : (i : ℕ) (l : List A) → length l ≤ i → done i l ≡ map_from 0 f l
  done_all i l h = rw (take_all i l h, drop_of_length-le l h, append-nil)

pub map_from_map : {A : Type 0} (g : A → A) (n : ℕ) (l : List A) → map_from n (λ _. g) l ≡ map g l
map_from_map g n [] = refl
map_from_map g n (x ∷ xs) = rw (map_from_map g (suc n) xs)

-- ---- of one part of a house
pub record Part (A : Type 0) : Type 0 where
  pub get : House → List A
  pub put : House → List A → House
  pub got : (h : House) (a : List A) → get (put h a) ≡ a
  pub twice : (h : House) (a b : List A) → put (put h a) b ≡ put h b
  pub same : (h : House) → put h (get h) ≡ h

abbrev pub users : Part User
users = record { get = λ h. h.users; put = with_users; got = λ h a. refl; twice = λ h a b. refl; same = λ h. refl }

abbrev pub scripts : Part Script
scripts = record { get = λ h. h.scripts; put = with_scripts; got = λ h a. refl; twice = λ h a b. refl; same = λ h. refl }

abbrev pub sessions : Part Session
sessions = record { get = λ h. h.sessions; put = with_sessions; got = λ h a. refl; twice = λ h a b. refl; same = λ h. refl }

abbrev pub drafts : Part Draft
drafts = record { get = λ h. h.drafts; put = with_drafts; got = λ h a. refl; twice = λ h a b. refl; same = λ h. refl }

module _ {A : Type 0} (q : Part A) (h₀ : House) where
  module _ (f : ℕ → A → A) where
    -- h₀ with the first i elements of the part done
    pub record Done (i : ℕ) (h : House) : Type 0 where
      pub is : h ≡ q.put h₀ (done f i (q.get h₀))

    pub start : Done 0 h₀
    start = record { is = sym (q.same h₀) }

    module _ (i : ℕ) (h : House) (d : A) (m : Done i h) (l : i < length (q.get h₀)) where
      now : q.get h ≡ done f i (q.get h₀)
      now = ap q.get m.is ∙ q.got h₀ (done f i (q.get h₀))

      next : get_or (q.get h) i d ≡ get_or (q.get h₀) i d
      next = ap (λ (a : List A). get_or a i d) now ∙ done_next f i (q.get h₀) d l

      -- the element is stored as f has it
      pub store : (k : House) (v : A) → v ≡ f i (get_or (q.get h) i d) → k ≡ q.put h (set (q.get h) i v) → Done (i + 1) k
      store k v e s = record {
        is =
            s ∙ rw (now, m.is, q.twice h₀ (done f i (q.get h₀)) (set (done f i (q.get h₀)) i v), e ∙ ap (f i) next, done_more f i (q.get h₀) d l);
      }

      -- f leaves the element, and nothing is stored
      pub skip : f i (get_or (q.get h) i d) ≡ get_or (q.get h) i d → Done (i + 1) h
      skip e = store h (get_or (q.get h) i d) (sym e) (sym (q.same h) ∙ ap (q.put h) (sym (set-get_or (q.get h) i d)))

    pub finish : (i : ℕ) (h : House) → Done i h → length (q.get h₀) ≤ i → h ≡ q.put h₀ (map_from 0 f (q.get h₀))
    finish i h m l = m.is ∙ ap (q.put h₀) (done_all f i (q.get h₀) l)

  pub finish_map : (g : A → A) (i : ℕ) (h : House) → Done (λ _. g) i h → length (q.get h₀) ≤ i → h ≡ q.put h₀ (map g (q.get h₀))
  finish_map g i h m l = finish (λ _. g) i h m l ∙ ap (q.put h₀) (map_from_map g 0 (q.get h₀))
