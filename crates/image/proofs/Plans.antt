-- A loop that lays a table: the records of a list, one more at a time. The law is one for every table.
use Prim.Native.Nat.{ℕ, zero, suc, ◌+◌, ◌-◌, ◌*◌, ◌≤◌, ◌<◌}
use mathlib.Core.Path.{◌≡◌, refl, sym, ap, ◌∙◌, subst, subst⁻¹}
use mathlib.Core.Bool.{Bool, true, false, cond}
use mathlib.Core.List.{List, [], ◌∷◌, ◌++◌, append_assoc, append-nil}
use native.Mathlib.Omega.{arith}
use native.Mathlib.Numerals.{add-one}
use native.Mathlib.Nat.{mul-suc, mul-le-mul_left}
use lib.ListN.{length, take, get_or}
use lib.Seq.{take_all, length-take-le, take-suc}
use Rattle.records.specs.House.{view, no_user, no_script, no_session, no_draft}
use Rattle.records.specs.Places.{has, room_numbers}
use Rattle.records.proofs.Views.{count_users, count_scripts, count_sessions, count_drafts}
use Rattle.records.specs.declared.User.{User}
use Rattle.records.specs.declared.Script.{Script}
use Rattle.records.specs.declared.Session.{Session}
use Rattle.records.specs.declared.Draft.{Draft}
use Rattle.image.specs.Forms.{Form, written, written_if, listed}
use Rattle.image.specs.Image.{user_form, room_form, script_form, session_form, draft_form}
use Rattle.image.specs.Puts.{Put, Laid}
use Rattle.image.proofs.Puts.{put_length, put_none, put_put}

-- what is laid: the bytes of each of a list, the most that there can be, and the widest that one can be
pub record Plan (A : Type 0) : Type 0 where
  pub bytes : ℕ → A → List ℕ
  pub list : List A
  pub none : A
  pub count : ℕ
  pub width : ℕ
  pub most : length list ≤ count
  pub wide : (i : ℕ) (a : A) → length (bytes i a) ≤ width

-- ---- the first i + 1 of a list
module _ {A : Type 0} (f : ℕ → A → List ℕ) where
  listed_append : (n : ℕ) (xs ys : List A) → listed f n (xs ++ ys) ≡ listed f n xs ++ listed f (n + length xs) ys
  listed_append n [] ys = ap (λ (k : ℕ). listed f k ys) (omega arith)
  listed_append n (x ∷ xs) ys =
      let e : suc n + length xs ≡ n + suc (length xs) = omega arith in
      ap (λ (m : List ℕ). f n x ++ m) (listed_append (suc n) xs ys ∙ ap (λ (k : ℕ). listed f (suc n) xs ++ listed f k ys) e)
      ∙ sym (append_assoc (f n x) (listed f (suc n) xs) (listed f (n + suc (length xs)) ys))

  listed_more : (l : List A) (i : ℕ) (d : A) → i < length l → listed f 0 (take (i + 1) l) ≡ listed f 0 (take i l) ++ f i (get_or l i d)
  listed_more l i d h =
      let n : 0 + length (take i l) ≡ i = omega (arith, length-take-le i l (omega arith)) in
      ap (listed f 0) (ap (λ (k : ℕ). take k l) (add-one i) ∙ take-suc l i d h)
      ∙ listed_append 0 (take i l) (get_or l i d ∷ [])
      ∙ ap (λ (m : List ℕ). listed f 0 (take i l) ++ m) (append-nil _ ∙ ap (λ (k : ℕ). f k (get_or l i d)) n)

below : (w i n : ℕ) → i < n → w * i + w ≤ w * n
below w i n h = rw (mul-suc w i) at (mul-le-mul_left w h)

-- ---- the loop: those of the first i are laid from `at` up to `end`, and there is room for all
pub record Upto {A : Type 0} (P : Plan A) (out₀ : List ℕ) (at i end : ℕ) (out : List ℕ) : Type 0 where
  pub room : at + P.width * P.count ≤ length out₀
  pub passed : i ≤ length P.list
  pub within : end ≤ at + P.width * i
  pub put : Put out₀ at (listed P.bytes 0 (take i P.list)) end out

pub upto_none : {A : Type 0} (P : Plan A) (out₀ : List ℕ) (at : ℕ) → at + P.width * P.count ≤ length out₀ → Upto P out₀ at 0 at out₀
upto_none P out₀ at r = record { room = r; passed = omega arith; within = omega arith; put = put_none out₀ at }

module _ {A : Type 0} {P : Plan A} {out₀ out : List ℕ} {at i end : ℕ} (p : Upto P out₀ at i end out) where
  whole : P.width * i ≤ P.width * P.count
  whole = mul-le-mul_left P.width (omega (arith, P.most, p.passed))

  pub upto_length : length out ≡ length out₀
  upto_length = put_length p.put (omega (arith, p.within, p.room, whole))

  -- nothing is left
  pub upto_all : length P.list ≤ i → Laid (P.width * P.count) out₀ at (listed P.bytes 0 P.list) end out
  upto_all h = record {
    within = omega (arith, p.within, whole);
    put = subst (λ (m : List A). Put out₀ at (listed P.bytes 0 m) end out) (take_all i P.list h) p.put;
  }

  module _ (h : i < length P.list) where
    -- there is room for the next one
    pub upto_room : end + P.width ≤ length out
    upto_room = omega (arith, p.within, p.room, upto_length, below P.width i P.count (omega (arith, P.most)))

    pub upto_more : {r : ℕ} {text out' : List ℕ} → text ≡ P.bytes i (get_or P.list i P.none) → Put out end text r out' → Upto P out₀ at (i + 1) r out'
    upto_more {r} {text} {out'} is q =
        let size : length text ≤ P.width = subst⁻¹ (λ (m : List ℕ). length m ≤ P.width) is (P.wide i (get_or P.list i P.none)) in
        let ends = q.ends in
        record {
          room = p.room;
          passed = omega arith;
          within = omega (arith, mul-suc P.width i, p.within, ap (λ (k : ℕ). P.width * k) (add-one i));
          put = subst⁻¹ (λ (m : List ℕ). Put out₀ at m r out')
              (listed_more P.bytes P.list i P.none h ∙ ap (λ (m : List ℕ). listed P.bytes 0 (take i P.list) ++ m) (sym is))
              (put_put p.put q (omega (arith, upto_room, upto_length)));
        }

-- i, said another way
pub upto_at : {A : Type 0} {P : Plan A} {out₀ out : List ℕ} {at i k end : ℕ} → i ≡ k → Upto P out₀ at i end out → Upto P out₀ at k end out
upto_at {A} {P} {out₀} {out} {at} {i} {k} {end} e p = subst (λ (n : ℕ). Upto P out₀ at n end out) e p

-- ---- an element that is there or not
module _ {A : Type 0} (form : Form A) (there : A → Bool) where
  pub text_if : {text : List ℕ} (i : ℕ) {x y : A} → x ≡ y → text ≡ written form i x → cond (there x) text [] ≡ written_if form there i y
  text_if i {x} e w = ap (λ (m : List ℕ). cond (there x) m []) w ∙ ap (written_if form there i) e

  pub wide_if : (w : ℕ) → ((i : ℕ) (a : A) → length (written form i a) ≡ w) → (i : ℕ) (a : A) → length (written_if form there i a) ≤ w
  wide_if w h i a = go (there a)
    where
      go : (t : Bool) → length (cond t (written form i a) []) ≤ w
      go true = omega (arith, h i a)
      go false = omega arith

-- ---- the tables
module _ (s : List ℕ) where
  abbrev pub user_plan : Plan User
  user_plan = record {
    bytes = written_if user_form (λ u. u.here);
    list = (view s).users;
    none = no_user;
    count = 64;
    width = 15;
    most = omega (arith, count_users s);
    wide = wide_if user_form (λ u. u.here) 15 (λ i u. refl);
  }

  abbrev pub room_plan : Plan ℕ
  room_plan = record {
    bytes = written_if room_form (has (view s).rooms);
    list = room_numbers;
    none = 0;
    count = 16;
    width = 2;
    most = omega arith;
    wide = wide_if room_form (has (view s).rooms) 2 (λ i r. refl);
  }

  abbrev pub script_plan : Plan Script
  script_plan = record {
    bytes = written_if script_form (λ t. t.here);
    list = (view s).scripts;
    none = no_script;
    count = 64;
    width = 6;
    most = omega (arith, count_scripts s);
    wide = wide_if script_form (λ t. t.here) 6 (λ i t. refl);
  }

  abbrev pub session_plan : Plan Session
  session_plan = record {
    bytes = written_if session_form (λ t. t.here);
    list = (view s).sessions;
    none = no_session;
    count = 64;
    width = 8;
    most = omega (arith, count_sessions s);
    wide = wide_if session_form (λ t. t.here) 8 (λ i t. refl);
  }

  abbrev pub draft_plan : Plan Draft
  draft_plan = record {
    bytes = written draft_form;
    list = (view s).drafts;
    none = no_draft;
    count = 256;
    width = 10;
    most = omega (arith, count_drafts s);
    wide = λ i d. omega arith;
  }

-- ---- room i + 1 stands in place i of the room numbers
abbrev up_from : ℕ → ℕ → List ℕ
up_from n zero = []
up_from n (suc k) = n ∷ up_from (suc n) k

up_at : (n k i : ℕ) → i < k → get_or (up_from n k) i 0 ≡ n + i
up_at n zero i h = absurd (omega arith)
up_at n (suc k) zero h = omega arith
up_at n (suc k) (suc i) h = up_at (suc n) k i (omega arith) ∙ omega arith

pub room_at : (room : ℕ) → 1 ≤ room → room < 17 → room ≡ get_or room_numbers (room - 1) 0
room_at room l m = sym (up_at 1 16 (room - 1) (omega arith) ∙ omega arith)
