-- Reading is the inverse of writing out, both ways.
use Rattle.std.specs.Prelude.{Ok, Err}
use mathlib.Core.Path.{◌≡◌, refl, sym, ap, ◌∙◌}
use mathlib.Core.Bool.{Bool, true, false, cond}
use mathlib.Core.List.{List, [], ◌∷◌, ◌++◌, append_assoc}
use Prim.Native.Nat.{ℕ, ◌+◌, ◌/◌, ◌%◌, ◌≤◌, ◌<◌}
use native.Mathlib.Omega.{arith}
use native.Mathlib.Numerals.{add-one}
use lib.ListN.{length, drop}
use lib.Dec.{eqb, leb}
use lib.Seq.{drop-cons}
use borrow.Author.Tests.{leb-false}
use Rattle.request.specs.Bytes.{◌#◌, pair, pair_at, quad, quad_at, pair_bytes, quad_bytes}
use Rattle.request.specs.Kinds.{Body, one, two, four, make, Row, Sought, at, none, rows, find, length_at, body_length}
use Rattle.request.specs.Reading.{fields_from, request_of, frame_at, frame_of}
use Rattle.request.specs.Writing.{Field, Spelling, spelt, written}
use Rattle.request.specs.declared.Request.{Request}
use Rattle.request.proofs.Absurd.{differ}
use Rattle.request.proofs.Rows.{Found, found}
use Rattle.request.proofs.Spelling.{Spells, Right, all_right, onward, spelt_more}
use Rattle.request.proofs.Ways.{by_row, whole_at}
use Rattle.request.specs.declared.FrameError.TheVariants.{Cut}

-- the bytes of a number that was read are those it was read from
pair_back : (x y : ℕ) → y < 256 → (more : List ℕ) → pair_bytes (pair x y) more ≡ x ∷ y ∷ more
pair_back x y hy more =
    let high : pair x y / 256 ≡ x = omega arith in
    let low : pair x y % 256 ≡ y = omega arith in
    rw (high, low)

quad_back : (x y z w : ℕ) → y < 256 → z < 256 → w < 256 → (more : List ℕ) → quad_bytes (quad x y z w) more ≡ x ∷ y ∷ z ∷ w ∷ more
quad_back x y z w hy hz hw more =
    let a : quad x y z w / 16777216 ≡ x = omega arith in
    let b : quad x y z w / 65536 % 256 ≡ y = omega arith in
    let c : quad x y z w / 256 % 256 ≡ z = omega arith in
    let d : quad x y z w % 256 ≡ w = omega arith in
    rw (a, b, c, d)

-- ---- what is read as a request is that request written out, and the rest
module _ (b : List ℕ) (bytes : (i : ℕ) → b # i < 256) where
  behind : (fs : List Field) (f : Field) (i : ℕ) → spelt (fs ++ (f ∷ [])) ++ drop i b ≡ spelt fs ++ (spelt (f ∷ []) ++ drop i b)
  behind fs f i = ap (λ (t : List ℕ). t ++ drop i b) (spelt_more fs f) ∙ append_assoc (spelt fs) (spelt (f ∷ [])) (drop i b)

  next : (i : ℕ) → i < length b → b # i ∷ drop (i + 1) b ≡ drop i b
  next i h = rw (add-one i) (sym (drop-cons b i 0 h))

  next2 : (i : ℕ) → i + 1 < length b → b # i ∷ b # (i + 1) ∷ drop (i + 2) b ≡ drop i b
  next2 i h =
      let e : i + 2 ≡ i + 1 + 1 = omega arith in
      let l : i < length b = omega arith in
      rw (e, next (i + 1) h, next i l)

  next4 : (i : ℕ) → i + 3 < length b → b # i ∷ b # (i + 1) ∷ b # (i + 2) ∷ b # (i + 3) ∷ drop (i + 4) b ≡ drop i b
  next4 i h =
      let e : i + 4 ≡ i + 2 + 2 = omega arith in
      let f : i + 3 ≡ i + 2 + 1 = omega arith in
      let k : i + 2 + 1 < length b = omega arith in
      let l : i + 1 < length b = omega arith in
      rw (e, f, next2 (i + 2) k, next2 i l)

  module _ (kind end : ℕ) (inside : end ≤ length b) where
    fields_back : (p : Body) (fs : List Field) (i : ℕ) → Spells kind fs i end p → written (fields_from b i p) ++ drop end b ≡ kind ∷ (spelt fs ++ drop i b)
    fields_back (one f) fs i s =
        let x = b # i in
        let on = onward kind end (f x) (fs ++ (Field.one x ∷ [])) (i + 1) (s x) in
        fields_back (f x) (fs ++ (Field.one x ∷ [])) (i + 1) (s x) ∙ ap (λ (t : List ℕ). kind ∷ t) (behind fs (Field.one x) (i + 1) ∙ ap (λ (t : List ℕ). spelt fs ++ t) (next i (omega arith)))
    fields_back (two f) fs i s =
        let x = pair_at b i in
        let on = onward kind end (f x) (fs ++ (Field.two x ∷ [])) (i + 2) (s x) in
        fields_back (f x) (fs ++ (Field.two x ∷ [])) (i + 2) (s x) ∙ ap (λ (t : List ℕ). kind ∷ t) (behind fs (Field.two x) (i + 2)
        ∙ ap (λ (t : List ℕ). spelt fs ++ t) (pair_back (b # i) (b # (i + 1)) (bytes (i + 1)) (drop (i + 2) b) ∙ next2 i (omega arith)))
    fields_back (four f) fs i s =
        let x = quad_at b i in
        let on = onward kind end (f x) (fs ++ (Field.four x ∷ [])) (i + 4) (s x) in
        fields_back (f x) (fs ++ (Field.four x ∷ [])) (i + 4) (s x) ∙ ap (λ (t : List ℕ). kind ∷ t) (behind fs (Field.four x) (i + 4)
        ∙ ap (λ (t : List ℕ). spelt fs ++ t)
        (quad_back (b # i) (b # (i + 1)) (b # (i + 2)) (b # (i + 3)) (bytes (i + 1)) (bytes (i + 2)) (bytes (i + 3)) (drop (i + 4) b) ∙ next4 i (omega arith)))
    fields_back (make q) fs i s =
        ap (λ (t : Spelling). t.kind ∷ (spelt t.fields ++ drop end b)) s.0 ∙ ap (λ (n : ℕ). kind ∷ (spelt fs ++ drop n b)) (sym s.1)

  whole_back : (r : Row) (q : Request) → Found Right (b # 0) r → r.length < length b → fields_from b 1 r.body ≡ q
      → b ≡ written q ++ drop (1 + r.length) b
  whole_back r q is h e =
      let l : 0 < length b = omega arith in
      let all : written (fields_from b 1 r.body) ++ drop (1 + r.length) b ≡ r.kind ∷ drop 1 b =
      fields_back r.kind (1 + r.length) (omega arith) r.body [] 1 is.holds in
      sym (next 0 l) ∙ ap (λ (k : ℕ). k ∷ drop 1 b) is.kind ∙ sym all ∙ ap (λ (p : Request). written p ++ drop (1 + r.length) b) e

  pub read_is_written : (q : Request) → frame_of b ≡ Ok q → b ≡ written q ++ drop (1 + body_length (b # 0)) b
  unfolding frame_of body_length
  read_is_written q e = first (eqb (length b) 0) e
    where
      whole : (r : Row) → find rows (b # 0) ≡ at r → (t : Bool) → leb (length b) r.length ≡ t
          → cond t (Err Cut) (Ok (fields_from b 1 r.body)) ≡ Ok q → b ≡ written q ++ drop (1 + r.length) b
      whole r f true l e = differ (cc)
      whole r f false l e = whole_back r q (found Right (b # 0) r rows all_right f) (leb-false (length b) r.length l) (cc)

      row_of : (s : Sought) → find rows (b # 0) ≡ s → frame_at s b ≡ Ok q → b ≡ written q ++ drop (1 + length_at s) b
      row_of none f e = differ (cc)
      row_of (at r) f e = whole r f (leb (length b) r.length) refl e

      first : (t : Bool) → cond t (Err Cut) (frame_at (find rows (b # 0)) b) ≡ Ok q → b ≡ written q ++ drop (1 + length_at (find rows (b # 0))) b
      first true e = differ (cc)
      first false e = row_of (find rows (b # 0)) refl e

-- ---- a request written out, with anything behind it, is read as that request
pair_forth : (c : ℕ) → pair (c / 256) (c % 256) ≡ c
pair_forth c = omega arith

pub quad_forth : (v : ℕ) → quad (v / 16777216) (v / 65536 % 256) (v / 256 % 256) (v % 256) ≡ v
quad_forth v = omega arith

spelt_whole : (b : List ℕ) (kind : ℕ) → b # 0 ≡ kind → (length b ≡ 0 → ⊥) → (length_at (find rows kind) ≡ 255 → ⊥) → length_at (find rows kind) < length b
    → frame_of b ≡ Ok (request_of kind b)
spelt_whole b kind e ne known l = by_row b ne (find rows kind) (ap (find rows) e) ∙ whole_at (find rows kind) b known l

pub written_is_read : (q : Request) (rest : List ℕ) → frame_of (written q ++ rest) ≡ Ok q
written_is_read (Request.Enrol u new sort level c admin) rest =
    spelt_whole (written (Request.Enrol u new sort level c admin) ++ rest) 0x01 refl (λ e. omega arith) (λ e. omega arith) (omega arith)
    ∙ ap (λ (n : ℕ). Ok (Request.Enrol u new sort level n admin)) (pair_forth c)
written_is_read (Request.Establish u room) rest =
    spelt_whole (written (Request.Establish u room) ++ rest) 0x02 refl (λ e. omega arith) (λ e. omega arith) (omega arith)
written_is_read (Request.JoinStaff u w room) rest =
    spelt_whole (written (Request.JoinStaff u w room) ++ rest) 0x03 refl (λ e. omega arith) (λ e. omega arith) (omega arith)
written_is_read (Request.LeaveStaff u w room) rest =
    spelt_whole (written (Request.LeaveStaff u w room) ++ rest) 0x04 refl (λ e. omega arith) (λ e. omega arith) (omega arith)
written_is_read (Request.JoinOutsider u w room level c) rest =
    spelt_whole (written (Request.JoinOutsider u w room level c) ++ rest) 0x05 refl (λ e. omega arith) (λ e. omega arith) (omega arith)
    ∙ ap (λ (n : ℕ). Ok (Request.JoinOutsider u w room level n)) (pair_forth c)
written_is_read (Request.LeaveOutsider u w room) rest =
    spelt_whole (written (Request.LeaveOutsider u w room) ++ rest) 0x06 refl (λ e. omega arith) (λ e. omega arith) (omega arith)
written_is_read (Request.Add u script v room) rest =
    spelt_whole (written (Request.Add u script v room) ++ rest) 0x07 refl (λ e. omega arith) (λ e. omega arith) (omega arith)
    ∙ ap (λ (n : ℕ). Ok (Request.Add u script n room)) (quad_forth v)
written_is_read (Request.Remove u script v room) rest =
    spelt_whole (written (Request.Remove u script v room) ++ rest) 0x08 refl (λ e. omega arith) (λ e. omega arith) (omega arith)
    ∙ ap (λ (n : ℕ). Ok (Request.Remove u script n room)) (quad_forth v)
written_is_read (Request.Import u script1 v script2 room) rest =
    spelt_whole (written (Request.Import u script1 v script2 room) ++ rest) 0x09 refl (λ e. omega arith) (λ e. omega arith) (omega arith)
    ∙ ap (λ (n : ℕ). Ok (Request.Import u script1 n script2 room)) (quad_forth v)
written_is_read (Request.Merge u script v room) rest =
    spelt_whole (written (Request.Merge u script v room) ++ rest) 0x0A refl (λ e. omega arith) (λ e. omega arith) (omega arith)
    ∙ ap (λ (n : ℕ). Ok (Request.Merge u script n room)) (quad_forth v)
written_is_read (Request.Disband u room) rest =
    spelt_whole (written (Request.Disband u room) ++ rest) 0x0B refl (λ e. omega arith) (λ e. omega arith) (omega arith)
written_is_read (Request.MakeLead u w room) rest =
    spelt_whole (written (Request.MakeLead u w room) ++ rest) 0x0C refl (λ e. omega arith) (λ e. omega arith) (omega arith)
written_is_read (Request.EndLead u w room) rest =
    spelt_whole (written (Request.EndLead u w room) ++ rest) 0x0D refl (λ e. omega arith) (λ e. omega arith) (omega arith)
written_is_read (Request.OpenInRoom u s room level c) rest =
    spelt_whole (written (Request.OpenInRoom u s room level c) ++ rest) 0x10 refl (λ e. omega arith) (λ e. omega arith) (omega arith)
    ∙ ap (λ (n : ℕ). Ok (Request.OpenInRoom u s room level n)) (pair_forth c)
written_is_read (Request.OpenInHouse u s level c) rest =
    spelt_whole (written (Request.OpenInHouse u s level c) ++ rest) 0x11 refl (λ e. omega arith) (λ e. omega arith) (omega arith)
    ∙ ap (λ (n : ℕ). Ok (Request.OpenInHouse u s level n)) (pair_forth c)
written_is_read (Request.OpenReadOnly u s level c) rest =
    spelt_whole (written (Request.OpenReadOnly u s level c) ++ rest) 0x12 refl (λ e. omega arith) (λ e. omega arith) (omega arith)
    ∙ ap (λ (n : ℕ). Ok (Request.OpenReadOnly u s level n)) (pair_forth c)
written_is_read (Request.Read s script v) rest =
    spelt_whole (written (Request.Read s script v) ++ rest) 0x13 refl (λ e. omega arith) (λ e. omega arith) (omega arith)
    ∙ ap (λ (n : ℕ). Ok (Request.Read s script n)) (quad_forth v)
written_is_read (Request.Update s script v) rest =
    spelt_whole (written (Request.Update s script v) ++ rest) 0x14 refl (λ e. omega arith) (λ e. omega arith) (omega arith)
    ∙ ap (λ (n : ℕ). Ok (Request.Update s script n)) (quad_forth v)
written_is_read (Request.Create s script) rest =
    spelt_whole (written (Request.Create s script) ++ rest) 0x15 refl (λ e. omega arith) (λ e. omega arith) (omega arith)
written_is_read (Request.Kill u s) rest =
    spelt_whole (written (Request.Kill u s) ++ rest) 0x16 refl (λ e. omega arith) (λ e. omega arith) (omega arith)
written_is_read (Request.TakeBack u) rest =
    spelt_whole (written (Request.TakeBack u) ++ rest) 0x20 refl (λ e. omega arith) (λ e. omega arith) (omega arith)
