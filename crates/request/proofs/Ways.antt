-- The ways through `read`, each as a law of `frame_of`.
use Rattle.std.specs.Prelude.{Result, Ok, Err}
use mathlib.Core.Path.{◌≡◌, refl, sym, ap, ◌∙◌, subst}
use mathlib.Core.List.{List, [], ◌∷◌}
use Prim.Native.Nat.{ℕ, zero, suc, ◌+◌, ◌≤◌, ◌<◌}
use native.Mathlib.Omega.{arith}
use lib.ListN.{length}
use lib.Dec.{eqb, leb}
use mathlib.Core.Bool.{Bool, true, false, cond}
use borrow.Author.Tests.{eq-eqb, ne_eqb, le-leb, lt-leb}
use Rattle.request.specs.Bytes.{◌#◌}
use Rattle.request.specs.Kinds.{Row, Sought, at, none, rows, find, length_at, body_length}
use Rattle.request.specs.Reading.{fields_from, request_at, request_of, frame_at, frame_of, length_in, start_of}
use Rattle.request.specs.declared.Request.{Request}
use Rattle.request.proofs.Rows.{found, short_found, unknown_kind}
use Rattle.request.proofs.Spelling.{Right, all_right, fields_alike}
use Rattle.request.specs.declared.FrameError.{FrameError}
use Rattle.request.specs.declared.FrameError.TheVariants.{Unknown, Cut}

pub empty : (b : List ℕ) → length b ≡ 0 → Err Cut ≡ frame_of b
unfolding frame_of
empty b e = rw (eq-eqb (length b) 0 e)

-- a first byte there is: the row of that kind decides
pub by_row : (b : List ℕ) → (length b ≡ 0 → ⊥) → (s : Sought) → find rows (b # 0) ≡ s → frame_of b ≡ frame_at s b
unfolding frame_of
by_row b ne s e = rw (ne_eqb (length b) 0 ne, e)

pub whole_at : (s : Sought) (b : List ℕ) → (length_at s ≡ 255 → ⊥) → length_at s < length b → frame_at s b ≡ Ok (request_at s b)
whole_at (at r) b known l = rw (lt-leb (length b) r.length l)
whole_at none b known l = absurd (known refl)

cut_at : (s : Sought) (b : List ℕ) → (length_at s ≡ 255 → ⊥) → length b ≤ length_at s → frame_at s b ≡ Err Cut
cut_at (at r) b known l = rw (le-leb (length b) r.length l)
cut_at none b known l = absurd (known refl)

-- the code's kind x, and n, the length of its body
module _ (b : List ℕ) (ne : length b ≡ 0 → ⊥) (x n : ℕ) (is-kind : x ≡ b # 0) (is-length : n ≡ body_length x) where
  length_is : length_at (find rows (b # 0)) ≡ n
  unfolding body_length
  length_is = sym (is-length ∙ ap (λ (k : ℕ). length_at (find rows k)) is-kind)

  pub unknown : n ≡ 255 → Err Unknown ≡ frame_of b
  unknown e = sym (by_row b ne none (unknown_kind (b # 0) (length_is ∙ e)))

  module _ (known : n ≡ 255 → ⊥) where
    pub cut : length b ≤ n → Err Cut ≡ frame_of b
    cut l =
        sym (by_row b ne (find rows (b # 0)) refl
        ∙ cut_at (find rows (b # 0)) b (λ e. known (sym length_is ∙ e)) (subst (λ (m : ℕ). length b ≤ m) (sym length_is) l))

    pub whole : n < length b → (q : Request) → q ≡ request_of (b # 0) b → Ok q ≡ frame_of b
    whole l q is =
        ap Ok is
        ∙ sym (by_row b ne (find rows (b # 0)) refl
        ∙ whole_at (find rows (b # 0)) b (λ e. known (sym length_is ∙ e)) (subst (λ (m : ℕ). m < length b) (sym length_is) l))

-- no body reads further than byte 8
abbrev nine : List ℕ → List ℕ
nine b = b # 0 ∷ b # 1 ∷ b # 2 ∷ b # 3 ∷ b # 4 ∷ b # 5 ∷ b # 6 ∷ b # 7 ∷ b # 8 ∷ []

nine_alike : (b : List ℕ) (j : ℕ) → j < 9 → nine b # j ≡ b # j
nine_alike b zero h = refl
nine_alike b (suc zero) h = refl
nine_alike b (suc (suc zero)) h = refl
nine_alike b (suc (suc (suc zero))) h = refl
nine_alike b (suc (suc (suc (suc zero)))) h = refl
nine_alike b (suc (suc (suc (suc (suc zero))))) h = refl
nine_alike b (suc (suc (suc (suc (suc (suc zero)))))) h = refl
nine_alike b (suc (suc (suc (suc (suc (suc (suc zero))))))) h = refl
nine_alike b (suc (suc (suc (suc (suc (suc (suc (suc zero)))))))) h = refl
nine_alike b (suc (suc (suc (suc (suc (suc (suc (suc (suc j))))))))) h = absurd (omega arith)

pub nine_will_do : (x : ℕ) (b : List ℕ) → request_of x (nine b) ≡ request_of x b
nine_will_do x b = go (find rows x) refl
  where
    go : (s : Sought) → find rows x ≡ s → request_at s (nine b) ≡ request_at s b
    go (at r) e =
        let few = short_found x r rows tt e in
        fields_alike r.kind (1 + r.length) (nine b) b (λ j h. nine_alike b j (omega (arith, few, h))) r.body [] 1 (found Right x r rows all_right e).holds
    go none e = refl

-- ---- what is read off bytes, by how far it reaches and by the request of their first byte's row
abbrev pub framed : Result ℕ FrameError → Request → Result Request FrameError
framed (Ok n) q = Ok q
framed (Err Unknown) q = Err Unknown
framed (Err Cut) q = Err Cut

pub as_framed : (b : List ℕ) → frame_of b ≡ framed (start_of b) (request_of (b # 0) b)
unfolding frame_of
as_framed b = go (eqb (length b) 0) (find rows (b # 0))
  where
    inner : (t : Bool) (r : Row) → cond t (Err Cut) (Ok (fields_from b 1 r.body)) ≡ framed (length_in (b # 0) (cond t (Err Cut) (Ok (fields_from b 1 r.body)))) (fields_from b 1 r.body)
    inner true r = refl
    inner false r = refl

    go : (t : Bool) (s : Sought) → cond t (Err Cut) (frame_at s b) ≡ framed (length_in (b # 0) (cond t (Err Cut) (frame_at s b))) (request_at s b)
    go true s = refl
    go false (at r) = inner (leb (length b) r.length) r
    go false none = refl
