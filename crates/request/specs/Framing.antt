-- Bytes cut into requests, one behind the other, and what stands where no whole request does. No desk has a say in it.
use Rattle.std.specs.Prelude.{ℕ, zero, suc, List, [], ◌∷◌, ◌++◌, Result, Ok, Err}
use Rattle.request.specs.Bytes.{◌#◌}
use Rattle.request.specs.Kinds.{body_length}
use Rattle.request.specs.Reading.{frame_of}
use Rattle.request.specs.Writing.{written}
use Rattle.request.specs.declared.Request.{Request}
use Rattle.request.specs.declared.FrameError.{FrameError}
use Rattle.request.specs.declared.FrameError.TheVariants.{Unknown, Cut}

-- where the requests end: "no bytes left", "unknown kind or cut body", each with the kind byte that stands there
pub data End : Type 0 where
  no_bytes : End
  unknown_kind : ℕ → End
  cut_body : ℕ → End

pub record Series : Type 0 where
  pub requests : List Request
  pub end : End

abbrev pub ends : End → Series
ends e = record { requests = []; end = e }

abbrev pub before : Request → Series → Series
before q s = record { requests = q ∷ s.requests; end = s.end }

-- "unknown kind or cut body", or a request
abbrev pub by_frame : {A : Type 0} → Result Request FrameError → A → A → (Request → A) → A
by_frame (Err Unknown) unknown cut whole = unknown
by_frame (Err Cut) unknown cut whole = cut
by_frame (Ok q) unknown cut whole = whole q

-- the bytes behind the next `skip`, which belong to a request that was taken already
unfoldable pub series_from : ℕ → List ℕ → Series
series_from skip [] = ends no_bytes
series_from (suc skip) (b ∷ rest) = series_from skip rest
series_from zero (kind ∷ rest) =
    by_frame (frame_of (kind ∷ rest)) (ends (unknown_kind kind)) (ends (cut_body kind)) (λ (q : Request). before q (series_from (body_length kind) rest))

abbrev pub series_of : List ℕ → Series
series_of b = series_from 0 b

-- the byte of kind of a request, and requests written out one behind the other
abbrev pub kind_of : Request → ℕ
kind_of q = written q # 0

abbrev pub written_out : List Request → List ℕ
written_out [] = []
written_out (q ∷ qs) = written q ++ written_out qs
