-- What is read off bytes: a whole request, "unknown kind" (refusal 1 of 01), or "fewer bytes left than the body" (refusal 2).
use Rattle.std.specs.Prelude.{ℕ, ◌+◌, cond, List, leb, eqb, length, Result, Ok, Err}
use Rattle.request.specs.Bytes.{◌#◌, pair_at, quad_at}
use Rattle.request.specs.Kinds.{Body, one, two, four, make, Sought, at, none, rows, find, body_length}
use Rattle.request.specs.declared.Request.{Request}
use Rattle.request.specs.declared.FrameError.{FrameError}
use Rattle.request.specs.declared.FrameError.TheVariants.{Unknown, Cut}

-- the request whose fields start at byte i
abbrev pub fields_from : List ℕ → ℕ → Body → Request
fields_from b i (one f) = fields_from b (i + 1) (f (b # i))
fields_from b i (two f) = fields_from b (i + 2) (f (pair_at b i))
fields_from b i (four f) = fields_from b (i + 4) (f (quad_at b i))
fields_from b i (make q) = q

-- the request of a row; without a row it is not asked for
abbrev pub request_at : Sought → List ℕ → Request
request_at (at r) b = fields_from b 1 r.body
request_at none b = Request.TakeBack 0

abbrev pub request_of : ℕ → List ℕ → Request
request_of kind b = request_at (find rows kind) b

-- byte 0 is the kind, the body follows, and what is behind the body is not read
abbrev pub frame_at : Sought → List ℕ → Result Request FrameError
frame_at (at r) b = cond (leb (length b) r.length) (Err Cut) (Ok (fields_from b 1 r.body))
frame_at none b = Err Unknown

unfoldable pub frame_of : List ℕ → Result Request FrameError
frame_of b = cond (eqb (length b) 0) (Err Cut) (frame_at (find rows (b # 0)) b)

-- the same without the fields: of a whole request how long its body is
abbrev pub length_in : ℕ → Result Request FrameError → Result ℕ FrameError
length_in kind (Ok q) = Ok (body_length kind)
length_in kind (Err Unknown) = Err Unknown
length_in kind (Err Cut) = Err Cut

abbrev pub start_of : List ℕ → Result ℕ FrameError
start_of b = length_in (b # 0) (frame_of b)
