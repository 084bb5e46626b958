-- What each stop says of the request bytes used and the answer bytes written: "So the batch ends at the first of four stops."
use Rattle.std.specs.Prelude.{◌≡◌, List, [], ◌∷◌, ◌++◌, ℕ, ◌-◌, ◌<◌, length, drop, Result, Err}
use Rattle.request.specs.Reading.{frame_of}
use Rattle.batch.specs.declared.Stop.{Stop}
use Rattle.request.specs.declared.FrameError.{FrameError}
use Rattle.request.specs.declared.FrameError.TheVariants.{Unknown, Cut}
use Rattle.request.specs.declared.Request.{Request}

-- the last byte is x
pub record EndsIn (x : ℕ) (bytes : List ℕ) : Type 0 where
  pub front : List ℕ
  pub is : bytes ≡ front ++ (x ∷ [])

-- a stop before a request whose bytes hold the frame f: "C1 or C2 is written"
pub record AtFrame (f : Result Request FrameError) (x : ℕ) (b : List ℕ) (used : ℕ) (bytes : List ℕ) : Type 0 where
  pub bytes_left : used < length b
  pub frame : frame_of (drop used b) ≡ f
  pub last_byte : EndsIn x bytes

-- "no bytes left"; "under 5 answer bytes left"; "unknown kind"; "cut body"
abbrev pub Means : Stop → List ℕ → ℕ → ℕ → List ℕ → Type 0
Means Stop.End b room used bytes = used ≡ length b
Means Stop.NoRoom b room used bytes = (used < length b) × (room - length bytes < 5)
Means Stop.Unknown b room used bytes = AtFrame (Err Unknown) 0xC1 b used bytes
Means Stop.Cut b room used bytes = AtFrame (Err Cut) 0xC2 b used bytes
