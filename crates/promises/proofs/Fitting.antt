-- The requests that bytes are cut into fit their bytes, as many of them as one takes.
use Prim.Native.Nat.{ℕ, zero, suc}
use mathlib.Core.Path.{◌≡◌, refl}
use mathlib.Core.Bool.{true}
use mathlib.Core.List.{List}
use lib.ListN.{drop, take}
use Rattle.request.specs.Bytes.{◌#◌, Bytes}
use Rattle.request.specs.Kinds.{body_length}
use Rattle.request.specs.Framing.{Series, series_of}
use Rattle.request.proofs.Framing.{Cuts, nothing, unknown, cut, whole, cuts, bytes_behind}
use Rattle.records.specs.Lists.{all}
use Rattle.promises.specs.Fits.{fits}
use Rattle.promises.proofs.Frames.{read_fits}

cuts_fit : {b : List ℕ} {s : Series} → Bytes b → Cuts b s → (k : ℕ) → all fits (take k s.requests) ≡ true
cuts_fit {b} small c zero = refl
cuts_fit {b} small (nothing e) (suc k) = refl
cuts_fit {b} small (unknown l f) (suc k) = refl
cuts_fit {b} small (cut l f) (suc k) = refl
cuts_fit {b} small (whole l q f s later) (suc k) =
    rw (read_fits b small q f) (cuts_fit {b = drop (suc (body_length (b # 0))) b} (bytes_behind (suc (body_length (b # 0))) b small) later k)

pub taken_fit : (b : List ℕ) → Bytes b → (k : ℕ) → all fits (take k (series_of b).requests) ≡ true
taken_fit b small k = cuts_fit small (cuts b) k
