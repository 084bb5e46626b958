-- What a granted request makes of sessions. The quoted words are those of 01's column "Granted effect", and of 02.
use Rattle.std.specs.Prelude.{ℕ, Bool, true, false, cond, not, ◌&&◌, eqb}
use Rattle.label.specs.Labels.{covers}
use Rattle.records.specs.House.{no_session, no_place}
use Rattle.records.specs.declared.Session.{Session}
use Rattle.sessions.specs.declared.Ending.{Ending}
use Rattle.sessions.specs.declared.Ending.TheVariants.{OfRoom, OfMember, Uncovered}

-- ---- one is opened: an RW session of a place, or an RO session, which has none
abbrev pub writing : ℕ → ℕ → ℕ → ℕ → Session
writing owner level c place = record { here = true; owner = owner; level = level; categories = c; writes = true; place = place }

abbrev pub reading : ℕ → ℕ → ℕ → Session
reading owner level c = record { here = true; owner = owner; level = level; categories = c; writes = false; place = no_place }

-- ---- some end together
-- 02, L4: "every session of that user not covered by the new label"
abbrev pub uncovered : ℕ → ℕ → ℕ → Session → Bool
uncovered w level c s = eqb s.owner w && not (covers level c s.level s.categories)

-- 0B: "its RW sessions gone"; 04, 06: "w's RW sessions of that room end"; 05: those not covered
abbrev pub ends : Ending → Session → Bool
ends (OfRoom room) s = s.writes && eqb s.place room
ends (OfMember w room) s = s.writes && eqb s.owner w && eqb s.place room
ends (Uncovered w level c) s = uncovered w level c s

abbrev pub ended : Ending → Session → Session
ended e s = cond (ends e s) no_session s
