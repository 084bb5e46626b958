-- Lines of the run in 01, as the definition spells them: three without their reasons, whatever these are, and two with them.
use mathlib.Core.Bool.{true, false}
use mathlib.Core.Path.{◌≡◌, refl}
use mathlib.Core.List.{[], ◌∷◌}
use Rattle.history.specs.declared.Answer.TheVariants.{Granted, Numbered, Refused}
use Rattle.reasons.specs.Reasons.{zeros}
use Rattle.reasons.specs.declared.Reason.{Reason}
use Rattle.desk.specs.Lines.{decimal, line_of}

-- `5 11 80 -`
line_5 : (r : Reason) → line_of false 5 0x11 Granted r ≡ 53 ∷ 32 ∷ 49 ∷ 49 ∷ 32 ∷ 56 ∷ 48 ∷ 32 ∷ 45 ∷ 10 ∷ []
unfolding decimal line_of
line_5 r = refl

-- `13 14 81 3`
line_13 : (r : Reason) → line_of false 13 0x14 (Numbered 3) r ≡ 49 ∷ 51 ∷ 32 ∷ 49 ∷ 52 ∷ 32 ∷ 56 ∷ 49 ∷ 32 ∷ 51 ∷ 10 ∷ []
unfolding decimal line_of
line_13 r = refl

-- `15 13 C4 -`
line_15 : (r : Reason) → line_of false 15 0x13 (Refused 4) r ≡ 49 ∷ 53 ∷ 32 ∷ 49 ∷ 51 ∷ 32 ∷ 67 ∷ 52 ∷ 32 ∷ 45 ∷ 10 ∷ []
unfolding decimal line_of
line_15 r = refl

-- `8 13 C8 - 8 45 1 1 2`
reason_8 : line_of true 8 0x13 (Refused 8) (record { number = 8; kind = 0x45; id = 1; held = 1; wanted = 2 })
    ≡ 56 ∷ 32 ∷ 49 ∷ 51 ∷ 32 ∷ 67 ∷ 56 ∷ 32 ∷ 45 ∷ 32 ∷ 56 ∷ 32 ∷ 52 ∷ 53 ∷ 32 ∷ 49 ∷ 32 ∷ 49 ∷ 32 ∷ 50 ∷ 10 ∷ []
unfolding decimal line_of
reason_8 = refl

-- `13 14 81 3 0 00 0 0 0`
reason_13 : line_of true 13 0x14 (Numbered 3) zeros
    ≡ 49 ∷ 51 ∷ 32 ∷ 49 ∷ 52 ∷ 32 ∷ 56 ∷ 49 ∷ 32 ∷ 51 ∷ 32 ∷ 48 ∷ 32 ∷ 48 ∷ 48 ∷ 32 ∷ 48 ∷ 32 ∷ 48 ∷ 32 ∷ 48 ∷ 10 ∷ []
unfolding decimal line_of
reason_13 = refl
