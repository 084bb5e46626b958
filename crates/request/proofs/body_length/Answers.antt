-- `body_length` meets its contract, range after range; no row has a kind past the last.
use Rattle.std.proofs.Common.{◌≡◌, ◌<◌, ◌≤◌, arith}
use mathlib.Core.Logic.{◌⊎◌, inl, inr}
use Rattle.request.specs.Kinds.{body_length}
use Rattle.request.proofs.Ranges.{Below, start, range, beyond}
use Rattle.request.proofs.body_length.Goals.{then-kind-lt1, else-kind-lt1, then-kind-lt2, else-kind-lt2, then-kind-lt3, else-kind-lt3, then-kind-lt5, else-kind-lt5, then-kind-lt6, else-kind-lt6, then-kind-lt7, else-kind-lt7, then-kind-lt9, else-kind-lt9, then-kind-lt10, else-kind-lt10, then-kind-lt11, else-kind-lt11, then-kind-lt12, else-kind-lt12, then-kind-lt14, else-kind-lt14, then-kind-lt16, else-kind-lt16, then-kind-lt17, else-kind-lt17, then-kind-lt19, else-kind-lt19, then-kind-lt21, else-kind-lt21, then-kind-lt23, else-kind-lt23, then-kind-lt32, else-kind-lt32}
use Rattle.request.proofs.body_length.Goals as goal

-- Each range is named by its first kind; the kind itself is named too, as finding it there takes the check half as long again.
pub returns-then-kind-lt33 : goal.returns-then-kind-lt33
unfolding body_length
returns-then-kind-lt33 c =
    let kind = c.args.kind in
    let under1 : Below kind 1 255 = start {first = 0} tt (omega arith) in
    let at1 : ((kind < 1) × (c.if-kind-lt1.n ≡ 255)) ⊎ ((1 ≤ kind) × (c.if-kind-lt1.n ≡ 7)) =
    elim c.if-kind-lt1.branch [ then-kind-lt1 w ↦ inl (w.if-kind-lt1.true, w.n-is) | else-kind-lt1 w ↦ inr (w.if-kind-lt1.false, w.n-is) ] in
    let under2 : Below kind 2 c.if-kind-lt1.n = range {x = kind} {first = 1} {end = 2} {n = 7} {below = 255} {r = c.if-kind-lt1.n} tt at1 (λ a. a) (λ b. b) under1 in
    let at2 : ((kind < 2) × (c.if-kind-lt2.n ≡ c.if-kind-lt1.n)) ⊎ ((2 ≤ kind) × (c.if-kind-lt2.n ≡ 2)) =
    elim c.if-kind-lt2.branch [ then-kind-lt2 w ↦ inl (w.if-kind-lt2.true, w.n-is) | else-kind-lt2 w ↦ inr (w.if-kind-lt2.false, w.n-is) ] in
    let under3 : Below kind 3 c.if-kind-lt2.n = range {x = kind} {first = 2} {end = 3} {n = 2} {below = c.if-kind-lt1.n} {r = c.if-kind-lt2.n} tt at2 (λ a. a) (λ b. b) under2 in
    let at3 : ((kind < 3) × (c.if-kind-lt3.n ≡ c.if-kind-lt2.n)) ⊎ ((3 ≤ kind) × (c.if-kind-lt3.n ≡ 3)) =
    elim c.if-kind-lt3.branch [ then-kind-lt3 w ↦ inl (w.if-kind-lt3.true, w.n-is) | else-kind-lt3 w ↦ inr (w.if-kind-lt3.false, w.n-is) ] in
    let under5 : Below kind 5 c.if-kind-lt3.n = range {x = kind} {first = 3} {end = 5} {n = 3} {below = c.if-kind-lt2.n} {r = c.if-kind-lt3.n} tt at3 (λ a. a) (λ b. b) under3 in
    let at5 : ((kind < 5) × (c.if-kind-lt5.n ≡ c.if-kind-lt3.n)) ⊎ ((5 ≤ kind) × (c.if-kind-lt5.n ≡ 6)) =
    elim c.if-kind-lt5.branch [ then-kind-lt5 w ↦ inl (w.if-kind-lt5.true, w.n-is) | else-kind-lt5 w ↦ inr (w.if-kind-lt5.false, w.n-is) ] in
    let under6 : Below kind 6 c.if-kind-lt5.n = range {x = kind} {first = 5} {end = 6} {n = 6} {below = c.if-kind-lt3.n} {r = c.if-kind-lt5.n} tt at5 (λ a. a) (λ b. b) under5 in
    let at6 : ((kind < 6) × (c.if-kind-lt6.n ≡ c.if-kind-lt5.n)) ⊎ ((6 ≤ kind) × (c.if-kind-lt6.n ≡ 3)) =
    elim c.if-kind-lt6.branch [ then-kind-lt6 w ↦ inl (w.if-kind-lt6.true, w.n-is) | else-kind-lt6 w ↦ inr (w.if-kind-lt6.false, w.n-is) ] in
    let under7 : Below kind 7 c.if-kind-lt6.n = range {x = kind} {first = 6} {end = 7} {n = 3} {below = c.if-kind-lt5.n} {r = c.if-kind-lt6.n} tt at6 (λ a. a) (λ b. b) under6 in
    let at7 : ((kind < 7) × (c.if-kind-lt7.n ≡ c.if-kind-lt6.n)) ⊎ ((7 ≤ kind) × (c.if-kind-lt7.n ≡ 7)) =
    elim c.if-kind-lt7.branch [ then-kind-lt7 w ↦ inl (w.if-kind-lt7.true, w.n-is) | else-kind-lt7 w ↦ inr (w.if-kind-lt7.false, w.n-is) ] in
    let under9 : Below kind 9 c.if-kind-lt7.n = range {x = kind} {first = 7} {end = 9} {n = 7} {below = c.if-kind-lt6.n} {r = c.if-kind-lt7.n} tt at7 (λ a. a) (λ b. b) under7 in
    let at9 : ((kind < 9) × (c.if-kind-lt9.n ≡ c.if-kind-lt7.n)) ⊎ ((9 ≤ kind) × (c.if-kind-lt9.n ≡ 8)) =
    elim c.if-kind-lt9.branch [ then-kind-lt9 w ↦ inl (w.if-kind-lt9.true, w.n-is) | else-kind-lt9 w ↦ inr (w.if-kind-lt9.false, w.n-is) ] in
    let under10 : Below kind 10 c.if-kind-lt9.n = range {x = kind} {first = 9} {end = 10} {n = 8} {below = c.if-kind-lt7.n} {r = c.if-kind-lt9.n} tt at9 (λ a. a) (λ b. b) under9 in
    let at10 : ((kind < 10) × (c.if-kind-lt10.n ≡ c.if-kind-lt9.n)) ⊎ ((10 ≤ kind) × (c.if-kind-lt10.n ≡ 7)) =
    elim c.if-kind-lt10.branch [ then-kind-lt10 w ↦ inl (w.if-kind-lt10.true, w.n-is) | else-kind-lt10 w ↦ inr (w.if-kind-lt10.false, w.n-is) ] in
    let under11 : Below kind 11 c.if-kind-lt10.n = range {x = kind} {first = 10} {end = 11} {n = 7} {below = c.if-kind-lt9.n} {r = c.if-kind-lt10.n} tt at10 (λ a. a) (λ b. b) under10 in
    let at11 : ((kind < 11) × (c.if-kind-lt11.n ≡ c.if-kind-lt10.n)) ⊎ ((11 ≤ kind) × (c.if-kind-lt11.n ≡ 2)) =
    elim c.if-kind-lt11.branch [ then-kind-lt11 w ↦ inl (w.if-kind-lt11.true, w.n-is) | else-kind-lt11 w ↦ inr (w.if-kind-lt11.false, w.n-is) ] in
    let under12 : Below kind 12 c.if-kind-lt11.n = range {x = kind} {first = 11} {end = 12} {n = 2} {below = c.if-kind-lt10.n} {r = c.if-kind-lt11.n} tt at11 (λ a. a) (λ b. b) under11 in
    let at12 : ((kind < 12) × (c.if-kind-lt12.n ≡ c.if-kind-lt11.n)) ⊎ ((12 ≤ kind) × (c.if-kind-lt12.n ≡ 3)) =
    elim c.if-kind-lt12.branch [ then-kind-lt12 w ↦ inl (w.if-kind-lt12.true, w.n-is) | else-kind-lt12 w ↦ inr (w.if-kind-lt12.false, w.n-is) ] in
    let under14 : Below kind 14 c.if-kind-lt12.n = range {x = kind} {first = 12} {end = 14} {n = 3} {below = c.if-kind-lt11.n} {r = c.if-kind-lt12.n} tt at12 (λ a. a) (λ b. b) under12 in
    let at14 : ((kind < 14) × (c.if-kind-lt14.n ≡ c.if-kind-lt12.n)) ⊎ ((14 ≤ kind) × (c.if-kind-lt14.n ≡ 255)) =
    elim c.if-kind-lt14.branch [ then-kind-lt14 w ↦ inl (w.if-kind-lt14.true, w.n-is) | else-kind-lt14 w ↦ inr (w.if-kind-lt14.false, w.n-is) ] in
    let under16 : Below kind 16 c.if-kind-lt14.n = range {x = kind} {first = 14} {end = 16} {n = 255} {below = c.if-kind-lt12.n} {r = c.if-kind-lt14.n} tt at14 (λ a. a) (λ b. b) under14 in
    let at16 : ((kind < 16) × (c.if-kind-lt16.n ≡ c.if-kind-lt14.n)) ⊎ ((16 ≤ kind) × (c.if-kind-lt16.n ≡ 6)) =
    elim c.if-kind-lt16.branch [ then-kind-lt16 w ↦ inl (w.if-kind-lt16.true, w.n-is) | else-kind-lt16 w ↦ inr (w.if-kind-lt16.false, w.n-is) ] in
    let under17 : Below kind 17 c.if-kind-lt16.n = range {x = kind} {first = 16} {end = 17} {n = 6} {below = c.if-kind-lt14.n} {r = c.if-kind-lt16.n} tt at16 (λ a. a) (λ b. b) under16 in
    let at17 : ((kind < 17) × (c.if-kind-lt17.n ≡ c.if-kind-lt16.n)) ⊎ ((17 ≤ kind) × (c.if-kind-lt17.n ≡ 5)) =
    elim c.if-kind-lt17.branch [ then-kind-lt17 w ↦ inl (w.if-kind-lt17.true, w.n-is) | else-kind-lt17 w ↦ inr (w.if-kind-lt17.false, w.n-is) ] in
    let under19 : Below kind 19 c.if-kind-lt17.n = range {x = kind} {first = 17} {end = 19} {n = 5} {below = c.if-kind-lt16.n} {r = c.if-kind-lt17.n} tt at17 (λ a. a) (λ b. b) under17 in
    let at19 : ((kind < 19) × (c.if-kind-lt19.n ≡ c.if-kind-lt17.n)) ⊎ ((19 ≤ kind) × (c.if-kind-lt19.n ≡ 6)) =
    elim c.if-kind-lt19.branch [ then-kind-lt19 w ↦ inl (w.if-kind-lt19.true, w.n-is) | else-kind-lt19 w ↦ inr (w.if-kind-lt19.false, w.n-is) ] in
    let under21 : Below kind 21 c.if-kind-lt19.n = range {x = kind} {first = 19} {end = 21} {n = 6} {below = c.if-kind-lt17.n} {r = c.if-kind-lt19.n} tt at19 (λ a. a) (λ b. b) under19 in
    let at21 : ((kind < 21) × (c.if-kind-lt21.n ≡ c.if-kind-lt19.n)) ⊎ ((21 ≤ kind) × (c.if-kind-lt21.n ≡ 2)) =
    elim c.if-kind-lt21.branch [ then-kind-lt21 w ↦ inl (w.if-kind-lt21.true, w.n-is) | else-kind-lt21 w ↦ inr (w.if-kind-lt21.false, w.n-is) ] in
    let under23 : Below kind 23 c.if-kind-lt21.n = range {x = kind} {first = 21} {end = 23} {n = 2} {below = c.if-kind-lt19.n} {r = c.if-kind-lt21.n} tt at21 (λ a. a) (λ b. b) under21 in
    let at23 : ((kind < 23) × (c.if-kind-lt23.n ≡ c.if-kind-lt21.n)) ⊎ ((23 ≤ kind) × (c.if-kind-lt23.n ≡ 255)) =
    elim c.if-kind-lt23.branch [ then-kind-lt23 w ↦ inl (w.if-kind-lt23.true, w.n-is) | else-kind-lt23 w ↦ inr (w.if-kind-lt23.false, w.n-is) ] in
    let under32 : Below kind 32 c.if-kind-lt23.n = range {x = kind} {first = 23} {end = 32} {n = 255} {below = c.if-kind-lt21.n} {r = c.if-kind-lt23.n} tt at23 (λ a. a) (λ b. b) under23 in
    let at32 : ((kind < 32) × (c.if-kind-lt32.n ≡ c.if-kind-lt23.n)) ⊎ ((32 ≤ kind) × (c.if-kind-lt32.n ≡ 1)) =
    elim c.if-kind-lt32.branch [ then-kind-lt32 w ↦ inl (w.if-kind-lt32.true, w.n-is) | else-kind-lt32 w ↦ inr (w.if-kind-lt32.false, w.n-is) ] in
    let under33 : Below kind 33 c.if-kind-lt32.n = range {x = kind} {first = 32} {end = 33} {n = 1} {below = c.if-kind-lt23.n} {r = c.if-kind-lt32.n} tt at32 (λ a. a) (λ b. b) under32 in
    under33 c.if-kind-lt33.true

pub returns-else-kind-lt33 : goal.returns-else-kind-lt33
unfolding body_length
returns-else-kind-lt33 c = beyond _ _ _ tt c.if-kind-lt33.false
