-- How long the texts of a line are, and texts put into a buffer.
use Rattle.std.proofs.Common.{◌≡◌, refl, sym, subst, Bool, true, false, cond, List, [], ℕ, ◌≤◌, arith, length, take, length-append, append-nil}
use Rattle.history.specs.declared.Answer.{Answer}
use Rattle.history.specs.declared.Answer.TheVariants.{Granted, Numbered, Refused}
use Rattle.reasons.specs.Reasons.{zeros}
use Rattle.reasons.specs.declared.Reason.{Reason}
use Rattle.desk.specs.Lines.{number_text, reason_text, line_of, Put}
use Rattle.desk.proofs.Decimal.{decimal_short}

pub number_short : (a : Answer) → length (number_text a) ≤ 20
number_short Granted = omega arith
number_short (Numbered n) = decimal_short n
number_short (Refused n) = omega arith

pub reason_short : (why : Bool) (r : Reason) → length (cond why (reason_text r) []) ≤ 87
reason_short true r =
    let a = decimal_short r.number in
    let b = decimal_short r.id in
    let c = decimal_short r.held in
    let d = decimal_short r.wanted in
    simp length-append (omega arith)
reason_short false r = omega arith

pub line_short : (why : Bool) (k kind : ℕ) (a : Answer) (r : Reason) → length (line_of why k kind a r) ≤ 136
unfolding line_of
line_short why k kind a r =
    let d = decimal_short k in
    let n = number_short a in
    let w = reason_short why r in
    simp length-append (omega arith)

-- a reason that is not asked for is not printed
pub if_asked : (why : Bool) (k kind : ℕ) (a : Answer) (r : Reason) → line_of why k kind a (cond why r zeros) ≡ line_of why k kind a r
unfolding line_of
if_asked true k kind a r = refl
if_asked false k kind a r = refl

-- ---- texts that are put
pub put_nothing : (O : List ℕ) (at : ℕ) → Put O at [] at O
put_nothing O at = record { ends = omega arith; is = sym (append-nil (take at O)) }

pub put_as : {O O' s t : List ℕ} {at b : ℕ} → s ≡ t → Put O at s b O' → Put O at t b O'
put_as {O = O} {O' = O'} {at = at} {b = b} e p = subst (λ (x : List ℕ). Put O at x b O') e p
