-- The table of requests in 01, with the rows that 02 adds; section "Requests": "One byte of kind, then a body whose length the kind fixes".
use Rattle.std.specs.Prelude.{ℕ, cond, List, [], ◌∷◌, eqb}
use Rattle.request.specs.declared.Request.{Request}

-- "v has four bytes, c (categories) two, the rest one": the fields in order, and the request that they make
pub data Body : Type 0 where
  one two four : (ℕ → Body) → Body
  make : Request → Body

pub record Row : Type 0 where
  pub kind : ℕ
  pub length : ℕ
  pub body : Body

abbrev pub row : ℕ → ℕ → Body → Row
row kind length body = record { kind = kind; length = length; body = body }

-- the columns Kind, Length and Body; 02, L6: "kind 0C, u makes staff member w a lead of the room, and 0D, u ends w's lead; body u, w, room for each"
abbrev pub rows : List Row
rows =
    row 0x01 7 (one λ u. one λ new. one λ sort. one λ level. two λ c. one λ admin. make (Request.Enrol u new sort level c admin))
    ∷ row 0x02 2 (one λ u. one λ room. make (Request.Establish u room))
    ∷ row 0x03 3 (one λ u. one λ w. one λ room. make (Request.JoinStaff u w room))
    ∷ row 0x04 3 (one λ u. one λ w. one λ room. make (Request.LeaveStaff u w room))
    ∷ row 0x05 6 (one λ u. one λ w. one λ room. one λ level. two λ c. make (Request.JoinOutsider u w room level c))
    ∷ row 0x06 3 (one λ u. one λ w. one λ room. make (Request.LeaveOutsider u w room))
    ∷ row 0x07 7 (one λ u. one λ script. four λ v. one λ room. make (Request.Add u script v room))
    ∷ row 0x08 7 (one λ u. one λ script. four λ v. one λ room. make (Request.Remove u script v room))
    ∷ row 0x09 8 (one λ u. one λ script1. four λ v. one λ script2. one λ room. make (Request.Import u script1 v script2 room))
    ∷ row 0x0A 7 (one λ u. one λ script. four λ v. one λ room. make (Request.Merge u script v room))
    ∷ row 0x0B 2 (one λ u. one λ room. make (Request.Disband u room))
    ∷ row 0x0C 3 (one λ u. one λ w. one λ room. make (Request.MakeLead u w room))
    ∷ row 0x0D 3 (one λ u. one λ w. one λ room. make (Request.EndLead u w room))
    ∷ row 0x10 6 (one λ u. one λ s. one λ room. one λ level. two λ c. make (Request.OpenInRoom u s room level c))
    ∷ row 0x11 5 (one λ u. one λ s. one λ level. two λ c. make (Request.OpenInHouse u s level c))
    ∷ row 0x12 5 (one λ u. one λ s. one λ level. two λ c. make (Request.OpenReadOnly u s level c))
    ∷ row 0x13 6 (one λ s. one λ script. four λ v. make (Request.Read s script v))
    ∷ row 0x14 6 (one λ s. one λ script. four λ v. make (Request.Update s script v))
    ∷ row 0x15 2 (one λ s. one λ script. make (Request.Create s script))
    ∷ row 0x16 2 (one λ u. one λ s. make (Request.Kill u s))
    ∷ row 0x20 1 (one λ u. make (Request.TakeBack u))
    ∷ []

-- the row of a kind, if the table has one
pub data Sought : Type 0 where
  at : Row → Sought
  none : Sought

abbrev pub find : List Row → ℕ → Sought
find [] kind = none
find (r ∷ rs) kind = cond (eqb kind r.kind) (at r) (find rs kind)

-- "255 for unknown kinds"
abbrev pub length_at : Sought → ℕ
length_at (at r) = r.length
length_at none = 255

unfoldable pub body_length : ℕ → ℕ
body_length kind = length_at (find rows kind)
