-- A request written out by 01's table: its kind, then its fields.
use Rattle.std.specs.Prelude.{ℕ, List, [], ◌∷◌, ◌++◌, take, replicate}
use Rattle.request.specs.Bytes.{pair_bytes, quad_bytes}
use Rattle.request.specs.declared.Request.{Request}

-- "v has four bytes, c (categories) two, the rest one"
pub data Field : Type 0 where
  one two four : ℕ → Field

pub record Spelling : Type 0 where
  pub kind : ℕ
  pub fields : List Field

infix 20 ◌of◌
abbrev pub ◌of◌ : ℕ → List Field → Spelling
kind of fields = record { kind = kind; fields = fields }

-- the kind of a request, and its fields in the order of the body
abbrev pub spelling : Request → Spelling
spelling (Request.Enrol u new sort level c admin) = 0x01 of (one u ∷ one new ∷ one sort ∷ one level ∷ two c ∷ one admin ∷ [])
spelling (Request.Establish u room) = 0x02 of (one u ∷ one room ∷ [])
spelling (Request.JoinStaff u w room) = 0x03 of (one u ∷ one w ∷ one room ∷ [])
spelling (Request.LeaveStaff u w room) = 0x04 of (one u ∷ one w ∷ one room ∷ [])
spelling (Request.JoinOutsider u w room level c) = 0x05 of (one u ∷ one w ∷ one room ∷ one level ∷ two c ∷ [])
spelling (Request.LeaveOutsider u w room) = 0x06 of (one u ∷ one w ∷ one room ∷ [])
spelling (Request.Add u script v room) = 0x07 of (one u ∷ one script ∷ four v ∷ one room ∷ [])
spelling (Request.Remove u script v room) = 0x08 of (one u ∷ one script ∷ four v ∷ one room ∷ [])
spelling (Request.Import u script1 v script2 room) = 0x09 of (one u ∷ one script1 ∷ four v ∷ one script2 ∷ one room ∷ [])
spelling (Request.Merge u script v room) = 0x0A of (one u ∷ one script ∷ four v ∷ one room ∷ [])
spelling (Request.Disband u room) = 0x0B of (one u ∷ one room ∷ [])
spelling (Request.MakeLead u w room) = 0x0C of (one u ∷ one w ∷ one room ∷ [])
spelling (Request.EndLead u w room) = 0x0D of (one u ∷ one w ∷ one room ∷ [])
spelling (Request.OpenInRoom u s room level c) = 0x10 of (one u ∷ one s ∷ one room ∷ one level ∷ two c ∷ [])
spelling (Request.OpenInHouse u s level c) = 0x11 of (one u ∷ one s ∷ one level ∷ two c ∷ [])
spelling (Request.OpenReadOnly u s level c) = 0x12 of (one u ∷ one s ∷ one level ∷ two c ∷ [])
spelling (Request.Read s script v) = 0x13 of (one s ∷ one script ∷ four v ∷ [])
spelling (Request.Update s script v) = 0x14 of (one s ∷ one script ∷ four v ∷ [])
spelling (Request.Create s script) = 0x15 of (one s ∷ one script ∷ [])
spelling (Request.Kill u s) = 0x16 of (one u ∷ one s ∷ [])
spelling (Request.TakeBack u) = 0x20 of (one u ∷ [])

-- the bytes of fields, the most significant of each first
abbrev pub spelt : List Field → List ℕ
spelt [] = []
spelt (one x ∷ fields) = x ∷ spelt fields
spelt (two x ∷ fields) = pair_bytes x (spelt fields)
spelt (four x ∷ fields) = quad_bytes x (spelt fields)

abbrev pub written : Request → List ℕ
written q = (spelling q).kind ∷ spelt (spelling q).fields

-- the same in nine bytes, the longest frame: zeros follow
abbrev pub framed : Request → List ℕ
framed q = take 9 (written q ++ replicate 9 0)
