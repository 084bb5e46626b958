-- Who leads a room. 02, L6: "Every room has at least one staff lead at all times".
use Rattle.std.specs.Prelude.{ℕ, ◌≡◌, true}
use Rattle.records.specs.Places.{has}
use Rattle.records.specs.House.{House, staff, user}

-- somebody who is there, is staff and leads the room
pub record StaffLead (h : House) (room : ℕ) : Type 0 where
  pub who : ℕ
  pub is_here : (user h who).here ≡ true
  pub is_staff : (user h who).sort ≡ staff
  pub leads : has (user h who).leads room ≡ true
