-- What a session may be used to read. 02, L4: "A translator left all rooms with a read-only session open at level 5, then joined a new room at level 2. By 01 the old
-- session still reads at 5".
use Rattle.std.specs.Prelude.{ℕ}
use Rattle.records.specs.House.{House, user, script, session}
use Rattle.records.specs.declared.User.{User}
use Rattle.conditions.specs.Labels.{Covered}

abbrev pub owner_of : House → ℕ → User
owner_of h x = user h (session h x).owner

-- "from then on every session is within its owner's label at all times": neither higher in level, nor with a category that the owner lacks
abbrev pub SessionWithin : House → ℕ → Type 0
SessionWithin h x = Covered (owner_of h x).level (owner_of h x).categories (session h x).level (session h x).categories

-- and so is the script s that it reads
abbrev pub ReadWithin : House → ℕ → ℕ → Type 0
ReadWithin h x s = Covered (owner_of h x).level (owner_of h x).categories (script h s).level (script h s).categories
