-- A reason: the refusal number, the record that decided, and the two values that were compared. 02, L7: "the first value is what the record holds, the second
-- what was wanted".
use Rattle.std.specs.Prelude.{ℕ}
use Rattle.reasons.specs.declared.Reason.{Reason}
use Rattle.reasons.specs.declared.Kind.{Kind}
use Rattle.reasons.specs.declared.Kind.TheVariants.{User, Room, Script, Session, Draft}

-- what decided: a record by its kind and id, the value that it holds, and the value wanted
pub record Decided : Type 0 where
  pub kind : ℕ
  pub id : ℕ
  pub held : ℕ
  pub wanted : ℕ

abbrev pub decided : ℕ → ℕ → ℕ → ℕ → Decided
decided kind id held wanted = record { kind = kind; id = id; held = held; wanted = wanted }

-- "Where no record decided .. kind and id are 0 and the values are the one asked for or reached and its bound, or 0 where there is none."
abbrev pub no_record : ℕ → ℕ → Decided
no_record value bound = decided 0 0 value bound

-- "Record kinds are L2's": 41 user, 42 room, 43 script, 44 session, 45 draft
abbrev pub kind_number : Kind → ℕ
kind_number User = 0x41
kind_number Room = 0x42
kind_number Script = 0x43
kind_number Session = 0x44
kind_number Draft = 0x45

abbrev pub a_user : ℕ → ℕ → ℕ → Decided
a_user id held wanted = decided 0x41 id held wanted

abbrev pub a_room : ℕ → ℕ → ℕ → Decided
a_room id held wanted = decided 0x42 id held wanted

abbrev pub a_script : ℕ → ℕ → ℕ → Decided
a_script id held wanted = decided 0x43 id held wanted

abbrev pub a_session : ℕ → ℕ → ℕ → Decided
a_session id held wanted = decided 0x44 id held wanted

abbrev pub a_draft : ℕ → ℕ → ℕ → Decided
a_draft id held wanted = decided 0x45 id held wanted

abbrev pub reason : ℕ → Decided → Reason
reason n d = record { number = n; kind = d.kind; id = d.id; held = d.held; wanted = d.wanted }

-- "for other bytes gives 1 or 2 and zeros": a number alone
abbrev pub bare : ℕ → Reason
bare n = record { number = n; kind = 0; id = 0; held = 0; wanted = 0 }

-- "A grant is all zeros."
abbrev pub zeros : Reason
zeros = bare 0
