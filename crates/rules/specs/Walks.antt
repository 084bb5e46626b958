-- The tests of one table, put together: what code asks of each element as it walks the table once. The rules themselves are in Rules.
use Rattle.std.specs.Prelude.{Bool, ◌&&◌}
use Rattle.records.specs.House.{House, user}
use Rattle.records.specs.Lookups.{placed}
use Rattle.records.specs.declared.User.{User}
use Rattle.records.specs.declared.Script.{Script}
use Rattle.records.specs.declared.Session.{Session}
use Rattle.records.specs.declared.Draft.{Draft}
use Rattle.rules.specs.Rules.{◌implies◌, user_fits, rooms_there, staff_if_trusted, bare_if_outsider, session_fits, session_there, owned_well, within, script_fits, origin_there, draft_there, in_its_room, at_home_or_one_room}

abbrev pub user_keeps : House → User → Bool
user_keeps h u = user_fits u && rooms_there h u && staff_if_trusted u && bare_if_outsider u

abbrev pub session_keeps : House → Session → Bool
session_keeps h s = session_fits s && session_there h s && (s.writes implies owned_well (user h s.owner) s) && within (user h s.owner) s

abbrev pub script_keeps : House → Script → Bool
script_keeps h s = script_fits s && origin_there h s

abbrev pub draft_keeps : House → Draft → Bool
draft_keeps h d = draft_there h d && in_its_room h d && at_home_or_one_room h d && placed d
