-- Requests whose fields fit their bytes. 01: "v has four bytes, c (categories) two, the rest one".
use Rattle.std.specs.Prelude.{Bool, ltb}
use Rattle.records.specs.Lists.{all}
use Rattle.request.specs.Writing.{Field, one, two, four, spelling}
use Rattle.request.specs.declared.Request.{Request}

abbrev pub field_fits : Field → Bool
field_fits (one n) = ltb n 256
field_fits (two n) = ltb n 65536
field_fits (four n) = ltb n 4294967296

abbrev pub fits : Request → Bool
fits q = all field_fits (spelling q).fields
