-- P1 to P12 of 01 hold of the definitions that the contracts cite.
use mathlib.Core.Path.{◌≡◌, refl}
use Rattle.label.specs.Labels.{unpack}
use Rattle.request.specs.Kinds.{body_length}
use Rattle.editor.specs.Examples.{examples, answers, expectations}

pub examples_hold : answers examples ≡ expectations examples
unfolding unpack body_length
examples_hold = refl
