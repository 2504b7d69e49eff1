-- What a build says of files, and the keys of units.
use Rattle.std.specs.Prelude.{ℕ, List}
use Rattle.al_base.specs.declared.diagnostic.Diagnostic.{Diagnostic}
use Rattle.al_base.specs.declared.unit_key.UnitKind.{UnitKind}
use Rattle.al_base.specs.declared.unit_key.UnitKey.{UnitKey}

-- what a build says of one file: its name, the place, and the number of the rule that is broken
pub record Finding : Type 0 where
  pub file : List ℕ
  pub line : ℕ
  pub col : ℕ
  pub code : ℕ

-- a unit's name in lower case, and which part of it
abbrev pub Key : Type 0
Key = List ℕ × UnitKind

abbrev pub finding_of : Diagnostic → Finding
finding_of d = record { file = d.file; line = d.place.line; col = d.place.col; code = d.code }

abbrev pub key_of : UnitKey → Key
key_of k = (k.name, k.kind)
