-- The lines of an image's code, and which version of images has them.
use Rattle.std.specs.Prelude.{ℕ, List, [], ◌∷◌, ◌++◌, length, Option, Some, None}
use Rattle.std.specs.List.{flat_map}
use Rattle.al_instr.specs.Codes.{word_bytes}
use Rattle.al_instr.specs.Lines.{AreLines}
use Rattle.al_instr.specs.declared.lines.LineEntry.{LineEntry}

-- an image of version 1 has none
abbrev pub LinesFit : ℕ → Option (List LineEntry) → Type 0
LinesFit end None = Unit {0}
LinesFit end (Some es) = AreLines end es

abbrev pub entry_bytes : LineEntry → List ℕ
entry_bytes e = word_bytes e.place ++ word_bytes e.line

-- the lines after their number
abbrev pub lines_bytes : Option (List LineEntry) → List ℕ
lines_bytes None = []
lines_bytes (Some es) = word_bytes (length es) ++ flat_map entry_bytes es

-- ADLI, and the version in two bytes
abbrev pub mark_of : Option (List LineEntry) → List ℕ
mark_of None = 65 ∷ 68 ∷ 76 ∷ 73 ∷ 0 ∷ 1 ∷ []
mark_of (Some es) = 65 ∷ 68 ∷ 76 ∷ 73 ∷ 0 ∷ 2 ∷ []
