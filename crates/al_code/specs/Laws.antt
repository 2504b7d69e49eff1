-- Laws of the definitions.
use Rattle.std.specs.Prelude.{◌≡◌, nat_le, if◌then◌else◌, List, Some, None}
use Rattle.al_code.specs.Pieces.{Piece, size}
use Rattle.al_code.specs.Written.{empty, grown, written}

-- what is written from the start is the bytes of the pieces, the symbols that they use and that are defined between them, and the jumps that wait,
-- if these bytes pass no limit, and nothing if they do
abbrev pub WritesAll : Type 0
WritesAll = (ps : List Piece) → written (Some empty) ps ≡ (if nat_le (size ps) 16777216 then Some (grown empty ps) else None)
