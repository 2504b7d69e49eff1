-- The places at which the rules are broken in one file, and their numbers.
use Rattle.std.specs.Prelude.{ℕ, List}
use Rattle.al_base.specs.Batch.{Finding}
use Rattle.al_base.specs.declared.diagnostic.Diagnostic.{Diagnostic}

abbrev pub Spot : Type 0
Spot = ℕ × ℕ × ℕ

abbrev pub finding_at : List ℕ → Spot → Finding
finding_at file spot = record { file = file; line = spot.0; col = spot.1; code = spot.2 }

abbrev pub spot_of : Diagnostic → Spot
spot_of d = (d.place.line, d.place.col, d.code)
