-- What may be known beforehand.
use Rattle.std.specs.Prelude.{◌≡◌, Bool, Option, Some, None, ⊤}

abbrev pub IsKnown : Option Bool → Bool → Type 0
IsKnown None fact = ⊤
IsKnown (Some known) fact = known ≡ fact
