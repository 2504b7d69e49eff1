-- Lists of units in which the same units are found.
use Rattle.std.specs.Prelude.{◌≡◌, List}
use Rattle.al_base.specs.declared.unit_key.UnitKey.{UnitKey}
use Rattle.al_query.specs.Known.{has_unit}

-- a unit is in either list or in none
abbrev pub AreAlike : List UnitKey → List UnitKey → Type 0
AreAlike us vs = (u : UnitKey) → has_unit us u ≡ has_unit vs u
