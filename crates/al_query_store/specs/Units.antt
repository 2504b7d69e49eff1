-- What a list of units with values has at a unit.
use Rattle.std.specs.Prelude.{List, Option}
use Rattle.std.specs.Map.{lookup}
use Rattle.al_base.specs.declared.unit_key.UnitKey.{UnitKey}
use Rattle.al_view.specs.Symbols.{same_unit}

-- the value at a unit; none if the list hasn't the unit
abbrev pub at_unit : {X : Type 0} → List (UnitKey × X) → UnitKey → Option X
at_unit pairs u = lookup (same_unit u) pairs
