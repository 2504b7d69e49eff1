-- The linker's condition: what is looked up is defined.
use Rattle.std.specs.Prelude.{◌≡◌, false, List, map}
use Rattle.std.specs.List.{Contains, flat_map}
use Rattle.al_view.specs.declared.link.LinkSymbol.{LinkSymbol}
use Rattle.al_link.specs.Partitions.{compiled_units, some_large}
use Rattle.al_link.specs.Units.{UnitObject}
use Rattle.al_link.specs.declared.linking.CompiledUnit.{CompiledUnit}

-- what units define, and what their code uses
abbrev pub defined_in : List UnitObject → List LinkSymbol
defined_in us = flat_map (λ u. map (λ a. a.symbol) u.object.defines) us

abbrev pub used_in : List UnitObject → List LinkSymbol
used_in us = flat_map (λ u. map (λ r. r.symbol) u.object.uses) us

-- the main subprogram's code and all that the units' code uses are defined
pub record AreClosed (main : LinkSymbol) (us : List UnitObject) : Type 0 where
  pub main_defined : Contains (defined_in us) main
  pub all_defined : (x : LinkSymbol) → Contains (used_in us) x → Contains (defined_in us) x

-- this holds if each unit has an object; else there is no image
abbrev pub AreClosedUnits : LinkSymbol → List CompiledUnit → Type 0
AreClosedUnits main us = some_large us ≡ false → AreClosed main (compiled_units us)
