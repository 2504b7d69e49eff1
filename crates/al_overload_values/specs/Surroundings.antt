-- What is known at the places of expressions.
use Rattle.std.specs.Prelude.{List, Option}
use Rattle.al_base.specs.declared.unit_key.UnitKey.{UnitKey}
use Rattle.al_overload.specs.declared.everywhere.Predefined.{Predefined}
use Rattle.al_overload_lookup.specs.Lookups.{asked_units}
use Rattle.al_scope.specs.Places.{Place}
use Rattle.al_overload_values.specs.declared.site.Site.{Site}
use Rattle.al_view.specs.declared.symbol.Symbol.{Symbol}

-- the regions round the place, the packages that are mentioned in the unit, what every unit has, and the protected object in whose
-- bodies the place is
pub record Surroundings : Type 0 where
  pub place : Place
  pub packages : List UnitKey
  pub predefined : Predefined
  pub own : Option Symbol

abbrev pub site_model : Site → Surroundings
site_model s = record { place = s.scope.now; packages = s.packages.now; predefined = s.labeller.now.predefined; own = s.labeller.now.own }

-- the units that may be asked
abbrev pub site_units : Surroundings → List UnitKey
site_units s = asked_units s.place s.packages
