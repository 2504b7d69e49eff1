use Rattle.std.proofs.Common.{◌≡◌, take, map}
use Rattle.al_link.specs.Linking.{places_of}
use Rattle.al_link.specs.Units.{located_model}
use Rattle.al_link.proofs.places.Places.of.Given as goal

abbrev pub invariant-loop-unit : goal.invariant-loop-unit
invariant-loop-unit l = l.places ≡ places_of (map located_model (take l.unit-index l.units))
