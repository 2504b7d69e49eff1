use Rattle.std.proofs.Common.{◌≡◌, ◌++◌, map, take}
use Rattle.al_code.specs.ObjectOf.{place_address}
use Rattle.al_code.proofs.object.add_places.Given as goal

abbrev pub invariant-loop-place : goal.invariant-loop-place
invariant-loop-place l = l.defines.items ≡ l.initial.defines.items ++ map (place_address l.kind) (take l.place-index l.places)
