use Rattle.std.proofs.Common.{◌≡◌, map, take}
use Rattle.al_code.specs.ObjectOf.{region_of}
use Rattle.al_code.proofs.object.regions_of.Given as goal

abbrev pub invariant-loop-object : goal.invariant-loop-object
invariant-loop-object l = l.regions.items ≡ map region_of (take l.object-index l.objects)
