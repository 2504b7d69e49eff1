use Rattle.std.proofs.Common.{◌≡◌, map, take}
use Rattle.al_engine.specs.ObjectsSeen.{object_model}
use Rattle.al_engine.proofs.linking.objects_with.Given as goal

abbrev pub invariant-loop-one : goal.invariant-loop-one
invariant-loop-one l = map object_model l.objects.items ≡ map object_model (take l.one-index l.before)
