use Rattle.std.proofs.Common.{◌≡◌, map, take}
use Rattle.al_engine.specs.ObjectsSeen.{left_model, object_model}
use Rattle.al_engine.proofs.linking.left.Given as goal

abbrev pub invariant-loop-unit : goal.invariant-loop-unit
invariant-loop-unit l = map left_model l.left.items ≡ map object_model (take l.unit-index l.objects)
