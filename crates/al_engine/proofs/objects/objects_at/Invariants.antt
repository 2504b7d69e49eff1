use Rattle.std.proofs.Common.{◌≡◌, map, take}
use Rattle.al_query_store.specs.Keyed.{now_at}
use Rattle.al_engine_refresh.specs.Builds.{results_of}
use Rattle.al_engine.specs.Objects.{objects_at}
use Rattle.al_engine.specs.ObjectsSeen.{object_model}
use Rattle.al_engine.proofs.objects.objects_at.Given as goal

abbrev pub invariant-loop-unit : goal.invariant-loop-unit
invariant-loop-unit l = map object_model l.objects.items ≡ objects_at (results_of (now_at l.entries)) (take l.unit-index l.units)
