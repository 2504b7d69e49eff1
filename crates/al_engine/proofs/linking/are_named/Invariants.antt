use Rattle.std.proofs.Common.{◌≡◌, true, map, take}
use Rattle.std.specs.List.{list_all}
use Rattle.al_engine.specs.Objects.{is_unit_name}
use Rattle.al_engine.specs.ObjectsSeen.{object_model}
use Rattle.al_engine.proofs.linking.are_named.Given as goal

abbrev pub invariant-loop-unit : goal.invariant-loop-unit
invariant-loop-unit l = list_all (λ u. is_unit_name u.0.name) (map object_model (take l.unit-index l.objects)) ≡ true
