use Rattle.std.proofs.Common.{take}
use Rattle.std.specs.List.{flat_map}
use Rattle.al_view_typed.specs.Uses.{protected_defines}
use Rattle.al_check_promises.specs.Links.{Gains}
use Rattle.al_check_promises.proofs.defines.add_objects.Given as goal

abbrev pub invariant-loop-object : goal.invariant-loop-object
invariant-loop-object l = Gains l.initial.set l.set (flat_map (protected_defines) (take l.object-index l.objects))
