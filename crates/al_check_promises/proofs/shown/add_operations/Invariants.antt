use Rattle.std.proofs.Common.{take}
use Rattle.std.specs.List.{flat_map}
use Rattle.al_view.specs.ViewUses.{subprogram_uses}
use Rattle.al_check_promises.specs.Links.{Gains}
use Rattle.al_check_promises.proofs.shown.add_operations.Given as goal

abbrev pub invariant-loop-operation : goal.invariant-loop-operation
invariant-loop-operation l = Gains l.initial.set l.set (flat_map (λ o. subprogram_uses o.subprogram) (take l.operation-index l.operations))
