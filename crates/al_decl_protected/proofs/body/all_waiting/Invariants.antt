use Rattle.std.proofs.Common.{◌≡◌, take}
use Rattle.al_decl_protected.specs.Bodies.{all_waiting}
use Rattle.al_decl_protected.proofs.body.all_waiting.Given as goal

abbrev pub invariant-loop-operation : goal.invariant-loop-operation
invariant-loop-operation l = l.uncompleted ≡ all_waiting (take l.operation-index l.operations)
