use Rattle.std.proofs.Common.{take}
use Rattle.std.specs.List.{flat_map}
use Rattle.al_view_typed.specs.UnitTrees.{body_model}
use Rattle.al_view_typed.specs.Uses.{body_defines}
use Rattle.al_check_promises.specs.Links.{Gains}
use Rattle.al_check_promises.proofs.defines.add_bodies.Given as goal

abbrev pub invariant-loop-body : goal.invariant-loop-body
invariant-loop-body l = Gains l.initial.set l.set (flat_map (λ b. body_defines (body_model b).symbol (body_model b).kind) (take l.body-index l.bodies))
