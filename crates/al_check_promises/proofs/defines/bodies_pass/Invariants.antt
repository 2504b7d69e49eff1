use Rattle.std.proofs.Common.{◌≡◌, drop}
use Rattle.std.specs.List.{list_all}
use Rattle.al_view_typed.specs.UnitTrees.{body_model}
use Rattle.al_view_typed.specs.Uses.{body_defines}
use Rattle.al_check_promises.proofs.defines.bodies_pass.Given as goal

abbrev pub invariant-loop-body : goal.invariant-loop-body
invariant-loop-body g l =
    list_all (λ x. list_all (g.T.LinkTest.passing l.test) (body_defines (body_model x).symbol (body_model x).kind)) (drop l.body-index l.bodies)
    ≡ list_all (λ x. list_all (g.T.LinkTest.passing l.test) (body_defines (body_model x).symbol (body_model x).kind)) l.bodies
