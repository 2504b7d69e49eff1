use Rattle.std.proofs.Common.{◌≡◌, drop}
use Rattle.std.specs.List.{list_all}
use Rattle.al_view_typed.specs.UnitTrees.{body_model}
use Rattle.al_view_typed.specs.Uses.{body_uses}
use Rattle.al_check_promises.specs.Rules.{permits}
use Rattle.al_check_promises.proofs.units.bodies_pass.Given as goal

abbrev pub invariant-loop-body : goal.invariant-loop-body
invariant-loop-body l =
    list_all (λ x. list_all (permits l.test) (body_uses (body_model x))) (drop l.body-index l.bodies)
    ≡ list_all (λ x. list_all (permits l.test) (body_uses (body_model x))) l.bodies
