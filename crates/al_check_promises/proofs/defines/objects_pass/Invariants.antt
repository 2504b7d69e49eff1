use Rattle.std.proofs.Common.{◌≡◌, drop}
use Rattle.std.specs.List.{list_all}
use Rattle.al_view_typed.specs.Uses.{protected_defines}
use Rattle.al_check_promises.proofs.defines.objects_pass.Given as goal

abbrev pub invariant-loop-object : goal.invariant-loop-object
invariant-loop-object g l =
    list_all (λ x. list_all (g.T.LinkTest.passing l.test) (protected_defines x)) (drop l.object-index l.objects)
    ≡ list_all (λ x. list_all (g.T.LinkTest.passing l.test) (protected_defines x)) l.objects
