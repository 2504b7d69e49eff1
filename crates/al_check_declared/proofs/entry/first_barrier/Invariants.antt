use Rattle.std.proofs.Common.{◌≡◌, drop, map}
use Rattle.al_check_declared.specs.Barriers.{first_barrier}
use Rattle.al_tree.specs.StatementViews.{operation_bodies_of, operation_body_model}
use Rattle.al_check_declared.proofs.entry.first_barrier.Given as goal

abbrev pub invariant-loop-body : goal.invariant-loop-body
invariant-loop-body l =
    first_barrier l.object (operation_bodies_of (map operation_body_model (drop l.body-index l.bodies))) ≡ first_barrier l.object (operation_bodies_of (map operation_body_model l.bodies))
