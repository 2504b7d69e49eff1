use Rattle.std.proofs.Common.{◌≡◌, take}
use Rattle.std.specs.List.{flat_map}
use Rattle.al_view_typed.specs.UnitTrees.{body_model}
use Rattle.al_code.specs.Written.{written}
use Rattle.al_code.specs.Routines.{body_code}
use Rattle.al_code.proofs.object.emit_bodies.Given as goal

abbrev pub invariant-loop-body : goal.invariant-loop-body
invariant-loop-body l = l.out ≡ written l.initial.out (flat_map (λ x. body_code (body_model x)) (take l.body-index l.bodies))
