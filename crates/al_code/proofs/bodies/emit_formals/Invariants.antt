use Rattle.std.proofs.Common.{◌≡◌, take}
use Rattle.std.specs.List.{flat_map}
use Rattle.al_code.specs.Written.{written}
use Rattle.al_code.specs.Routines.{formal_code}
use Rattle.al_code.proofs.bodies.emit_formals.Given as goal

abbrev pub invariant-loop-formal : goal.invariant-loop-formal
invariant-loop-formal l = l.out ≡ written l.initial.out (flat_map (formal_code) (take l.formal-index l.formals))
