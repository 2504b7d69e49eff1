use Rattle.std.proofs.Common.{◌≡◌, fold, take}
use Rattle.al_view_predefined.specs.Operators.{with_operator}
use Rattle.al_view_predefined.proofs.operators.declare_group.Given as goal

-- the operators so far are declared
abbrev pub invariant-loop-operator : goal.invariant-loop-operator
invariant-loop-operator l = l.interface ≡ fold (with_operator l.of_type l.types l.profile l.elsewhere) l.fn.interface (take l.operator-index l.operators)
