use Rattle.std.proofs.Common.{◌≡◌, ◌≤◌, length, drop, map}
use Rattle.al_view_typed.specs.ExpressionViews.{actual_model, actuals_of}
use Rattle.al_code.specs.Written.{written}
use Rattle.al_code.specs.Templates.{copies_code}
use Rattle.al_code.proofs.calls.emit_copies.Given as goal

abbrev pub invariant-loop-rest : goal.invariant-loop-rest
invariant-loop-rest l = record { within : l.rest ≤ length l.actuals; now : l.out ≡ written l.initial.out (copies_code (actuals_of (map actual_model (drop l.rest l.actuals)))) }

abbrev pub decreases-loop-rest : goal.decreases-loop-rest
decreases-loop-rest l = l.rest
