use Rattle.std.proofs.Common.{◌≡◌}
use Rattle.al_stmts.specs.Simple.{is_variable}
use Rattle.al_view_typed.specs.ExpressionViews.{name_model}
use Rattle.al_stmts.proofs.target.is_variable.Given as goal

abbrev pub invariant-loop-rest : goal.invariant-loop-rest
invariant-loop-rest l = is_variable (name_model l.rest) ≡ is_variable (name_model l.name)
