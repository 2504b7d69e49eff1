use Rattle.std.proofs.Common.{◌≤◌}
use Rattle.al_view_typed.specs.declared.expression.Form.{size-Form}
use Rattle.al_view_typed.specs.declared.expression.TypedName.{size-TypedName}
use Rattle.al_view_typed.proofs.+drop.Given as goal

abbrev pub invariant-expression::Form::drop-loop-self : goal.invariant-expression::Form::drop-loop-self
invariant-expression::Form::drop-loop-self l = size-Form l.self ≤ size-Form l.initial.self

abbrev pub invariant-expression::TypedName::drop-loop-self : goal.invariant-expression::TypedName::drop-loop-self
invariant-expression::TypedName::drop-loop-self l = size-TypedName l.self ≤ size-TypedName l.initial.self
