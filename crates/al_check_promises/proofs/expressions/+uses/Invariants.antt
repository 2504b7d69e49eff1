use Rattle.std.proofs.Common.{◌≡◌, ◌≤◌, drop}
use Rattle.std.specs.List.{list_all}
use Rattle.al_view_typed.specs.ExpressionViews.{actual_model, name_model, typed_model, value_model}
use Rattle.al_view_typed.specs.Uses.{actual_uses, name_uses, typed_uses, value_uses}
use Rattle.al_view_typed.specs.declared.expression.Typed.{size-Typed}
use Rattle.al_view_typed.specs.declared.expression.TypedName.{size-TypedName}
use Rattle.al_check_promises.proofs.expressions.+uses.Given as goal

abbrev pub invariant-values_pass-loop-value : goal.invariant-values_pass-loop-value
invariant-values_pass-loop-value g l =
    list_all (λ v. list_all (g.T.LinkTest.passing l.test) (value_uses (value_model v))) (drop l.value-index l.values)
    ≡ list_all (λ v. list_all (g.T.LinkTest.passing l.test) (value_uses (value_model v))) l.values

abbrev pub invariant-actuals_pass-loop-actual : goal.invariant-actuals_pass-loop-actual
invariant-actuals_pass-loop-actual g l =
    list_all (λ a. list_all (g.T.LinkTest.passing l.test) (actual_uses (actual_model a))) (drop l.actual-index l.actuals)
    ≡ list_all (λ a. list_all (g.T.LinkTest.passing l.test) (actual_uses (actual_model a))) l.actuals

abbrev pub invariant-typed_passes-loop-operands : goal.invariant-typed_passes-loop-operands
invariant-typed_passes-loop-operands g l =
    (list_all (g.T.LinkTest.passing l.test) (typed_uses (typed_model l.rest)) ≡ list_all (g.T.LinkTest.passing l.test) (typed_uses (typed_model l.fn.typed)))
    × (size-Typed l.rest ≤ size-Typed l.fn.typed)

abbrev pub decreases-typed_passes-loop-operands : goal.decreases-typed_passes-loop-operands
decreases-typed_passes-loop-operands g l = size-Typed l.rest

abbrev pub invariant-name_passes-loop-rest : goal.invariant-name_passes-loop-rest
invariant-name_passes-loop-rest g l =
    (list_all (g.T.LinkTest.passing l.test) (name_uses (name_model l.rest)) ≡ list_all (g.T.LinkTest.passing l.test) (name_uses (name_model l.fn.name)))
    × (size-TypedName l.rest ≤ size-TypedName l.fn.name)
