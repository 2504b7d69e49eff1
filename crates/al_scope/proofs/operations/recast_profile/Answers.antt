use Rattle.std.proofs.Common.{sym, ◌∙◌}
use Rattle.al_scope.proofs.Outcomes.{if_ok}
use Rattle.al_scope.proofs.Stays.{of-operator, of-other}
use Rattle.al_scope.proofs.operations.recast_profile.Goals as goal

pub returns-then-is_operator : goal.returns-then-is_operator
returns-then-is_operator c =
    if_ok c.recast_each.result _ _
    (λ made e. e ∙ of-operator c.args.recasts.now c.args.call.now c.args.of.now (sym c.is_operator.ensures ∙ c.if-is_operator.true))
    c.recast_each.ensures

pub returns : goal.returns
returns c =
    if_ok c.recast_each-2.result _ _
    (λ made e. e ∙ of-other c.args.recasts.now c.args.call.now c.args.of.now (sym c.is_operator.ensures ∙ c.if-is_operator.false))
    c.recast_each-2.ensures
