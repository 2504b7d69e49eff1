use Rattle.std.proofs.Common.{Bool, ap, sym, ◌∙◌, if◌then◌else◌}
use Rattle.al_tree.specs.DeclarationViews.{specification_model}
use Rattle.al_check_declared.specs.HeadsHere.{nested_head}
use Rattle.al_check_declared.specs.ObjectsHere.{operation_head}
use Rattle.al_check_declared.proofs.Composed.{if_ok}
use Rattle.al_check_declared.proofs.heads.inner_head.Goals as goal

pub returns-then-is_operation-clause-answered : goal.returns-then-is_operation-clause-answered
returns-then-is_operation-clause-answered g c =
    let s = c.args.state.now in
    let text = specification_model c.args.specification.now in
    if_ok c.operation_head.result _ _
    (λ effects answered t h.
    let read = answered t h in (read.0, read.1 ∙ ap (λ (b : Bool). if b then operation_head t s text else nested_head t s text) (sym c.if-is_operation.true ∙ c.is_operation.ensures)))
    c.operation_head.ensures.answered

pub returns-clause-answered : goal.returns-clause-answered
returns-clause-answered g c =
    let s = c.args.state.now in
    let text = specification_model c.args.specification.now in
    if_ok c.nested_head.result _ _
    (λ effects answered t h.
    let read = answered t h in (read.0, read.1 ∙ ap (λ (b : Bool). if b then operation_head t s text else nested_head t s text) (sym c.if-is_operation.false ∙ c.is_operation.ensures)))
    c.nested_head.ensures.answered
