use Rattle.std.proofs.Common.{Option, Result, ap, ◌∙◌}
use Rattle.al_decl_judged.specs.Objects.{objects_declared}
use Rattle.al_base_fault.specs.declared.fault.Fault.{Fault}
use Rattle.al_view_typed.specs.ExpressionTrees.{TypedTree}
use Rattle.al_decl.proofs.Chains.{if_ok}
use Rattle.al_decl.proofs.object.valued.Goals as goal

pub returns-in-Ok-clause-answered : goal.returns-in-Ok-clause-answered
returns-in-Ok-clause-answered g c =
    let p = c.args.env.now.progress in
    if_ok c.declare_objects.result _ _
    (λ checked made t agrees.
    let value = c.in-Ok.ensures.answered t agrees in
    (value.0, made ∙ ap (λ (v : Option (Result TypedTree Fault)). objects_declared p c.args.line c.args.is_constant c.args.duplicate c.args.names.now c.args.objects v) value.1))
    c.declare_objects.ensures
