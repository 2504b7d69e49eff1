use Rattle.std.proofs.Common.{◌∙◌, Bool, List, ap}
use Rattle.al_view.specs.declared.view.ViewKind.{ViewKind}
use Rattle.al_scope_context.specs.Contexts.{declared_if, is_new_root}
use Rattle.al_scope_context.proofs.context.add_root.Goals as goal

pub returns-clause-answered : goal.returns-clause-answered
returns-clause-answered g c t h =
    let answered = c.in_ok-views.ensures.answered t h in
    let name = c.args.name.now in
    (answered.0, c.in_ok-declare_if.ensures.declared ∙ ap (λ (b : Bool). declared_if b c.args.view.now name c.args.scope.now) (c.is_new_root-new.ensures ∙ ap (λ (vs : List ViewKind). is_new_root name vs) (c.as_slice.ensures ∙ answered.1)))
