use Rattle.std.proofs.Common.{map, ap, ◌∙◌}
use Rattle.al_view_typed.specs.DeclarationTrees.{component_value_model}
use Rattle.al_decl_protected.proofs.Outcomes.{on_ok}
use Rattle.al_decl_protected.proofs.Placed.{Placed, placed_so}
use Rattle.al_decl_protected.proofs.object.place_object.Goals as goal

pub returns-clause-env : goal.returns-clause-env
returns-clause-env c =
    let parts = c.args.parts.components in
    on_ok c.place.result _ _
    (λ left. left ∙ ap (λ (x : Placed). x.0) (placed_so c.args.env.now _ _ _ _ _ _ _ _ c.in_ok-take_protected.ensures c.as_slice.ensures (c.in_ok-view.ensures parts.words (map component_value_model parts.values.items)) c.object_effect-effect.ensures))
    c.place.ensures.env
