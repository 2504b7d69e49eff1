use Rattle.std.proofs.Common.{ℕ, List, map, ap, ◌∙◌}
use Rattle.std.specs.Prelude.{option_map}
use Rattle.al_view_typed.specs.DeclarationTrees.{component_value_model}
use Rattle.al_view_typed.specs.ExpressionViews.{typed_model}
use Rattle.al_decl_protected.specs.Components.{with_value}
use Rattle.al_decl_protected.proofs.Outcomes.{on_ok}
use Rattle.al_decl_protected.proofs.components.PrivateComponents.add_words.Goals as goal

pub returns-clause-values : goal.returns-clause-values
returns-clause-values c =
    on_ok c.add_value.result _ _
    (λ made. made ∙ ap (λ (p : List ℕ). with_value (map component_value_model c.args.self.now.values.items) c.args.of.now p (option_map typed_model c.args.value)) c.in_ok-places.ensures)
    c.add_value.ensures
