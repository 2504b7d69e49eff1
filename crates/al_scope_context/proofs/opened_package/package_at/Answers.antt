use Rattle.std.proofs.Common.{◌∙◌, List, map, ap}
use Rattle.al_overload_lookup.specs.Keys.{denoted}
use Rattle.al_overload_lookup.specs.declared.denoted.Names.{Names}
use Rattle.al_overload_lookup.specs.Lookups.{looked_up_all}
use Rattle.al_overload_lookup.specs.TextNames.{identifier_names}
use Rattle.al_tree.specs.DeclarationViews.{compound_model}
use Rattle.al_tree.specs.Lexemes.{identifier_label}
use Rattle.al_tree.specs.declared.names.Identifier.{Identifier}
use Rattle.al_scope_context.specs.UsesAt.{denoted_package, package_at}
use Rattle.al_scope_context.proofs.opened_package.package_at.Goals as goal

pub returns-clause-answered : goal.returns-clause-answered
unfolding package_at
returns-clause-answered g c t h =
    let answered = c.in_ok-names.ensures.answered t h in
    let name = compound_model c.args.name.now in
    (answered.0, c.in_ok-unit.ensures ∙ ap (λ (n : Names). denoted_package c.args.packages.now (denoted n) name) (answered.1 ∙ ap (λ (xs : List Identifier). looked_up_all t c.args.scope.now c.args.packages.now (identifier_names (identifier_label c.args.name.now.first) (map identifier_label xs))) c.as_slice-selectors.ensures.value))
