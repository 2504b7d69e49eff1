use Rattle.std.proofs.Common.{List, map, sym, ap, ◌∙◌}
use Rattle.al_overload_lookup.specs.Lookups.{looked_up_all}
use Rattle.al_overload_lookup.specs.TextNames.{identifier_names}
use Rattle.al_overload_lookup.specs.declared.name.TextName.{TextName}
use Rattle.al_overload_values.proofs.Compounds.{names_of_text}
use Rattle.al_tree.specs.Lexemes.{identifier_label}
use Rattle.al_tree.specs.declared.names.Identifier.{Identifier}
use Rattle.al_overload_values.proofs.compound.names_of_name.Goals as goal

pub returns-clause-answered : goal.returns-clause-answered
returns-clause-answered g c t h =
    let answered = c.in_ok-names.ensures.answered t h in
    let first = identifier_label c.args.name.now.first in (
      answered.0,
      answered.1
          ∙ ap (λ (xs : List Identifier). looked_up_all t c.args.scope.now c.args.packages.now (identifier_names first (map identifier_label xs))) c.as_slice-selectors.ensures.value
          ∙ ap (λ (ns : List TextName). looked_up_all t c.args.scope.now c.args.packages.now ns) (sym (names_of_text first (map identifier_label c.args.name.now.selectors.items))),
    )
