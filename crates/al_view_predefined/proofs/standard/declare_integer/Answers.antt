use Rattle.std.proofs.Common.{◌≡◌, List, [], codes, refl, ◌∙◌, ap}
use Rattle.al_view.specs.declared.symbol.Symbol.{Symbol}
use Rattle.al_view.specs.declared.types.TypeView.{TypeView}
use Rattle.al_view.specs.Interfaces.{with_view}
use Rattle.al_view_predefined.specs.Operators.{operators_of}
use Rattle.al_view_predefined.specs.Standard.{integer, integer_definition, integer_types, of_type, scalar}
use Rattle.al_view_predefined.proofs.OperatorLemmas.{with_operators-same}
use Rattle.al_view_predefined.proofs.standard.declare_integer.Goals as goal

pub returns : goal.returns
returns c =
    let symbol : c.in_ok-symbol.symbol ≡ integer = c.in_ok-symbol.ensures in
    let types : c.in_ok-types.types ≡ integer_types = c.in_ok-types.ensures ∙ ap (λ (s : Symbol). scalar s integer_definition) symbol in
    with_operators-same integer c.in_ok-symbol.symbol integer_types c.in_ok-types.types [] [] (with_view c.args.interface.now (codes "integer") (of_type integer_types [])) (with_view c.args.interface.now (codes "integer") (of_type c.in_ok-types.types [])) c.declare_integer_type.new.interface (operators_of integer_definition) c.in_ok-declare_integer_type.ensures symbol types refl (ap (λ (l : List TypeView). with_view c.args.interface.now (codes "integer") (of_type l [])) types)
