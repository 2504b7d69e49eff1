use Rattle.std.proofs.Common.{◌≡◌, [], refl, ◌∙◌, ap}
use Rattle.al_view.specs.declared.symbol.Symbol.{Symbol}
use Rattle.al_view_predefined.specs.Operators.{operators_of}
use Rattle.al_view_predefined.specs.Standard.{scalar}
use Rattle.al_view_predefined.specs.StandardTypes.{root_definition, root_integer, root_types}
use Rattle.al_view_predefined.proofs.OperatorLemmas.{with_operators-same}
use Rattle.al_view_predefined.proofs.types.declare_root_operators.Goals as goal

pub returns : goal.returns
returns c =
    let symbol : c.in_ok-symbol.symbol ≡ root_integer = c.in_ok-symbol.ensures in
    let types : c.in_ok-types.types ≡ root_types = c.in_ok-types.ensures ∙ ap (λ (s : Symbol). scalar s root_definition) symbol in
    with_operators-same root_integer c.in_ok-symbol.symbol root_types c.in_ok-types.types [] [] c.args.interface.now c.args.interface.now c.declare_integer_operators.new.interface (operators_of root_definition) c.in_ok-declare_integer_operators.ensures symbol types refl refl
