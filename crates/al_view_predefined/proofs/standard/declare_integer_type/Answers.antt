use Rattle.std.proofs.Common.{List, ℕ, [], codes, refl, ◌∙◌, ap}
use Rattle.al_view.specs.Interfaces.{with_view}
use Rattle.al_view_predefined.specs.Operators.{operators_of}
use Rattle.al_view_predefined.specs.Standard.{integer_definition, of_type}
use Rattle.al_view_predefined.proofs.OperatorLemmas.{with_operators-same}
use Rattle.al_view_predefined.proofs.standard.declare_integer_type.Goals as goal

pub returns : goal.returns
returns c =
    let named =
    c.in_ok-declare_type.ensures
    ∙ ap (λ (l : List (List ℕ)). with_view c.args.interface.now (codes "integer") (of_type c.args.types.now l)) c.in_ok-no_names.ensures in
    with_operators-same c.args.symbol.now c.args.symbol.now c.args.types.now c.args.types.now [] [] (with_view c.args.interface.now (codes "integer") (of_type c.args.types.now [])) c.declare_type.new.interface c.declare_integer_operators.new.interface (operators_of integer_definition) c.in_ok-declare_integer_operators.ensures refl refl refl named
