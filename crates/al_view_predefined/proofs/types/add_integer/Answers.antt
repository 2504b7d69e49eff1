use Rattle.std.proofs.Common.{◌∷◌, [], ◌++◌, ◌∙◌, ap}
use Rattle.al_view.specs.declared.symbol.Symbol.{Symbol}
use Rattle.al_view.specs.declared.types.TypeView.{TypeView}
use Rattle.al_view_predefined.specs.Standard.{integer_definition, scalar}
use Rattle.al_view_predefined.proofs.types.add_integer.Goals as goal

pub returns : goal.returns
returns c =
    c.in_ok-push.ensures
    ∙ ap (λ (t : TypeView). c.args.types.now ++ t ∷ []) c.one.ensures
    ∙ ap (λ (s : Symbol). c.args.types.now ++ scalar s integer_definition) c.in_ok-symbol.ensures
