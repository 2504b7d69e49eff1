-- Operators of equal types after equal declarations.
use Rattle.std.proofs.Common.{◌≡◌, List, ◌∙◌, ap}
use Rattle.al_view.specs.declared.symbol.Symbol.{Symbol}
use Rattle.al_view.specs.declared.types.TypeView.{TypeView}
use Rattle.al_view.specs.Named.{Declarations}
use Rattle.al_view_predefined.specs.Operators.{Group, with_operators}

pub with_operators-same : (t u : Symbol) (types others : List TypeView) (elsewhere outside declared before new : Declarations) (groups : List Group) → new ≡ with_operators u others outside before groups → u ≡ t → others ≡ types → outside ≡ elsewhere → before ≡ declared → new ≡ with_operators t types elsewhere declared groups
with_operators-same t u types others elsewhere outside declared before new groups is symbol same apart after =
    is
    ∙ ap (λ (s : Symbol). with_operators s others outside before groups) symbol
    ∙ ap (λ (l : List TypeView). with_operators t l outside before groups) same
    ∙ ap (λ (o : Declarations). with_operators t types o before groups) apart
    ∙ ap (λ (d : Declarations). with_operators t types elsewhere d groups) after
