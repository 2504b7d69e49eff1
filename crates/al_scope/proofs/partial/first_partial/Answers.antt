use Rattle.std.proofs.Common.{◌∙◌, Option, ap}
use Rattle.std.specs.Option.{option_and_then}
use Rattle.al_view.specs.declared.view.ViewKind.{ViewKind}
use Rattle.al_scope.specs.PartialViews.{partial_type}
use Rattle.al_scope.proofs.partial.first_partial.Goals as goal

pub returns-in-Some : goal.returns-in-Some
returns-in-Some c = c.partial_type.ensures ∙ ap (λ (o : Option ViewKind). option_and_then partial_type o) c.in-Some.ensures

pub returns-in-None : goal.returns-in-None
returns-in-None c = ap (λ (o : Option ViewKind). option_and_then partial_type o) c.in-None.ensures
