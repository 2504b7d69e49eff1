use Rattle.std.proofs.Common.{◌∙◌, Option, ap}
use Rattle.std.specs.Option.{option_and_then}
use Rattle.al_view.specs.declared.view.ViewKind.{ViewKind}
use Rattle.al_scope.specs.Seen.{type_in}
use Rattle.al_scope.proofs.seen.full_in.Goals as goal

pub returns-in-Some : goal.returns-in-Some
returns-in-Some c = c.type_in.ensures ∙ ap (λ (o : Option ViewKind). option_and_then type_in o) c.in-Some.ensures

pub returns-in-None : goal.returns-in-None
returns-in-None c = ap (λ (o : Option ViewKind). option_and_then type_in o) c.in-None.ensures
