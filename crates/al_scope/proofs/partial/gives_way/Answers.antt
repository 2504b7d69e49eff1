use Rattle.std.proofs.Common.{◌∙◌, false, Option, ap}
use Rattle.std.specs.List.{list_any}
use Rattle.std.specs.Option.{option_map_or}
use Rattle.al_view.specs.declared.symbol.Symbol.{Symbol}
use Rattle.al_scope.specs.PartialViews.{is_full_view}
use Rattle.al_scope.proofs.partial.gives_way.Goals as goal

pub returns-in-Some : goal.returns-in-Some
returns-in-Some c = c.has_full_view.ensures ∙ ap (λ (o : Option Symbol). option_map_or (λ (s : Symbol). list_any (is_full_view s) c.args.views.now) o false) c.in-Some.ensures
