use Rattle.std.proofs.Common.{ℕ, List, false, Option, ap, ◌∙◌}
use Rattle.std.specs.Option.{option_map_or}
use Rattle.al_view.specs.declared.view.ViewKind.{ViewKind}
use Rattle.al_scope.specs.PartialViews.{has_incomplete}
use Rattle.al_scope.proofs.partial.is_incomplete_at.Goals as goal

pub returns-in-Some : goal.returns-in-Some
returns-in-Some c = c.has_incomplete.ensures ∙ ap (λ (o : Option (List ℕ × List ViewKind)). option_map_or (λ (named : List ℕ × List ViewKind). has_incomplete named.1) o false) c.in-Some.ensures

pub returns-in-None : goal.returns-in-None
returns-in-None c = ap (λ (o : Option (List ℕ × List ViewKind)). option_map_or (λ (named : List ℕ × List ViewKind). has_incomplete named.1) o false) c.in-None.ensures
