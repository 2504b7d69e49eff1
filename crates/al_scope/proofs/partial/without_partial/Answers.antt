use Rattle.std.proofs.Common.{◌≡◌, List, false, sym, ap, ◌∙◌, rules}
use Rattle.std.specs.List.{list_any}
use Rattle.al_view.specs.declared.view.ViewKind.{ViewKind}
use Rattle.al_scope.specs.PartialViews.{gives_way}
use Rattle.al_scope.proofs.PartialLemmas.{all-stay}
use Rattle.al_scope.proofs.partial.without_partial.Goals as goal

pub returns-then-not-some_give_way-clause-is : goal.returns-then-not-some_give_way-clause-is
returns-then-not-some_give_way-clause-is c =
    let none : c.some_give_way.result ≡ false = search rules in
    sym (all-stay (gives_way c.args.views) c.args.views (ap (λ (l : List ViewKind). list_any (gives_way l) l) (sym c.as_slice.ensures) ∙ sym c.some_give_way.ensures ∙ none))
