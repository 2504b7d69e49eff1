use Rattle.std.proofs.Common.{Option, List, ap, ◌∙◌}
use Rattle.al_overload_lookup.specs.Lookups.{with_selected}
use Rattle.al_view.specs.declared.view.ViewKind.{ViewKind}
use Rattle.al_overload_lookup.proofs.select.add_selected.Goals as goal

pub returns-clause-answered : goal.returns-clause-answered
returns-clause-answered g c t h =
    let answered = c.in_ok-found.ensures.answered t h in
    (answered.0, c.in_ok-put_selected.ensures ∙ ap (λ (o : Option (List ViewKind)). with_selected c.args.key.now c.args.view.now c.args.names.now o) answered.1)
