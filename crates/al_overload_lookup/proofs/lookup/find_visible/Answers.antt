use Rattle.std.proofs.Common.{[], ◌∷◌, List, ap, ◌∙◌}
use Rattle.al_overload_lookup.specs.declared.denoted.Names.{Names}
use Rattle.al_overload_lookup.specs.Lookups.{with_views}
use Rattle.al_query.proofs.AskLemmas.{asks_of-wider, asks_then, by_name-some}
use Rattle.al_query.specs.Asked.{OfKnown, by_name, by_some_name}
use Rattle.al_scope.specs.Places.{place_units}
use Rattle.al_scope.specs.Seen.{all_seen_at}
use Rattle.al_view.specs.Named.{Declarations}
use Rattle.al_view.specs.declared.view.ViewKind.{ViewKind}
use Rattle.al_overload_lookup.proofs.lookup.find_visible.Goals as goal

pub returns-clause-answered : goal.returns-clause-answered
returns-clause-answered g c t h =
    let seen = c.in_ok-found-2.ensures.answered t h in
    let answered = c.in_ok-found.ensures.answered t seen.0 in
    let put : Declarations → Names = λ d. record { visible = d; prefixes = c.args.names.now.prefixes } in
    (answered.0, ap put (c.in_ok-add_views.ensures ∙ ap (λ (vs : List ViewKind). with_views c.args.names.now.visible c.args.name.now vs) (c.as_slice-2.ensures ∙ seen.1 ∙ ap (all_seen_at t c.args.scope.now) (c.as_slice.ensures ∙ answered.1))))

pub returns-clause-asks : goal.returns-clause-asks
returns-clause-asks g c =
    let units = place_units c.args.scope.now in
    asks_then (OfKnown units by_some_name) c.args.recorder.now.log c.visible.new.recorder.log c.all_seen_at.new.recorder.log
    (asks_of-wider units (by_name (c.args.name.now ∷ [])) by_some_name c.args.recorder.now.log c.visible.new.recorder.log (by_name-some (c.args.name.now ∷ [])) c.in_ok-found.ensures.asks)
    c.in_ok-found-2.ensures.asks
