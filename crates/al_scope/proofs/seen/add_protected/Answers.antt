use Rattle.std.proofs.Common.{◌++◌, ◌∙◌, List, ap}
use Rattle.al_query.proofs.AskLemmas.{asks_then}
use Rattle.al_query.specs.Asked.{OfKnown, by_some_name}
use Rattle.al_scope.specs.Places.{place_units}
use Rattle.al_view.specs.declared.types.TypeView.{TypeView}
use Rattle.al_view.specs.declared.view.Operation.{Operation}
use Rattle.al_scope.specs.Recasts.{operation_types}
use Rattle.al_scope.specs.Seen.{full_if_private, full_views}
use Rattle.al_scope.proofs.Lists.{both_more}
use Rattle.al_scope.proofs.seen.add_protected.Goals as goal

pub returns-clause-answered : goal.returns-clause-answered
returns-clause-answered g c t h =
    let later = c.in_ok-add_operations.ensures.answered t h in
    let first = c.in_ok-add_fulls.ensures.answered t later.0 in
    let place = c.args.scope.now in (
      first.0,
      both_more (full_if_private t place) c.args.recasts.now c.add_fulls.new.recasts c.add_operations.new.recasts c.args.of.now.types (operation_types c.args.of.now.operations)
          (first.1 ∙ ap (λ (ts : List TypeView). c.args.recasts.now ++ full_views t place ts) c.as_slice.ensures)
          (later.1 ∙ ap (λ (os : List Operation). c.add_fulls.new.recasts ++ full_views t place (operation_types os)) c.as_slice-2.ensures),
    )

pub returns-clause-asks : goal.returns-clause-asks
returns-clause-asks g c =
    asks_then (OfKnown (place_units c.args.scope.now) by_some_name) c.args.recorder.now.log c.add_fulls.new.recorder.log c.add_operations.new.recorder.log c.in_ok-add_fulls.ensures.asks c.in_ok-add_operations.ensures.asks
