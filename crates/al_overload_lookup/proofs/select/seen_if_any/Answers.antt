use Rattle.std.proofs.Common.{List, Option, Some, ap, ◌∙◌, sym}
use Rattle.std.specs.Prelude.{option_map}
use Rattle.al_query.proofs.AskLemmas.{asks_none}
use Rattle.al_query.specs.Asked.{OfKnown, by_some_name}
use Rattle.al_scope.specs.Places.{place_units}
use Rattle.al_scope.specs.Seen.{all_seen_at}
use Rattle.al_view.specs.declared.view.ViewKind.{ViewKind}
use Rattle.al_overload_lookup.proofs.select.seen_if_any.Goals as goal

pub returns-in_ok-seen-in-Some-clause-answered : goal.returns-in_ok-seen-in-Some-clause-answered
returns-in_ok-seen-in-Some-clause-answered g c t h =
    let answered = c.in_ok-seen-in-Some.ensures.answered t h in (
      answered.0,
      ap (λ (vs : List ViewKind). Some vs) (answered.1 ∙ ap (all_seen_at t c.args.scope.now) c.as_slice.ensures)
          ∙ ap (λ (o : Option (List ViewKind)). option_map (all_seen_at t c.args.scope.now) o) (sym c.in-Some.is),
    )

pub returns-in-None-clause-asks : goal.returns-in-None-clause-asks
returns-in-None-clause-asks g c = asks_none (OfKnown (place_units c.args.scope.now) by_some_name) c.args.recorder.now.log
