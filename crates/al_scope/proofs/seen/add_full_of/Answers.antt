use Rattle.std.proofs.Common.{◌++◌, [], ◌∷◌, List, ℕ, Option, ap, ◌∙◌}
use Rattle.al_query.proofs.AskLemmas.{asks_of-units, asks_of-wider, by_name-some}
use Rattle.al_query.specs.Asked.{by_name, by_some_name}
use Rattle.al_scope.specs.Expanded.{unit_parts, within_unit}
use Rattle.al_scope.specs.Places.{is_within, part_units, place_units}
use Rattle.al_view.specs.declared.view.DeclaredType.{DeclaredType}
use Rattle.al_view.specs.declared.view.ViewKind.{ViewKind}
use Rattle.al_scope.specs.Seen.{full_in, recast_by}
use Rattle.al_scope.proofs.Asked.{found-among}
use Rattle.al_scope.proofs.Outcomes.{on_ok}
use Rattle.al_scope.proofs.seen.add_full_of.Goals as goal

pub returns-clause-answered : goal.returns-clause-answered
returns-clause-answered g c =
    let s = c.args.symbol.now in
    let place = c.args.scope.now in
    on_ok c.add_by.result _ _
    (λ new t h.
    let answered = c.in_ok-views.ensures.answered t h in (
      answered.0,
      new
          ∙ ap (λ (o : Option DeclaredType). c.args.recasts.now ++ recast_by o)
          (c.full_in.ensures ∙ ap (λ (vs : List ViewKind). full_in vs s) (c.as_slice-2.ensures ∙ answered.1 ∙ ap (λ (n : List ℕ). within_unit t n s.unit place) c.as_slice.ensures)),
    ))
    c.add_by.ensures

pub returns-clause-asks : goal.returns-clause-asks
returns-clause-asks g c =
    let s = c.args.symbol.now in
    let place = c.args.scope.now in
    let names = c.as_slice.result.now ∷ [] in
    on_ok c.add_by.result _ _
    (λ new.
    asks_of-wider (place_units place) (by_name names) by_some_name c.args.recorder.now.log c.within_unit.new.recorder.log (by_name-some names)
    (asks_of-units (part_units (unit_parts s.unit place)) (place_units place) (by_name names) c.args.recorder.now.log c.within_unit.new.recorder.log (found-among (is_within s.unit) place) c.in_ok-views.ensures.asks))
    c.add_by.ensures
