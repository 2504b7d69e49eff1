use Rattle.std.proofs.Common.{◌++◌, ◌∙◌, ◌||◌, ap}
use Rattle.al_scope.specs.UnitPlaces.{own_declaration, sees_all, some_private}
use Rattle.al_scope.proofs.UnitPlaceLemmas.{asks-same}
use Rattle.al_scope.proofs.unit_place.sees_private_parts.Goals as goal

pub returns-clause-answered : goal.returns-clause-answered
returns-clause-answered g c t h =
    let answered = c.in_ok-sees.ensures.answered t h in
    let own = c.args.own.now in
    let units = c.as_slice.ensures.value ∙ c.in_ok-add_declaration.ensures.is ∙ ap (λ l. l ++ own_declaration own.unit) c.new-units.ensures.items in
    (answered.0, answered.1 ∙ ap (λ b. b || some_private t c.as_slice.result.now) c.sees_all_parts.ensures ∙ ap (λ us. sees_all own || some_private t us) units)

pub returns-clause-asks : goal.returns-clause-asks
returns-clause-asks g c =
    let own = c.args.own.now in
    let units = c.as_slice.ensures.value ∙ c.in_ok-add_declaration.ensures.is ∙ ap (λ l. l ++ own_declaration own.unit) c.new-units.ensures.items in
    asks-same c.as_slice.result.now (own_declaration own.unit) c.args.recorder.now.log c.sees_private_part.new.recorder.log units c.in_ok-sees.ensures.asks
