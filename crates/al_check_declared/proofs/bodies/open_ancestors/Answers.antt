use Rattle.std.proofs.Common.{ap}
use Rattle.al_check_here.specs.Standings.{with_here}
use Rattle.al_decl.specs.Regions.{in_regions}
use Rattle.al_scope.specs.Places.{Place}
use Rattle.al_scope.specs.UnitPlaces.{private_regions}
use Rattle.al_check_declared.proofs.Composed.{on_if_ok, place-is}
use Rattle.al_check_declared.proofs.bodies.open_ancestors.Goals as goal

pub returns-clause-answered : goal.returns-clause-answered
returns-clause-answered g c =
    let s = c.args.state.now in
    on_if_ok c.enter_private_part.result _ _
    (λ answered t h.
    let read = answered t h in
    let place = place-is c.enter_private_part.new.scope (in_regions s.env.scope (private_regions t s.unit.own s.env.scope.regions)) c.enter_private_part.ensures.mentioned read.1 in
    (read.0, ap (λ (p : Place). with_here s (record s.env { scope = p })) place))
    c.enter_private_part.ensures.answered
