use Rattle.std.proofs.Common.{Bool, ap, sym, ◌∙◌, if◌then◌else◌}
use Rattle.al_check_here.specs.PartsHere.{private_begun}
use Rattle.al_scope.specs.UnitPlaces.{private_regions}
use Rattle.al_check_declared.specs.DeclarationsHere.{with_regions}
use Rattle.al_check_declared.proofs.bodies.enter_private.Goals as goal

pub returns-then-is_nowhere-clause-answered : goal.returns-then-is_nowhere-clause-answered
returns-then-is_nowhere-clause-answered g c t h =
    let s = c.args.state.now in (
      h,
      c.begin_private.ensures
          ∙ ap (λ (b : Bool). private_begun (if b then s else with_regions s (private_regions t s.unit.own s.env.scope.regions))) (sym c.if-is_nowhere.true ∙ c.is_nowhere.ensures),
    )

pub returns-clause-answered : goal.returns-clause-answered
returns-clause-answered g c t h =
    let s = c.args.state.now in
    let read = c.in_ok-open_ancestors.ensures.answered t h in (
      read.0,
      c.begin_private-2.ensures ∙ ap private_begun read.1
          ∙ ap (λ (b : Bool). private_begun (if b then s else with_regions s (private_regions t s.unit.own s.env.scope.regions))) (sym c.if-is_nowhere.false ∙ c.is_nowhere.ensures),
    )
