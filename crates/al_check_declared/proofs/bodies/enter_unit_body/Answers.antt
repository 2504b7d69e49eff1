use Rattle.std.proofs.Common.{Bool, Some, ap, sym, ◌∙◌, if◌then◌else◌}
use Rattle.al_check_here.specs.BodiesHere.{whole_entered}
use Rattle.al_check_here.specs.declared.state.AnalyzedHeading.{AnalyzedHeading}
use Rattle.al_check_here.specs.declared.state.CheckState.{CheckState}
use Rattle.al_scope.specs.UnitPlaces.{private_regions}
use Rattle.al_check_declared.specs.DeclarationsHere.{with_regions}
use Rattle.al_check_declared.specs.EnteredHere.{visible_heading}
use Rattle.al_check_declared.proofs.Composed.{on_ok}
use Rattle.al_check_declared.proofs.bodies.enter_unit_body.Goals as goal

pub returns-then-is_nowhere-clause-answered : goal.returns-then-is_nowhere-clause-answered
returns-then-is_nowhere-clause-answered g c t h =
    let s = c.args.state.now in
    let kept : CheckState = record s { pending = Some c.args.read } in
    let inner = with_regions kept (private_regions t s.unit.own s.env.scope.regions) in
    (h, ap (λ (b : Bool). if b then kept else whole_entered inner (visible_heading t inner.env.scope c.args.read)) (sym c.if-is_nowhere.true ∙ c.is_nowhere.ensures))

pub returns-clause-answered : goal.returns-clause-answered
returns-clause-answered g c =
    let s = c.args.state.now in
    let kept : CheckState = record s { pending = Some c.args.read } in
    on_ok c.enter_whole.result _ _
    (λ entered t h.
    let seen = c.in_ok-see_heading.ensures.answered t h in
    let opened = c.in_ok-open_ancestors.ensures.answered t seen.0 in
    let inner = with_regions kept (private_regions t s.unit.own s.env.scope.regions) in (
      opened.0,
      entered
          ∙ ap (λ (r : AnalyzedHeading). whole_entered c.open_ancestors.new.state r) seen.1
          ∙ ap (λ (x : CheckState). whole_entered x (visible_heading t x.env.scope c.args.read)) opened.1
          ∙ ap (λ (b : Bool). if b then kept else whole_entered inner (visible_heading t inner.env.scope c.args.read)) (sym c.if-is_nowhere.false ∙ c.is_nowhere.ensures),
    ))
    c.enter_whole.ensures
