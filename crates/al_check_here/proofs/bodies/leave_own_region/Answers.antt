use Rattle.std.proofs.Common.{Bool, ap, sym, ◌∙◌, if◌then◌else◌}
use Rattle.al_scope.specs.Places.{Place}
use Rattle.al_check_here.specs.RegionsHere.{region_left}
use Rattle.al_check_here.specs.Standings.{with_here}
use Rattle.al_check_here.proofs.bodies.leave_own_region.Goals as goal

pub returns-then-is_whole : goal.returns-then-is_whole
returns-then-is_whole c =
    let h = c.args.state.now in
    ap (λ (b : Bool). with_here h (record h.env { scope = if b then h.env.scope else region_left h.env.scope })) (sym c.if-is_whole.true ∙ c.is_whole.ensures)

pub returns : goal.returns
returns c =
    let h = c.args.state.now in
    ap (λ (p : Place). with_here h (record h.env { scope = p })) c.leave_region.ensures
    ∙ ap (λ (b : Bool). with_here h (record h.env { scope = if b then h.env.scope else region_left h.env.scope })) (sym c.if-is_whole.false ∙ c.is_whole.ensures)
