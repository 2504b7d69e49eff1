use Rattle.std.proofs.Common.{ap, ◌∙◌}
use Rattle.al_decl_judged.specs.declared.progress.Progress.{Progress}
use Rattle.al_decl.specs.declared.env.Environment.{Environment}
use Rattle.al_decl.specs.declared.block.Outside.{Outside}
use Rattle.al_decl.specs.Regions.{taken_back}
use Rattle.al_check_here.specs.BodiesHere.{left_to}
use Rattle.al_check_here.specs.Standings.{with_here}
use Rattle.al_check_here.specs.declared.state.CheckState.{CheckState}
use Rattle.al_check_here.proofs.bodies.leave_open.Goals as goal

pub returns : goal.returns
returns c =
    let b = c.args.body in
    let s = c.leave_own_region.new.state in
    ap (λ (x : Environment). with_here s x)
    (c.take_back.ensures
    ∙ ap (λ (o : Outside). taken_back (record s.env { progress = c.leave_body.new.progress }) o) c.into_outside.ensures
    ∙ ap (λ (p : Progress). taken_back (record s.env { progress = p }) b.outside) c.leave_body.ensures)
    ∙ ap (λ (x : CheckState). with_here x (left_to x.env b)) c.leave_own_region.ensures
