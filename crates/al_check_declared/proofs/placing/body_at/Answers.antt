use Rattle.std.proofs.Common.{true, is_some, ap, ◌∙◌}
use Rattle.al_decl_completes.proofs.Found.{completing-is}
use Rattle.al_decl.specs.Placing.{body_placed, head_duplicate}
use Rattle.al_decl_judged.specs.Profiles.{specification_of}
use Rattle.al_check_declared.proofs.Composed.{if_ok}
use Rattle.al_check_declared.proofs.placing.body_at.Goals as goal

pub returns-clause-answered : goal.returns-clause-answered
returns-clause-answered g c =
    let env = c.args.env.now in
    let head = c.args.heading.now in
    if_ok c.place_body.result _ _
    (λ checked answered t h.
    let placed = answered t h in
    let found = completing-is env.uncompleted head.name (specification_of head) true (is_some (head_duplicate t env head)) placed.1.0 placed.1.1 in
    (placed.0, placed.1.2 ∙ ap (body_placed env c.args.line c.args.stub head) found))
    c.place_body.ensures.answered
