use Rattle.std.proofs.Common.{Bool, None, not, is_some, ap, ◌∙◌}
use Rattle.al_decl_completes.proofs.Found.{completing-is}
use Rattle.al_decl_completes.specs.CompletingFound.{completing_found}
use Rattle.al_decl.specs.Placing.{body_placed, has_right_marks, head_duplicate}
use Rattle.al_decl_judged.specs.Profiles.{specification_of}
use Rattle.al_check_declared.proofs.Composed.{if_ok}
use Rattle.al_check_declared.proofs.placing.operation_at.Goals as goal

pub returns-clause-answered : goal.returns-clause-answered
returns-clause-answered g c =
    let env = c.args.env.now in
    let head = c.args.heading.now in
    if_ok c.place_body.result _ _
    (λ checked answered t h.
    let placed = answered t h in
    let has_homograph = is_some (head_duplicate t env head) in
    let found = completing-is env.uncompleted head.name (specification_of head) (not c.has_right_marks-may_declare.result) has_homograph placed.1.0 placed.1.1 in (
      placed.0,
      placed.1.2
          ∙ ap (body_placed env c.args.line None head) found
          ∙ ap (λ (b : Bool). body_placed env c.args.line None head (completing_found env.uncompleted head.name (specification_of head) (not b) has_homograph)) c.has_right_marks-may_declare.ensures,
    ))
    c.place_body.ensures.answered
