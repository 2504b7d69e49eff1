use Rattle.std.proofs.Common.{ap, ◌∙◌}
use Rattle.al_stmts.specs.Steps.{Inside}
use Rattle.al_check_here.specs.Ends.{ends_of}
use Rattle.al_check_here.specs.declared.state.CheckState.{CheckState}
use Rattle.al_check.proofs.walk.private_part_from.Goals as goal

pub returns-in-Ok-clause-answered : goal.returns-in-Ok-clause-answered
returns-in-Ok-clause-answered g c t h =
    let agrees = rw c.into_parts-parts.ensures at h in
    let walked = c.in-Ok.ensures.answered t agrees in
    let declared = rw c.into_parts-parts.ensures at c.into_private_part.ensures in
    (walked.0, declared ∙ ap (λ (w : CheckState × Inside). (ends_of w.0).parts.private_part) walked.1)
