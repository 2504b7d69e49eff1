use Rattle.std.proofs.Common.{Ok, ap, sym, ◌∙◌}
use Rattle.al_base_fault.specs.Judging.{map_ok}
use Rattle.al_scope.specs.Seen.{subtype_seen_at}
use Rattle.al_check_declared.proofs.bodies.visible_mark.Goals as goal

pub returns-in_ok-subtype_seen_at-in-Ok-clause-answered : goal.returns-in_ok-subtype_seen_at-in-Ok-clause-answered
returns-in_ok-subtype_seen_at-in-Ok-clause-answered g c t h =
    let seen = c.in_ok-subtype_seen_at-in-Ok.ensures.answered t h in
    (seen.0, ap Ok seen.1 ∙ ap (map_ok (subtype_seen_at t c.args.scope.now)) (sym c.in-Ok.is))
