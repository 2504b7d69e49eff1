use Rattle.std.proofs.Common.{ap, ◌∙◌}
use Rattle.al_overload_lookup.specs.Lookups.{looked_up}
use Rattle.al_overload_lookup.specs.declared.name.TextName.{TextName}
use Rattle.al_overload_lookup.proofs.pieces.look_up_one.Goals as goal

pub returns-clause-answered : goal.returns-clause-answered
returns-clause-answered g c t h =
    let answered = c.in_ok-look_up.ensures.answered t h in
    (answered.0, answered.1 ∙ ap (λ (n : TextName). looked_up t c.args.scope.now c.args.packages.now c.args.names.now n) c.in_ok-of.ensures)
