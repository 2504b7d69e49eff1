use Rattle.std.proofs.Common.{◌∙◌, Some, length, ap}
use Rattle.al_base.specs.declared.unit_key.UnitKey.{UnitKey}
use Rattle.al_check_start.specs.Subunits.{stubs_in}
use Rattle.al_check_start.proofs.stub.stubs_round.Goals as goal

pub returns-clause-answered : goal.returns-clause-answered
returns-clause-answered g c t h =
    let stubs = c.in_ok-stubs.ensures.answered t h in
    let first = c.in_ok-first.ensures.answered t stubs.0 in
    let name = c.args.name.now in
    (first.0, stubs.1 ∙ ap (λ (u : UnitKey). stubs_in t (length name) name (Some u)) first.1)
