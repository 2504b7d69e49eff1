use Rattle.std.proofs.Common.{◌∙◌, Result, ap}
use Rattle.al_base.specs.declared.unit_key.UnitKey.{UnitKey}
use Rattle.al_base_fault.specs.Judging.{map_ok}
use Rattle.al_base_fault.specs.declared.fault.Fault.{Fault}
use Rattle.al_scope_context.specs.UsesAt.{package_opened}
use Rattle.al_scope_context.proofs.clause.opened_package.Goals as goal

pub returns-clause-answered : goal.returns-clause-answered
returns-clause-answered g c t h =
    let answered = c.in_ok-unit.ensures.answered t h in
    (answered.0, c.of_package-clause.ensures ∙ ap (λ (u : Result UnitKey Fault). map_ok package_opened u) answered.1)
