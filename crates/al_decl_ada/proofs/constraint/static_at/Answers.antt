use Rattle.std.proofs.Common.{Result, ap, ◌∙◌}
use Rattle.al_base_fault.specs.Judging.{next}
use Rattle.al_base_fault.specs.declared.fault.Fault.{Fault}
use Rattle.al_overload_nodes.specs.Ranges.{PairTree}
use Rattle.al_decl_ada.specs.SubtypesAt.{static_pair}
use Rattle.al_decl_ada.proofs.constraint.static_at.Goals as goal

pub returns-clause-answered : goal.returns-clause-answered
returns-clause-answered g c t h =
    let answered = c.in_ok-pair.ensures.answered t h in
    (answered.0, c.static_pair.ensures ∙ ap (λ (r : Result PairTree Fault). next r static_pair) answered.1)
