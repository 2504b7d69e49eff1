use Rattle.std.proofs.Common.{Result, ap, ◌∙◌}
use Rattle.al_base_fault.specs.declared.fault.Fault.{Fault}
use Rattle.al_overload_nodes.specs.Ranges.{FoundTree}
use Rattle.al_stmts_ranges.specs.ChoicesAt.{values_of}
use Rattle.al_stmts_ranges.proofs.selected.whole_at.Goals as goal

pub returns-clause-answered : goal.returns-clause-answered
returns-clause-answered g c t h =
    let answered = c.in_ok-checked.ensures.answered t h in
    (answered.0, c.values_of.ensures ∙ ap (λ (r : Result FoundTree Fault). values_of r) answered.1)
