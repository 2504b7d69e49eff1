use Rattle.std.proofs.Common.{Result, ap, ◌∙◌}
use Rattle.al_decl_judged.specs.declared.subtype_views.StaticRange.{StaticRange}
use Rattle.al_base_fault.specs.Judging.{map_ok}
use Rattle.al_base_fault.specs.declared.fault.Fault.{Fault}
use Rattle.al_stmts_ranges.specs.ChoicesAt.{range_choice}
use Rattle.al_stmts_ranges.proofs.choice.bounds_chosen.Goals as goal

pub returns-clause-answered : goal.returns-clause-answered
returns-clause-answered g c t h =
    let answered = c.in_ok-range.ensures.answered t h in
    (answered.0, c.range_choice.ensures ∙ ap (λ (r : Result StaticRange Fault). map_ok range_choice r) answered.1)
