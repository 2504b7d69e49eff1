use Rattle.std.proofs.Common.{Option, Result, ap, ◌∙◌}
use Rattle.al_decl_judged.specs.declared.subtype_views.StaticRange.{StaticRange}
use Rattle.al_decl_judged.specs.Indications.{index_of_mark}
use Rattle.al_base_fault.specs.declared.fault.Fault.{Fault}
use Rattle.al_decl_ada.proofs.index.constrained_index.Goals as goal

pub returns-clause-answered : goal.returns-clause-answered
returns-clause-answered g c t h =
    let answered = c.in_ok-constraint.ensures.answered t h in
    (answered.0, c.in_ok-subtype.ensures ∙ ap (λ (o : Option (Result StaticRange Fault)). index_of_mark c.args.place c.args.mark.now o) answered.1)
