use Rattle.std.proofs.Common.{Result, ap, ◌∙◌}
use Rattle.al_base_fault.specs.Judging.{next}
use Rattle.al_base_fault.specs.declared.fault.Fault.{Fault}
use Rattle.al_stmts_ranges.specs.LoopsAt.{after_mark}
use Rattle.al_overload_values.specs.TextsAt.{With}
use Rattle.al_overload.specs.Terms.{TermTree}
use Rattle.al_view.specs.declared.types.Bounds.{Bounds}
use Rattle.al_view.specs.declared.view.SubtypeView.{SubtypeView}
use Rattle.al_stmts_ranges.proofs.loop_range.marked_range.Goals as goal

pub returns-clause-answered : goal.returns-clause-answered
returns-clause-answered g c t h =
    let answered = c.in_ok-checked.ensures.answered t h in
    let l = c.args.site.now.labeller.now in
    (answered.0, c.in_ok-found.ensures ∙ ap (λ (r : Result ((SubtypeView × Bounds) × With (TermTree × TermTree)) Fault). next r (after_mark l.predefined l.own)) answered.1)
