use Rattle.std.proofs.Common.{Result, ap, ◌∙◌}
use Rattle.al_base_fault.specs.Judging.{next}
use Rattle.al_base_fault.specs.declared.fault.Fault.{Fault}
use Rattle.al_stmts_ranges.specs.ChoicesAt.{read_choice}
use Rattle.al_overload_values.specs.TextsAt.{With}
use Rattle.al_overload_readings.specs.Readings.{ReadTree}
use Rattle.al_stmts_ranges.proofs.choice.single_choice.Goals as goal

pub returns-clause-answered : goal.returns-clause-answered
returns-clause-answered g c t h =
    let answered = c.in_ok-reading.ensures.answered t h in
    let l = c.args.site.now.labeller.now in
    (answered.0, c.in_ok-choice.ensures ∙ ap (λ (r : Result (With ReadTree) Fault). next r (read_choice l.predefined l.own c.args.found.now)) answered.1)
