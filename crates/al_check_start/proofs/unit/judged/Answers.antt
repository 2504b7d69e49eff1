use Rattle.std.proofs.Common.{◌∙◌, Bool, Ok, Err, ap, if◌then◌else◌}
use Rattle.al_base_fault.specs.Judging.{unless}
use Rattle.al_tree.specs.UnitViews.{unit_model}
use Rattle.al_unit_graph.specs.Views.{header_model}
use Rattle.al_check_start.specs.Around.{is_surrounded, not_surrounded}
use Rattle.al_check_start.proofs.unit.judged.Goals as goal

pub returns-in-Ok-clause-answered : goal.returns-in-Ok-clause-answered
returns-in-Ok-clause-answered g c t h =
    let known = c.in-Ok.ensures.answered t h in
    let whole = known.1 ∙ ap (is_surrounded t c.args.unit.now (header_model c.args.header.now) c.args.start.own) c.as_slice-packages.ensures in
    let text = unit_model c.args.text.now in
    (known.0, c.if_whole.ensures ∙ ap (λ (b : Bool). if b then unless c.args.fault (Ok c.args.start) else Err (not_surrounded text)) whole)
