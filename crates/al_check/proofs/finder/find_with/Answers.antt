use Rattle.std.proofs.Common.{ap, ◌∙◌}
use Rattle.al_tree.specs.UnitViews.{unit_model}
use Rattle.al_check.specs.Ada.{verdict_with}
use Rattle.al_check.proofs.UnitResult.{agrees_too, if_ok}
use Rattle.al_check.proofs.finder.find_with.Goals as goal

pub returns-in-Ok-clause-agrees : goal.returns-in-Ok-clause-agrees
returns-in-Ok-clause-agrees g c =
    if_ok c.find_from.result _ _ (λ f h. agrees_too g.A.Answers.table c.unit_at.new.recorder.asked c.args.recorder.asked f.log c.unit_at.ensures.asked h) c.find_from.ensures.agrees

pub returns-in-Ok-clause-answered : goal.returns-in-Ok-clause-answered
returns-in-Ok-clause-answered g c =
    if_ok c.find_from.result _ _
    (λ f answered t h.
    let found = answered t h in
    let start = c.in-Ok.ensures.answered t found.0 in
    (start.0, found.1 ∙ ap (verdict_with t c.args.private_part c.args.unit.now (unit_model c.args.tree.now)) start.1))
    c.find_from.ensures.answered
