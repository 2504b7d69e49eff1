use Rattle.std.proofs.Common.{List, ap, ◌∙◌}
use Rattle.al_tree.specs.UnitViews.{unit_model}
use Rattle.al_view.specs.Named.{Declarations}
use Rattle.al_check_start.specs.UnitsAt.{unit_at}
use Rattle.al_check.specs.Ada.{verdict_with}
use Rattle.al_check.proofs.UnitResult.{agrees_too, if_ok}
use Rattle.al_check.proofs.finder.find_in.Goals as goal

pub returns-in-Ok-clause-agrees : goal.returns-in-Ok-clause-agrees
returns-in-Ok-clause-agrees g c =
    if_ok c.find_with.result _ _ (λ f h. agrees_too g.A.Answers.table c.in-Ok.recorder.asked c.args.recorder.asked f.log c.in-Ok.ensures.asked h) c.find_with.ensures.agrees

pub returns-in-Ok-clause-answered : goal.returns-in-Ok-clause-answered
returns-in-Ok-clause-answered g c =
    if_ok c.find_with.result _ _
    (λ f answered t h.
    let found = answered t h in
    let part = c.in-Ok.ensures.answered t found.0 in
    let tree = unit_model c.args.tree.now in
    let unit = c.args.unit.now in
    (part.0, found.1 ∙ ap (λ (p : Declarations). verdict_with t p unit tree (unit_at t unit tree)) part.1))
    c.find_with.ensures.answered
