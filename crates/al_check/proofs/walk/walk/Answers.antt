use Rattle.std.proofs.Common.{◌≡◌, ap}
use Rattle.al_tree.specs.UnitViews.{library_item_model}
use Rattle.al_stmts.specs.Units.{unit_walked}
use Rattle.al_stmts.specs.WalkedViews.{inside_model}
use Rattle.al_check_reading.specs.Ada.{ada}
use Rattle.al_check.specs.Ada.{ended_after}
use Rattle.al_check.proofs.UnitResult.{agrees_too, if_both, if_ok, told_here}
use Rattle.al_check.proofs.walk.walk.Goals as goal

pub returns-in-Ok-clause-agrees : goal.returns-in-Ok-clause-agrees
returns-in-Ok-clause-agrees g c =
    if_ok c.found_by.result _ _ (λ f h. agrees_too g.A.Answers.table c.check_unit.new.analyzer.recorder.asked c.args.recorder.asked f.log c.check_unit.ensures.asked h) c.found_by.ensures.agrees

pub returns-in-Ok-clause-answered : goal.returns-in-Ok-clause-answered
returns-in-Ok-clause-answered g c =
    let analyzer = c.check_unit.new.analyzer in
    let inside = inside_model c.in-Ok.inside in
    let unit_facts = c.args.unit_facts in
    if_both c.found_by.result _ _ _
    (λ f l v.
    told_here c.args.recorder.log analyzer.recorder.log f (ended_after unit_facts (analyzer.state, inside))
    (λ t. (analyzer.state, inside) ≡ unit_walked (ada t) c.args.state (library_item_model c.args.item.now))
    (λ t. ended_after unit_facts (unit_walked (ada t) c.args.state (library_item_model c.args.item.now)))
    c.in-Ok.ensures.answered (λ t e. ap (ended_after unit_facts) e) l v)
    c.found_by.ensures.log c.found_by.ensures.finding
