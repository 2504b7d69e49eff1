use Rattle.std.proofs.Common.{◌∙◌, Option, Ok, Err, ap, if◌then◌else◌}
use Rattle.al_base_fault.specs.Judging.{unless}
use Rattle.al_base_fault.specs.declared.fault.Fault.{Fault}
use Rattle.al_tree.specs.UnitViews.{library_item_model, unit_model}
use Rattle.al_unit_graph.specs.Views.{header_model}
use Rattle.al_check_start.specs.Around.{is_surrounded, not_surrounded}
use Rattle.al_check_start.specs.UnitsAt.{name_fault, start_with}
use Rattle.al_check_start.specs.declared.completed.Completed.{Completed}
use Rattle.al_check_start.specs.declared.unit.UnitStart.{UnitStart}
use Rattle.al_check_start.proofs.Steps.{if_ok}
use Rattle.al_check_start.proofs.unit.start_after.Goals as goal

pub returns-clause-answered : goal.returns-clause-answered
unfolding unit_model
returns-clause-answered g c =
    if_ok c.judged.result _ _
    (λ checked answered t h.
    let judged = answered t h in
    let start = c.in_ok-start.ensures.answered t judged.0 in
    let fault = c.in_ok-fault.ensures.answered t start.0 in
    let completed = c.in_ok-completed.ensures.answered t fault.0 in
    let unit = c.args.unit.now in
    let text = unit_model c.args.text.now in
    let head = header_model c.args.header.now in
    let item = library_item_model c.args.text.now.item in
    let known = c.in_ok-completed.completed in
    let all = λ (f : Option Fault) (s : UnitStart). if is_surrounded t unit head s.own s.packages then unless f (Ok s) else Err (not_surrounded text) in (
      completed.0,
      judged.1
          ∙ ap (λ (f : Option Fault). all f c.in_ok-start.start) fault.1
          ∙ ap (all (name_fault t unit item known.view)) start.1
          ∙ ap (λ (k : Completed). all (name_fault t unit item k.view) (start_with t unit item c.args.context k)) completed.1,
    ))
    c.judged.ensures.answered
