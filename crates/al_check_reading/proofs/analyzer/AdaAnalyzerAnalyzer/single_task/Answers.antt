use Rattle.std.proofs.Common.{Bool, ap, sym, ◌∙◌, if◌then◌else◌}
use Rattle.al_check_declared.specs.DeclarationsHere.{no_place}
use Rattle.al_check_declared.specs.ObjectsHere.{task_here}
use Rattle.al_check_here.proofs.Lists.{if_ok}
use Rattle.al_tree.specs.DeclarationViews.{task_model}
use Rattle.al_check_reading.specs.Ada.{ada}
use Rattle.al_check_reading.proofs.analyzer.AdaAnalyzerAnalyzer.single_task.Goals as goal

pub returns-then-is_nowhere-clause-answered : goal.returns-then-is_nowhere-clause-answered
unfolding ada
returns-then-is_nowhere-clause-answered g c =
    let s = c.args.self.now.state in
    if_ok c.no_place.result _ _
    (λ checked gone t h.
    (h, gone ∙ ap (λ (b : Bool). if b then no_place s else (task_here t s (task_model c.args.task.now))) (sym c.if-is_nowhere.true ∙ c.is_nowhere.ensures)))
    c.no_place.ensures

pub returns-clause-answered : goal.returns-clause-answered
unfolding ada
returns-clause-answered g c =
    let s = c.args.self.now.state in
    if_ok c.declare_task.result _ _
    (λ checked answered t h.
    let read = answered t h in
    (read.0, read.1 ∙ ap (λ (b : Bool). if b then no_place s else (task_here t s (task_model c.args.task.now))) (sym c.if-is_nowhere.false ∙ c.is_nowhere.ensures)))
    c.declare_task.ensures.answered
