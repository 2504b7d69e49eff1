use Rattle.std.proofs.Common.{Bool, ap, sym, ◌∙◌, if◌then◌else◌}
use Rattle.al_check_declared.specs.DeclarationsHere.{no_place}
use Rattle.al_check_declared.specs.ObjectsHere.{inner_head}
use Rattle.al_check_declared.specs.WholeHere.{whole_head}
use Rattle.al_check_here.proofs.Lists.{if_ok}
use Rattle.al_check_here.specs.Standings.{is_whole}
use Rattle.al_tree.specs.DeclarationViews.{specification_model}
use Rattle.al_check_reading.specs.Ada.{ada}
use Rattle.al_check_reading.proofs.analyzer.AdaAnalyzerAnalyzer.head.Goals as goal

pub returns-then-is_nowhere-clause-answered : goal.returns-then-is_nowhere-clause-answered
unfolding ada
returns-then-is_nowhere-clause-answered g c =
    let s = c.args.self.now.state in
    if_ok c.no_place.result _ _
    (λ checked gone t h.
    (h, gone ∙ ap (λ (b : Bool). if b then no_place s else (if is_whole s then whole_head t s (specification_model c.args.specification.now) else inner_head t s (specification_model c.args.specification.now))) (sym c.if-is_nowhere.true ∙ c.is_nowhere.ensures)))
    c.no_place.ensures

pub returns-then-is_whole-clause-answered : goal.returns-then-is_whole-clause-answered
unfolding ada
returns-then-is_whole-clause-answered g c =
    let s = c.args.self.now.state in
    if_ok c.whole_head.result _ _
    (λ checked answered t h.
    let read = answered t h in (
      read.0,
      read.1
          ∙ ap (λ (b : Bool). if b then whole_head t s (specification_model c.args.specification.now) else inner_head t s (specification_model c.args.specification.now)) (sym c.if-is_whole.true ∙ c.is_whole.ensures)
          ∙ ap (λ (b : Bool). if b then no_place s else (if is_whole s then whole_head t s (specification_model c.args.specification.now) else inner_head t s (specification_model c.args.specification.now))) (sym c.if-is_nowhere.false ∙ c.is_nowhere.ensures),
    ))
    c.whole_head.ensures.answered

pub returns-clause-answered : goal.returns-clause-answered
unfolding ada
returns-clause-answered g c =
    let s = c.args.self.now.state in
    if_ok c.inner_head.result _ _
    (λ checked answered t h.
    let read = answered t h in (
      read.0,
      read.1
          ∙ ap (λ (b : Bool). if b then whole_head t s (specification_model c.args.specification.now) else inner_head t s (specification_model c.args.specification.now)) (sym c.if-is_whole.false ∙ c.is_whole.ensures)
          ∙ ap (λ (b : Bool). if b then no_place s else (if is_whole s then whole_head t s (specification_model c.args.specification.now) else inner_head t s (specification_model c.args.specification.now))) (sym c.if-is_nowhere.false ∙ c.is_nowhere.ensures),
    ))
    c.inner_head.ensures.answered
