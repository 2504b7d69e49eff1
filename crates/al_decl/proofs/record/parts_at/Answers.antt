use Rattle.std.proofs.Common.{List, Result, ap, ◌∙◌}
use Rattle.al_decl_judged.specs.declared.record.Part.{Part}
use Rattle.al_decl.specs.Inner.{in_region}
use Rattle.al_base_fault.specs.declared.fault.Fault.{Fault}
use Rattle.al_tree.specs.DeclarationViews.{components_model}
use Rattle.al_decl.specs.Components.{component_list, parts_after}
use Rattle.al_decl.proofs.record.parts_at.Goals as goal

pub returns-in-Ok-clause-answered : goal.returns-in-Ok-clause-answered
returns-in-Ok-clause-answered g c t h =
    let answered = c.in-Ok.ensures.answered t h in
    let R = g.R.PartAnalyzer.reading c.args.analyzer.now t in (
      answered.0,
      c.checked.ensures
          ∙ answered.1
          ∙ ap (λ (r : Result (List Part) Fault). parts_after R t (in_region c.args.scope.now) r (component_list (components_model c.args.components.now))) c.new-found.ensures,
    )
