use Rattle.std.proofs.Common.{Result, sym, ap, ◌∙◌}
use Rattle.al_decl_judged.specs.declared.new_object.ObjectType.TheVariants as object_types
use Rattle.al_base_fault.specs.Judging.{both, map_ok}
use Rattle.al_base_fault.specs.declared.fault.Fault.{Fault}
use Rattle.al_tree.specs.DeclarationViews.{array_model, object_type_model}
use Rattle.al_tree.specs.declared.declaration.ArrayDefinition.{ArrayDefinition}
use Rattle.al_tree.specs.declared.declaration.ObjectType.{ObjectType}
use Rattle.al_view.specs.declared.view.SubtypeView.{SubtypeView}
use Rattle.al_decl.specs.Forms.{anonymous_array, type_read}
use Rattle.al_decl.proofs.object.type_read.Goals as goal

pub returns-in_ok-of-in-Named-clause-answered : goal.returns-in_ok-of-in-Named-clause-answered
returns-in_ok-of-in-Named-clause-answered g c t h =
    let answered = c.in_ok-of-in-Named.ensures.answered t h in
    let R = g.R.PartAnalyzer.reading c.args.analyzer.now t in
    let place = c.args.scope.now in (
      answered.0,
      c.marked.ensures
          ∙ ap (λ (s : Result SubtypeView Fault). map_ok object_types.Marked s) answered.1
          ∙ ap (λ (o : ObjectType). type_read R place (object_type_model o)) (sym c.in-Named.is),
    )

pub returns-in_ok-index-in-Array-clause-answered : goal.returns-in_ok-index-in-Array-clause-answered
returns-in_ok-index-in-Array-clause-answered g c t h =
    let answered = c.in_ok-index-in-Array.ensures.answered t h in
    let R = g.R.PartAnalyzer.reading c.args.analyzer.now t in
    let place = c.args.scope.now in
    let a = array_model c.deref.result.now in (
      answered.0,
      c.anonymous.ensures
          ∙ ap (λ (s : Result SubtypeView Fault). map_ok anonymous_array (both s c.in_ok-index-in-Array.component)) answered.1.0
          ∙ ap (λ (s : Result SubtypeView Fault). map_ok anonymous_array (both (R.index place a.index) s)) answered.1.1
          ∙ ap (λ (d : ArrayDefinition). map_ok anonymous_array (both (R.index place (array_model d).index) (R.indication place (array_model d).component))) c.deref.ensures
          ∙ ap (λ (o : ObjectType). type_read R place (object_type_model o)) (sym c.in-Array.is),
    )
