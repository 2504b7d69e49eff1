use Rattle.std.proofs.Common.{ap, ◌∙◌}
use Rattle.std.specs.Prelude.{option_map}
use Rattle.al_decl.specs.declared.env.Environment.{Environment}
use Rattle.al_tree.specs.DeclarationViews.{object_type_model}
use Rattle.al_tree.specs.ExpressionViews.{expression_model}
use Rattle.al_decl.specs.Checking.{with_progress, with_scope}
use Rattle.al_decl.proofs.Chains.{finishes, if_ok, objects_chain}
use Rattle.al_decl.proofs.object.check_objects.Goals as goal

pub returns-clause-answered : goal.returns-clause-answered
returns-clause-answered g c =
    let h = c.args.env.now in
    if_ok c.finish.result _ _
    (λ checked made t agrees.
    let declared = c.in_ok-declared.ensures.answered t agrees in
    let of = c.in_ok-of.ensures.answered t declared.0 in
    let homograph = c.in_ok-duplicate.ensures.answered t of.0 in
    let R = g.R.PartAnalyzer.reading c.args.analyzer.now t in
    let begun = c.in_ok-begin.ensures.begun in (
      homograph.0,
      finishes c.valued.new.env _ h.progress _ _ _ made
          (objects_chain R t h c.args.line c.args.is_constant c.args.names.now (object_type_model c.args.of.now) (option_map expression_model c.args.initial.now) c.begin.new.scope c.objects_of.new.progress c.in_ok-duplicate.duplicate c.in_ok-of.of c.in_ok-objects.objects _ declared.1 c.in_ok-objects.ensures homograph.1 of.1 begun)
          (ap (λ (x : Environment). with_progress x h.progress) c.valued.ensures.rest ∙ ap (with_scope h) begun),
    ))
    c.finish.ensures.made
