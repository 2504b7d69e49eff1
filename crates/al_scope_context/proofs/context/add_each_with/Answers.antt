use Rattle.std.proofs.Common.{◌≡◌, ◌∙◌, [], List, drop, map, ap, sym, arith}
use Rattle.std.specs.Prelude.{fold}
use Rattle.std.proofs.lemmas.List.{drop_all}
use Rattle.al_tree.specs.DeclarationViews.{compound_model}
use Rattle.al_tree.specs.declared.names.CompoundName.{CompoundName}
use Rattle.al_scope_context.specs.Contexts.{withed}
use Rattle.al_scope_context.proofs.Steps.{fold-map_step}
use Rattle.al_scope_context.proofs.context.add_each_with.Goals as goal

pub loop-name-preserved : goal.loop-name-preserved
loop-name-preserved g c =
    let i = c.loop-name.invariant in
    record {
      asked = c.add_with.ensures.asked ∙ i.asked;
      answered = λ t h. let answered = c.in_ok-add_with.ensures.answered t h in
          let before = i.answered t answered.0 in
          (before.0, fold-map_step (withed t) compound_model c.args.names.now c.loop-name.name-index c.name-item.result c.loop-name.context c.add_with.new.context _ (omega arith) c.name-item.is answered.1 before.1);
      depth = c.add_with.ensures.depth ∙ i.depth;
    }

pub returns-clause-answered : goal.returns-clause-answered
returns-clause-answered g c t h =
    let before = c.loop-name.invariant.answered t h in
    let none : drop c.loop-name.name-index c.args.names.now ≡ [] = drop_all c.loop-name.name-index c.args.names.now (omega arith) in
    (before.0, ap (λ (ns : List CompoundName). fold (withed t) c.loop-name.context (map compound_model ns)) (sym none) ∙ before.1)
