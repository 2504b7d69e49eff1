use Rattle.std.proofs.Common.{◌≡◌, ◌∙◌, [], List, map, drop, ap, sym, arith}
use Rattle.std.proofs.lemmas.List.{drop_all}
use Rattle.al_tree.specs.DeclarationViews.{compound_model}
use Rattle.al_tree.specs.declared.names.CompoundName.{CompoundName}
use Rattle.al_scope_context.specs.UsesAt.{opened_from}
use Rattle.al_scope_context.proofs.UsesSteps.{opened-fault, opened-more}
use Rattle.al_scope_context.proofs.clause.opened_from.Goals as goal

pub returns-in-Some-clause-answered : goal.returns-in-Some-clause-answered
returns-in-Some-clause-answered g c t h =
    let answered = c.in_ok-clause.ensures.answered t h in
    let before = c.loop-name.invariant.answered t answered.0 in
    (before.0, opened-fault t c.args.scope.now c.args.packages.now c.args.of_type c.args.names.now c.loop-name.name-index c.name-item.result c.loop-name.clauses c.in_ok-clause.clause c.in_ok-fault.fault c.in-Some.fault _ (omega arith) c.name-item.is answered.1 c.in_ok-fault.ensures.fault c.in-Some.is before.1)

pub loop-name-preserved : goal.loop-name-preserved
loop-name-preserved g c =
    let i = c.loop-name.invariant in
    record {
      asked = c.opened_by.ensures.asked ∙ i.asked;
      answered = λ t h. let answered = c.in_ok-clause.ensures.answered t h in
          let before = i.answered t answered.0 in
          (before.0, opened-more t c.args.scope.now c.args.packages.now c.args.of_type c.args.names.now c.loop-name.name-index c.name-item.result c.loop-name.clauses c.add_clause.new.clauses c.in_ok-clause.clause c.in_ok-fault.fault _ (omega arith) c.name-item.is answered.1 c.in_ok-fault.ensures.fault c.in_default.is c.in_ok-fault.ensures.added before.1);
    }

pub returns-clause-answered : goal.returns-clause-answered
returns-clause-answered g c t h =
    let before = c.loop-name.invariant.answered t h in
    let none : drop c.loop-name.name-index c.args.names.now ≡ [] = drop_all c.loop-name.name-index c.args.names.now (omega arith) in
    (before.0, ap (λ (ns : List CompoundName). opened_from t c.args.scope.now c.args.packages.now c.args.of_type c.loop-name.clauses (map compound_model ns)) (sym none) ∙ before.1)
