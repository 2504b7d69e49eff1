use Rattle.std.proofs.Common.{◌≡◌, ◌∙◌, [], drop, ap, sym, arith}
use Rattle.std.specs.Prelude.{fold}
use Rattle.std.proofs.lemmas.List.{drop_all}
use Rattle.al_scope_context.specs.Contexts.{unit_mentioned}
use Rattle.al_scope_context.proofs.Steps.{fold-step}
use Rattle.al_scope_context.proofs.context.mention_units.Goals as goal

pub loop-name-preserved : goal.loop-name-preserved
loop-name-preserved g c =
    let i = c.loop-name.invariant in
    let name = c.name-item.result in
    record {
      asked = c.mention_unit.ensures.asked ∙ i.asked;
      answered = λ t h. let answered = c.in_ok-mention_unit.ensures.answered t h in
          let before = i.answered t answered.0 in
          (before.0, fold-step (unit_mentioned t) c.args.names.now c.loop-name.name-index name c.loop-name.context c.mention_unit.new.context _ (omega arith) c.name-item.is (answered.1 ∙ ap (unit_mentioned t c.loop-name.context) c.as_slice.ensures) before.1);
      depth = c.mention_unit.ensures.depth ∙ i.depth;
    }

pub returns-clause-answered : goal.returns-clause-answered
returns-clause-answered g c t h =
    let before = c.loop-name.invariant.answered t h in
    let none : drop c.loop-name.name-index c.args.names.now ≡ [] = drop_all c.loop-name.name-index c.args.names.now (omega arith) in
    (before.0, ap (fold (unit_mentioned t) c.loop-name.context) (sym none) ∙ before.1)
