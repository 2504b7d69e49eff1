use Rattle.std.proofs.Common.{◌≡◌, ◌∙◌, ◌<◌, [], ℕ, List, drop, map, ap, sym, subst, arith}
use Rattle.std.proofs.lemmas.List.{drop_all}
use Rattle.al_tree.specs.UnitViews.{context_model}
use Rattle.al_tree.specs.declared.unit.ContextItem.{ContextItem}
use Rattle.al_scope_context.specs.Contexts.{with_items}
use Rattle.al_scope_context.proofs.Steps.{items-fault, items-more}
use Rattle.al_scope_context.proofs.context.context_at.Goals as goal

pub returns-in-Some-clause-answered : goal.returns-in-Some-clause-answered
returns-in-Some-clause-answered g c t h =
    let answered = c.in_ok-fault.ensures.answered t h in
    let before = c.loop-item.invariant.answered t answered.0 in
    (before.0, items-fault t c.args.items.now c.loop-item.item-index c.item-item.result c.loop-item.context c.add_item.new.context c.in_ok-fault.fault c.in-Some.fault _ (omega arith) c.item-item.is answered.1 c.in-Some.is before.1)

pub loop-item-preserved : goal.loop-item-preserved
loop-item-preserved g c =
    let i = c.loop-item.invariant in
    record {
      asked = c.add_item.ensures.asked ∙ i.asked;
      answered = λ t h. let answered = c.in_ok-fault.ensures.answered t h in
          let before = i.answered t answered.0 in
          (before.0, items-more t c.args.items.now c.loop-item.item-index c.item-item.result c.loop-item.context c.add_item.new.context c.in_ok-fault.fault _ (omega arith) c.item-item.is answered.1 c.in_default.is before.1);
      depth = subst (λ (n : ℕ). 0 < n) (sym c.add_item.ensures.depth) i.depth;
    }

pub returns-clause-answered : goal.returns-clause-answered
returns-clause-answered g c t h =
    let before = c.loop-item.invariant.answered t h in
    let none : drop c.loop-item.item-index c.args.items.now ≡ [] = drop_all c.loop-item.item-index c.args.items.now (omega arith) in
    (before.0, ap (λ (xs : List ContextItem). with_items t c.loop-item.context (map context_model xs)) (sym none) ∙ before.1)
