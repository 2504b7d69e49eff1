use Rattle.std.proofs.Common.{List, map, ap, ◌∙◌, arith}
use Rattle.std.proofs.lemmas.List.{take_all}
use Rattle.al_overload_lookup.specs.Keys.{denoted}
use Rattle.al_overload_values.specs.Texts.{all_fault}
use Rattle.al_tree.specs.ExpressionViews.{expression_model, expressions_of}
use Rattle.al_tree.specs.declared.expression.Expression.{Expression}
use Rattle.al_overload_values.proofs.text.+text.Goals as goal

pub all_fault-returns : goal.all_fault-returns
all_fault-returns t c =
    c.loop-next.invariant
    ∙ ap (λ (xs : List Expression). all_fault c.args.labeller.now.predefined c.args.labeller.now.own (denoted c.args.names.now) c.args.at c.args.found (expressions_of (map expression_model xs)))
    (take_all c.loop-next.next-index c.args.others.now (omega arith))
