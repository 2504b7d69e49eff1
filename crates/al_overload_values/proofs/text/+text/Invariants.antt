use Rattle.std.proofs.Common.{◌≡◌, ◌≤◌, map, take}
use Rattle.al_overload_lookup.specs.Keys.{denoted}
use Rattle.al_overload_values.specs.Texts.{all_fault, text_fault}
use Rattle.al_tree.specs.ExpressionViews.{expression_model, expressions_of}
use Rattle.al_tree.specs.declared.expression.Expression.{size-Expression}
use Rattle.al_overload_values.proofs.text.+text.Given as goal

abbrev pub invariant-text_fault-loop-so_far : goal.invariant-text_fault-loop-so_far
invariant-text_fault-loop-so_far l =
    (text_fault l.labeller.predefined l.labeller.own (denoted l.names) l.at l.fault (expression_model l.rest) ≡ text_fault l.labeller.predefined l.labeller.own (denoted l.names) l.at l.fn.found (expression_model l.fn.expression))
    × (size-Expression l.rest ≤ size-Expression l.fn.expression)

abbrev pub invariant-all_fault-loop-next : goal.invariant-all_fault-loop-next
invariant-all_fault-loop-next l = l.fault ≡ all_fault l.labeller.predefined l.labeller.own (denoted l.names) l.at l.fn.found (expressions_of (map expression_model (take l.next-index l.others)))

abbrev pub decreases-text_fault-loop-so_far : goal.decreases-text_fault-loop-so_far
decreases-text_fault-loop-so_far l = size-Expression l.rest
