use Rattle.std.proofs.Common.{◌≡◌, map}
use Rattle.al_overload_lookup.specs.Endings.{all_selected}
use Rattle.al_overload_lookup.specs.Keys.{key_of}
use Rattle.al_tree.specs.ExpressionViews.{expression_model}
use Rattle.al_tree.specs.declared.expression.Expression.{size-Expression}
use Rattle.al_overload_lookup.proofs.keys.key_of.Given as goal

abbrev pub invariant-loop-prefix : goal.invariant-loop-prefix
invariant-loop-prefix l = all_selected (map (λ s. s.now) l.selectors.items) (key_of (expression_model l.rest)) ≡ key_of (expression_model l.fn.expression)

abbrev pub decreases-loop-prefix : goal.decreases-loop-prefix
decreases-loop-prefix l = size-Expression l.rest
