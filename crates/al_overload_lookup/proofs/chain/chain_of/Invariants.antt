use Rattle.std.proofs.Common.{◌≡◌, ◌++◌}
use Rattle.al_overload_lookup.specs.Keys.{key_of}
use Rattle.al_overload_lookup.specs.Chains.{AreWithin, chained_names}
use Rattle.al_overload_lookup.specs.TextNames.{names_in}
use Rattle.al_tree.specs.ExpressionViews.{expression_model}
use Rattle.al_tree.specs.declared.expression.Expression.{size-Expression}
use Rattle.al_overload_lookup.proofs.chain.chain_of.Given as goal

abbrev pub invariant-loop-link : goal.invariant-loop-link
invariant-loop-link l =
    (names_in (expression_model l.rest) ++ chained_names (key_of (expression_model l.rest)) l.links.items ≡ names_in (expression_model l.fn.expression))
    × AreWithin l.fn.expression l.rest l.links.items

abbrev pub decreases-loop-link : goal.decreases-loop-link
decreases-loop-link l = size-Expression l.rest
