use Rattle.std.proofs.Common.{◌≡◌, ◌+◌, ◌*◌, ◌++◌, take, length}
use Rattle.std.specs.List.{flat_map}
use Rattle.al_overload_lookup.specs.Chains.{AreBelow, chained_names}
use Rattle.al_overload_lookup.specs.Pieces.{front, names_of}
use Rattle.al_overload_lookup.specs.TextNames.{names_in}
use Rattle.al_tree.specs.ExpressionViews.{expression_model}
use Rattle.al_overload_lookup.proofs.text.+text.Given as goal

abbrev pub invariant-add_all-loop-expression : goal.invariant-add_all-loop-expression
invariant-add_all-loop-expression l = names_of l.found.items ≡ names_of l.initial.found.items ++ flat_map (λ x. names_in (expression_model x)) (take l.expression-index l.expressions)

abbrev pub invariant-add_names-loop-link : goal.invariant-add_names-loop-link
invariant-add_names-loop-link l =
    (names_of l.found.items ++ chained_names (front l.named l.found.items) l.links.items ≡ names_of l.fn.found.items ++ names_in (expression_model l.fn.expression))
    × AreBelow l.fn.expression l.links.items

abbrev pub decreases-add_names-loop-link : goal.decreases-add_names-loop-link
decreases-add_names-loop-link l = length l.links.items

-- ---- how deep what is read is: what is first may be the whole, so its names are computed with less than those of the whole

abbrev pub decreases-add_names : goal.decreases-add_names
decreases-add_names l = 2 * goal.size-add_names l + 1

abbrev pub decreases-add_first : goal.decreases-add_first
decreases-add_first l = 2 * goal.size-add_first l

abbrev pub decreases-add_prefixed : goal.decreases-add_prefixed
decreases-add_prefixed l = 2 * goal.size-add_prefixed l + 1

abbrev pub decreases-add_operation : goal.decreases-add_operation
decreases-add_operation l = 2 * goal.size-add_operation l + 1

abbrev pub decreases-add_test : goal.decreases-add_test
decreases-add_test l = 2 * goal.size-add_test l + 1

abbrev pub decreases-add_part : goal.decreases-add_part
decreases-add_part l = 2 * goal.size-add_part l + 1

abbrev pub decreases-add_group : goal.decreases-add_group
decreases-add_group l = 2 * goal.size-add_group l + 1

abbrev pub decreases-add_all : goal.decreases-add_all
decreases-add_all l = 2 * goal.size-add_all l + 2
