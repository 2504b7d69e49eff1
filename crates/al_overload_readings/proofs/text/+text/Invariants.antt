use Rattle.std.proofs.Common.{◌≡◌, ◌≤◌, map, take}
use Rattle.al_base_fault.specs.Judging.{next, map_ok}
use Rattle.al_overload_lookup.specs.Keys.{denoted}
use Rattle.al_overload_readings.specs.Readings.{valued}
use Rattle.al_overload_readings.specs.Steps.{started}
use Rattle.al_overload_readings.specs.TermLists.{all_model}
use Rattle.al_overload.specs.TermViews.{term_model}
use Rattle.al_overload_readings.specs.Chains.{chained}
use Rattle.al_overload_readings.specs.Noted.{all_linked}
use Rattle.al_overload_readings.specs.Texts.{noted, read, read_more}
use Rattle.al_tree.specs.ExpressionViews.{expression_model, expressions_of}
use Rattle.al_tree.specs.declared.expression.Expression.{size-Expression}
use Rattle.al_overload_readings.proofs.text.+text.Given as goal

abbrev pub invariant-several-loop-next : goal.invariant-several-loop-next
invariant-several-loop-next l = map_ok all_model l.done ≡ read_more (denoted l.names) (started (map_ok term_model l.fn.first)) (expressions_of (map expression_model (take l.next-index l.others)))

abbrev pub invariant-term_of-loop-rest : goal.invariant-term_of-loop-rest
invariant-term_of-loop-rest l =
    (chained (denoted l.names) l.joints.items (next (read (denoted l.names) (expression_model l.rest)) valued) ≡ next (read (denoted l.names) (expression_model l.fn.expression)) valued)
    × (size-Expression l.rest ≤ size-Expression l.fn.expression)

abbrev pub invariant-read-loop-links : goal.invariant-read-loop-links
invariant-read-loop-links l =
    (all_linked (denoted l.names) l.links.items (noted (denoted l.names) (expression_model l.rest)) ≡ noted (denoted l.names) (expression_model l.fn.expression))
    × (size-Expression l.rest ≤ size-Expression l.fn.expression)

abbrev pub decreases-read-loop-links : goal.decreases-read-loop-links
decreases-read-loop-links l = size-Expression l.rest
