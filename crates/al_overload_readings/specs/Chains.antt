-- Chains of operators, each of which joins what is at its left with its right operand, and of the parts of a name.
use Rattle.std.specs.Prelude.{◌<◌, List, [], ◌∷◌, Result, ⊤}
use Rattle.al_base_fault.specs.Judging.{next, map_ok}
use Rattle.al_base_fault.specs.declared.fault.Fault.{Fault}
use Rattle.al_overload_lookup.specs.Keys.{Denotations}
use Rattle.al_overload_readings.specs.Readings.{valued}
use Rattle.al_overload_readings.specs.Steps.{joined_read}
use Rattle.al_overload.specs.Terms.{TermTree}
use Rattle.al_overload.specs.TermViews.{term_model}
use Rattle.al_overload_readings.specs.declared.chain.Joint.{Joint}
use Rattle.al_overload_readings.specs.Noted.{NotedTree, linked, noted_model}
use Rattle.al_overload_readings.specs.Texts.{noted}
use Rattle.al_overload_readings.specs.declared.name.Step.{Step}
use Rattle.al_overload_readings.specs.declared.name.Step.TheVariants as steps
use Rattle.al_tree.specs.ExpressionViews.{expression_model, operator_model}
use Rattle.al_tree.specs.declared.expression.Expression.{Expression, size-Expression}

-- one operator with both operands
abbrev pub joint_read : Denotations → Joint → Result TermTree Fault → Result TermTree Fault
joint_read d joint left = next (joined_read d (operator_model joint.operator) left (map_ok term_model joint.right)) valued

-- the last operator of the text comes first
abbrev pub chained : Denotations → List Joint → Result TermTree Fault → Result TermTree Fault
chained d [] first = first
chained d (joint ∷ joints) first = joint_read d joint (chained d joints first)

-- ---- names, which have one part after another

-- what a step down makes of an expression, with what comes before its last part
abbrev pub stepped : Denotations → Step → NotedTree
stepped d (steps.Down link prefix) = linked d link (noted d (expression_model prefix.now))
stepped d (steps.Last n) = noted_model n

-- what comes before is less deep than the whole
abbrev pub IsBelow : Expression → Step → Type 0
IsBelow expression (steps.Down link prefix) = size-Expression prefix.now < size-Expression expression
IsBelow expression (steps.Last n) = ⊤
