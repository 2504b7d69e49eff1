-- Expressions that are processed down to what is at their left.
use Rattle.std.specs.Prelude.{◌<◌, Option, ⊤}
use Rattle.al_base.specs.declared.place.Place.{Place}
use Rattle.al_base_fault.specs.declared.fault.Fault.{Fault}
use Rattle.al_overload.specs.declared.everywhere.Predefined.{Predefined}
use Rattle.al_overload_lookup.specs.Keys.{Denotations}
use Rattle.al_overload_values.specs.Texts.{text_fault}
use Rattle.al_overload_values.specs.declared.text.Step.{Step}
use Rattle.al_overload_values.specs.declared.text.Step.TheVariants as steps
use Rattle.al_tree.specs.ExpressionViews.{expression_model}
use Rattle.al_tree.specs.declared.expression.Expression.{Expression, size-Expression}
use Rattle.al_tree.specs.declared.expression.Member.{Member, out-Member}
use Rattle.al_view.specs.declared.symbol.Symbol.{Symbol}

-- the fault of all, with that of what is at the left
abbrev pub stepped : Predefined → Option Symbol → Denotations → Place → Step → Option Fault
stepped p own d at (steps.Down fault left) = text_fault p own d at fault (expression_model left.now)
stepped p own d at (steps.Last fault) = fault

-- what is at the left is less deep than the whole
abbrev pub IsBelow : Expression → Step → Type 0
IsBelow expression (steps.Down fault left) = size-Expression left.now < size-Expression expression
IsBelow expression (steps.Last fault) = ⊤

-- what a membership test begins with
abbrev pub tested_value : Member → Expression
tested_value m = (out-Member m).left
