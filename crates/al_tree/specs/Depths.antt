-- What a chain begins with is less deep than the chain.
use Rattle.std.specs.Prelude.{◌<◌}
use Rattle.al_tree.specs.declared.expression.Expression.{Expression, size-Expression}
use Rattle.al_tree.specs.declared.expression.Infix.{Infix, size-Infix}
use Rattle.al_tree.specs.declared.expression.Longer.{Longer, size-Longer}
use Rattle.al_tree.specs.declared.expression.Member.{Member, size-Member}

abbrev pub IsBeforePart : Expression → Longer → Type 0
IsBeforePart prefix whole = size-Expression prefix < size-Longer whole

abbrev pub IsLeftOperand : Expression → Infix → Type 0
IsLeftOperand left whole = size-Expression left < size-Infix whole

abbrev pub IsTested : Expression → Member → Type 0
IsTested left whole = size-Expression left < size-Member whole
