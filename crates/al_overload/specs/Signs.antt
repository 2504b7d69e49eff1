-- How operators are written (ARM 4.5).
use Rattle.al_view_predefined.specs.declared.operators.OperatorSymbol.{OperatorSymbol}
use Rattle.al_view_predefined.specs.declared.operators.OperatorSymbol.TheVariants as sign
use Rattle.al_view_typed.specs.declared.label.BinaryOperator.{BinaryOperator}
use Rattle.al_view_typed.specs.declared.label.BinaryOperator.TheVariants as binary
use Rattle.al_view_typed.specs.declared.label.UnaryOperator.{UnaryOperator}
use Rattle.al_view_typed.specs.declared.label.UnaryOperator.TheVariants as unary

abbrev pub unary_sign : UnaryOperator → OperatorSymbol
unary_sign unary.Plus = sign.Plus
unary_sign unary.Minus = sign.Minus
unary_sign unary.Abs = sign.Abs
unary_sign unary.Not = sign.Not

abbrev pub binary_sign : BinaryOperator → OperatorSymbol
binary_sign binary.And = sign.And
binary_sign binary.Or = sign.Or
binary_sign binary.Xor = sign.Xor
binary_sign binary.Equal = sign.Equal
binary_sign binary.NotEqual = sign.NotEqual
binary_sign binary.Less = sign.Less
binary_sign binary.LessOrEqual = sign.LessOrEqual
binary_sign binary.Greater = sign.Greater
binary_sign binary.GreaterOrEqual = sign.GreaterOrEqual
binary_sign binary.Plus = sign.Plus
binary_sign binary.Minus = sign.Minus
binary_sign binary.Times = sign.Times
binary_sign binary.Divide = sign.Divide
binary_sign binary.Mod = sign.Mod
binary_sign binary.Rem = sign.Rem
binary_sign binary.Power = sign.Power
binary_sign binary.SameWords = sign.Equal
binary_sign binary.OtherWords = sign.NotEqual
