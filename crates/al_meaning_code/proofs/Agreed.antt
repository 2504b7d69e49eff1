-- The law of operators.
use Rattle.std.proofs.Common.{◌≡◌, refl}
use Rattle.al_view_typed.specs.declared.label.UnaryOperator.{UnaryOperator}
use Rattle.al_view_typed.specs.declared.label.UnaryOperator.TheVariants as unary
use Rattle.al_code.specs.ExprPieces.{one}
use Rattle.al_code.specs.Templates.{unary_code}
use Rattle.al_meaning_code.specs.Laws.{OperatorsAgree}
use Rattle.al_meaning_code.proofs.Operators.{plain_for, operator_for, binary_is, operation_is, agree-applied, unary_plain, unary_for, unary_operation_is, agree-changed}

unary_is : (o : UnaryOperator) → (o ≡ unary.Plus → ⊥) → unary_code o ≡ one (unary_plain o)
unary_is unary.Plus n = absurd (n refl)
unary_is unary.Minus n = refl
unary_is unary.Abs n = refl
unary_is unary.Not n = refl

pub operators_agree : OperatorsAgree
operators_agree = (
  λ o words scalar. (plain_for o, operator_for o, binary_is o words scalar, operation_is o, λ a b. agree-applied o scalar a b),
  λ o other. (unary_plain o, unary_for o, unary_is o other, unary_operation_is o, λ a. agree-changed o other a),
)
