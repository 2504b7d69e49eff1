-- Chains of operators: what follows the left operand of each link.
use Rattle.std.specs.Prelude.{ℕ, ◌<◌, List, [], ◌∷◌, ◌++◌, ⊤}
use Rattle.al_code.specs.Pieces.{Piece}
use Rattle.al_code.specs.Templates.{binary_code, short_code, value_of}
use Rattle.al_code.specs.declared.chain.Joint.{Joint}
use Rattle.al_code.specs.declared.chain.Sign.{Sign}
use Rattle.al_code.specs.declared.chain.Sign.TheVariants as signs
use Rattle.al_view_typed.specs.ExpressionViews.{typed_model}
use Rattle.al_view_typed.specs.declared.expression.Typed.{Typed, size-Typed}

-- a link: the right operand and the operator, or the test whether the right operand is computed
abbrev pub sign_code : Sign → List Piece → List Piece
sign_code (signs.Operator operator words) right = right ++ binary_code operator words
sign_code (signs.ShortCircuit operator) right = short_code operator right

abbrev pub joint_code : ℕ → Joint → List Piece
joint_code depth joint = sign_code joint.sign (value_of depth (typed_model joint.right.now))

-- the last link of the source comes first
abbrev pub chained_code : ℕ → List Joint → List Piece
chained_code depth [] = []
chained_code depth (joint ∷ joints) = chained_code depth joints ++ joint_code depth joint

-- ---- operands are less deep than the whole

abbrev pub IsBelow : Typed → Typed → Type 0
IsBelow whole part = size-Typed part < size-Typed whole

abbrev pub AreBelow : Typed → List Joint → Type 0
AreBelow whole [] = ⊤
AreBelow whole (joint ∷ joints) = IsBelow whole joint.right.now × AreBelow whole joints
