-- Operands that are joined by operators of one level.
use Rattle.std.specs.Prelude.{ℕ, ◌≡◌, ◌+◌, true}
use Rattle.al_tree_grammar.specs.Grammar.{Rule}
use Rattle.al_tree_syntax.specs.ExpressionTrees.{ExpressionTree, ExpressionTree as trees, Level, Operator, left_level, right_level, stands}
use Rattle.al_tree_syntax.specs.ExpressionTrees.Level.{ChainLevel, SimpleLevel, TermLevel}
use Rattle.al_tree_syntax.specs.Expressions.{adding_rule, factor_rule, multiplying_rule, term_rule}
use Rattle.al_tree_syntax.specs.Notation.{◌⨾◌}
use Rattle.al_tree.specs.ExpressionViews.{logical_model}
use Rattle.al_parse.specs.declared.chain.Chain.{Chain}
use Rattle.al_parse.specs.declared.chain.Chain.TheVariants.{Logical, Product, Sum}
use Rattle.al_parse.specs.Logical.{after_rule}

-- an operator and its right operand
abbrev pub link_rule : Chain → Rule
link_rule Product = multiplying_rule ⨾ factor_rule
link_rule Sum = adding_rule ⨾ term_rule
link_rule (Logical o) = after_rule (logical_model o)

abbrev pub level_of : Chain → Level
level_of Product = TermLevel
level_of Sum = SimpleLevel
level_of (Logical o) = ChainLevel (logical_model o)

-- The operator joins an expression at the level with this operand to an expression at the level.
pub record Joins (k : Level) (o : Operator) (right : ExpressionTree) : Type 0 where
  pub leans : left_level o ≡ k
  pub stood : stands (right_level o) right ≡ true
  pub whole : (e : ExpressionTree) → stands k (trees.Infix e o right) ≡ true

-- the functions that read the links of a chain come before those of the next one
abbrev pub weight : Chain → ℕ
weight Product = 10
weight Sum = 13
weight (Logical o) = 23
