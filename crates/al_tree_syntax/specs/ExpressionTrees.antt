-- Trees of names and expressions (ARM 4.1 to 4.5) as plain data, and their lexemes.
use Rattle.std.specs.Prelude.{ℕ, Bool, true, false, leb, ◌||◌, List, [], ◌∷◌, ◌++◌, Option, Some, None}
use Rattle.al_tree_grammar.specs.Grammar.{Label, Lexeme}
use Rattle.al_tree_syntax.specs.Symbols.{Symbol as symbols}
use Rattle.al_tree_syntax.specs.Words.{word, labelled}

-- relations are joined by one of these (ARM 4.4(2))
pub data LogicalOperator : Type 0 where
  AndOperator : LogicalOperator
  AndThenOperator : LogicalOperator
  OrOperator : LogicalOperator
  OrElseOperator : LogicalOperator
  XorOperator : LogicalOperator

pub data RelationalOperator : Type 0 where
  EqualOperator : RelationalOperator
  NotEqualOperator : RelationalOperator
  LessOperator : RelationalOperator
  LessOrEqualOperator : RelationalOperator
  GreaterOperator : RelationalOperator
  GreaterOrEqualOperator : RelationalOperator

pub data AddingOperator : Type 0 where
  PlusOperator : Label → AddingOperator
  MinusOperator : Label → AddingOperator
  ConcatenationOperator : AddingOperator

pub data MultiplyingOperator : Type 0 where
  TimesOperator : MultiplyingOperator
  DivideOperator : MultiplyingOperator
  ModOperator : MultiplyingOperator
  RemOperator : MultiplyingOperator

-- before the first term
pub data Sign : Type 0 where
  PlusSign : Label → Sign
  MinusSign : Label → Sign

-- between a left and a right operand
pub data Operator : Type 0 where
  Logical : LogicalOperator → Operator
  Relational : RelationalOperator → Operator
  Adding : AddingOperator → Operator
  Multiplying : MultiplyingOperator → Operator
  Power : Operator

-- before an operand
pub data Prefix : Type 0 where
  Signed : Sign → Prefix
  Absolute : Label → Prefix
  Negation : Label → Prefix

mutual
  -- A name or an expression. A chain of operators leans to the left, and so do the parts of a name. Range bounds may come after
  -- `in`.
  pub data ExpressionTree : Type 0 where
    Number : Label → ExpressionTree
    Text : Label → ExpressionTree
    Name : Label → ExpressionTree
    Longer : ExpressionTree → PartTree → ExpressionTree
    Prefixed : Prefix → ExpressionTree → ExpressionTree
    Infix : ExpressionTree → Operator → ExpressionTree → ExpressionTree
    InMark : ExpressionTree → Option Label → ExpressionTree → ExpressionTree
    InRange : ExpressionTree → Option Label → ExpressionTree → ExpressionTree → ExpressionTree
    Group : GroupTree → ExpressionTree

  -- ( expression ), or a positional aggregate of two expressions at least; ( others => expression )
  pub data GroupTree : Type 0 where
    Positional : Label → ExpressionTree → ExpressionsTree → GroupTree
    OthersAggregate : Label → ExpressionTree → GroupTree

  pub data ExpressionsTree : Type 0 where
    NoExpression : ExpressionsTree
    MoreExpressions : ExpressionTree → ExpressionsTree → ExpressionsTree

  -- . identifier; ( expression {, expression} ); ' identifier; ' range; ' ( operand )
  pub data PartTree : Type 0 where
    Selector : Label → PartTree
    Arguments : Label → ExpressionTree → ExpressionsTree → PartTree
    Attribute : Label → PartTree
    RangeAttribute : PartTree
    Operand : GroupTree → PartTree

-- The levels at which an expression may be: a level has what the one before it has, and more. A chain has relations joined by one
-- operator.
pub data Level : Type 0 where
  NameLevel : Level
  PrimaryLevel : Level
  FactorLevel : Level
  TermLevel : Level
  SimpleLevel : Level
  RelationLevel : Level
  ChainLevel : LogicalOperator → Level

abbrev pub logical_tokens : LogicalOperator → List Lexeme
logical_tokens AndOperator = word symbols.And ∷ []
logical_tokens AndThenOperator = word symbols.And ∷ word symbols.Then ∷ []
logical_tokens OrOperator = word symbols.Or ∷ []
logical_tokens OrElseOperator = word symbols.Or ∷ word symbols.Else ∷ []
logical_tokens XorOperator = word symbols.Xor ∷ []

abbrev pub relational_token : RelationalOperator → Lexeme
relational_token EqualOperator = word symbols.Equal
relational_token NotEqualOperator = word symbols.NotEqual
relational_token LessOperator = word symbols.Less
relational_token LessOrEqualOperator = word symbols.LessOrEqual
relational_token GreaterOperator = word symbols.Greater
relational_token GreaterOrEqualOperator = word symbols.GreaterOrEqual

abbrev pub adding_token : AddingOperator → Lexeme
adding_token (PlusOperator l) = labelled symbols.Plus l
adding_token (MinusOperator l) = labelled symbols.Minus l
adding_token ConcatenationOperator = word symbols.Ampersand

abbrev pub multiplying_token : MultiplyingOperator → Lexeme
multiplying_token TimesOperator = word symbols.Asterisk
multiplying_token DivideOperator = word symbols.Slash
multiplying_token ModOperator = word symbols.Mod
multiplying_token RemOperator = word symbols.Rem

abbrev pub sign_tokens : Option Sign → List Lexeme
sign_tokens None = []
sign_tokens (Some (PlusSign l)) = labelled symbols.Plus l ∷ []
sign_tokens (Some (MinusSign l)) = labelled symbols.Minus l ∷ []

-- [not]
abbrev pub not_tokens : Option Label → List Lexeme
not_tokens None = []
not_tokens (Some l) = labelled symbols.Not l ∷ []

abbrev pub operator_tokens : Operator → List Lexeme
operator_tokens (Logical o) = logical_tokens o
operator_tokens (Relational o) = relational_token o ∷ []
operator_tokens (Adding o) = adding_token o ∷ []
operator_tokens (Multiplying o) = multiplying_token o ∷ []
operator_tokens Power = word symbols.DoubleAsterisk ∷ []

abbrev pub prefix_tokens : Prefix → List Lexeme
prefix_tokens (Signed s) = sign_tokens (Some s)
prefix_tokens (Absolute l) = labelled symbols.Abs l ∷ []
prefix_tokens (Negation l) = labelled symbols.Not l ∷ []

-- ---- the levels at which an expression may be

abbrev pub left_level : Operator → Level
left_level (Logical o) = ChainLevel o
left_level (Relational o) = SimpleLevel
left_level (Adding o) = SimpleLevel
left_level (Multiplying o) = TermLevel
left_level Power = PrimaryLevel

abbrev pub right_level : Operator → Level
right_level (Logical o) = RelationLevel
right_level (Relational o) = SimpleLevel
right_level (Adding o) = TermLevel
right_level (Multiplying o) = FactorLevel
right_level Power = PrimaryLevel

abbrev pub operand_level : Prefix → Level
operand_level (Signed s) = TermLevel
operand_level (Absolute l) = PrimaryLevel
operand_level (Negation l) = PrimaryLevel

abbrev pub operator_rank : Operator → ℕ
operator_rank (Logical o) = 6
operator_rank (Relational o) = 5
operator_rank (Adding o) = 4
operator_rank (Multiplying o) = 3
operator_rank Power = 2

abbrev pub prefix_rank : Prefix → ℕ
prefix_rank (Signed s) = 4
prefix_rank (Absolute l) = 2
prefix_rank (Negation l) = 2

-- after a name; what has an operand in parentheses is no name
abbrev pub part_rank : PartTree → ℕ
part_rank (Selector l) = 0
part_rank (Arguments l e es) = 0
part_rank (Attribute l) = 0
part_rank RangeAttribute = 0
part_rank (Operand g) = 1

abbrev pub rank : ExpressionTree → ℕ
rank (Number l) = 1
rank (Text l) = 1
rank (Name l) = 0
rank (Longer e p) = part_rank p
rank (Prefixed p e) = prefix_rank p
rank (Infix l o r) = operator_rank o
rank (InMark s n t) = 5
rank (InRange s n t u) = 5
rank (Group g) = 1

abbrev pub same_operator : LogicalOperator → LogicalOperator → Bool
same_operator AndOperator AndOperator = true
same_operator AndThenOperator AndThenOperator = true
same_operator OrOperator OrOperator = true
same_operator OrElseOperator OrElseOperator = true
same_operator XorOperator XorOperator = true
same_operator o p = false

abbrev pub is_logical : LogicalOperator → Operator → Bool
is_logical o (Logical p) = same_operator o p
is_logical o p = false

-- joined by this operator
abbrev pub is_joined : LogicalOperator → ExpressionTree → Bool
is_joined o (Infix l p r) = is_logical o p
is_joined o e = false

-- the expression may be at the level
abbrev pub stands : Level → ExpressionTree → Bool
stands NameLevel e = leb (rank e) 0
stands PrimaryLevel e = leb (rank e) 1
stands FactorLevel e = leb (rank e) 2
stands TermLevel e = leb (rank e) 3
stands SimpleLevel e = leb (rank e) 4
stands RelationLevel e = leb (rank e) 5
stands (ChainLevel o) e = leb (rank e) 5 || is_joined o e

-- ---- lexemes

-- An expression at a level at which it may not be has this lexeme, an identifier without its label: no rule has it, so no sentence.
abbrev pub misplaced : List Lexeme
misplaced = word symbols.Identifier ∷ []

abbrev pub placed : Bool → List Lexeme → List Lexeme
placed true xs = xs
placed false xs = misplaced

abbrev mutual
  pub expression_tokens : ExpressionTree → List Lexeme
  expression_tokens (Number l) = labelled symbols.Number l ∷ []
  expression_tokens (Text l) = labelled symbols.StringLiteral l ∷ []
  expression_tokens (Name l) = labelled symbols.Identifier l ∷ []
  expression_tokens (Longer e p) = placed (stands NameLevel e) (expression_tokens e) ++ part_tokens p
  expression_tokens (Prefixed p e) = prefix_tokens p ++ placed (stands (operand_level p) e) (expression_tokens e)
  expression_tokens (Infix l o r) = placed (stands (left_level o) l) (expression_tokens l) ++ (operator_tokens o ++ placed (stands (right_level o) r) (expression_tokens r))
  expression_tokens (InMark s n t) = placed (stands SimpleLevel s) (expression_tokens s) ++ (not_tokens n ++ word symbols.In ∷ placed (stands SimpleLevel t) (expression_tokens t))
  expression_tokens (InRange s n t u) =
      placed (stands SimpleLevel s) (expression_tokens s) ++ (not_tokens n ++ word symbols.In ∷ (placed (stands SimpleLevel t) (expression_tokens t)
      ++ word symbols.DoubleDot ∷ placed (stands SimpleLevel u) (expression_tokens u)))
  expression_tokens (Group g) = group_tokens g

  pub group_tokens : GroupTree → List Lexeme
  group_tokens (Positional l e es) = labelled symbols.LeftParenthesis l ∷ (expression_tokens e ++ (expressions_tokens es ++ word symbols.RightParenthesis ∷ []))
  group_tokens (OthersAggregate l e) = labelled symbols.LeftParenthesis l ∷ word symbols.Others ∷ word symbols.Arrow ∷ (expression_tokens e ++ word symbols.RightParenthesis ∷ [])

  -- each after a comma
  pub expressions_tokens : ExpressionsTree → List Lexeme
  expressions_tokens NoExpression = []
  expressions_tokens (MoreExpressions e es) = word symbols.Comma ∷ (expression_tokens e ++ expressions_tokens es)

  pub part_tokens : PartTree → List Lexeme
  part_tokens (Selector l) = word symbols.Dot ∷ labelled symbols.Identifier l ∷ []
  part_tokens (Arguments l e es) = labelled symbols.LeftParenthesis l ∷ (expression_tokens e ++ (expressions_tokens es ++ word symbols.RightParenthesis ∷ []))
  part_tokens (Attribute l) = word symbols.Apostrophe ∷ labelled symbols.Identifier l ∷ []
  part_tokens RangeAttribute = word symbols.Apostrophe ∷ word symbols.Range ∷ []
  part_tokens (Operand g) = word symbols.Apostrophe ∷ group_tokens g

-- at a level
abbrev pub tokens_at : Level → ExpressionTree → List Lexeme
tokens_at k e = placed (stands k e) (expression_tokens e)

abbrev pub simple_tokens : ExpressionTree → List Lexeme
simple_tokens e = tokens_at SimpleLevel e

abbrev pub name_tokens : ExpressionTree → List Lexeme
name_tokens e = tokens_at NameLevel e
