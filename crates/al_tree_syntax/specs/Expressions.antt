-- Names and expressions (ARM 4.1 to 4.5).
use Rattle.al_tree_grammar.specs.Grammar.{Rule}
use Rattle.al_tree_grammar.specs.Grammar.Rule.{Opt, Many, Marked}
use Rattle.al_tree_syntax.specs.Symbols.{number}
use Rattle.al_tree_syntax.specs.Symbols.Symbol.{Identifier, Number, StringLiteral, Ampersand, Apostrophe, LeftParenthesis, Asterisk, Plus, Comma, Minus, Dot, Slash, Less, Equal, Greater, DoubleDot, DoubleAsterisk, NotEqual, GreaterOrEqual, LessOrEqual, Abs, And, Else, In, Mod, Not, Or, Range, Rem, Then, Xor}
use Rattle.al_tree_syntax.specs.Constructs.Construct.{Parentheses, Arguments}
use Rattle.al_tree_syntax.specs.Notation.{◌⨾◌, ◌∣◌, the, any, opens_at, parted}

unfoldable pub identifier_rule : Rule
identifier_rule = any Identifier

unfoldable pub identifiers_rule : Rule
identifiers_rule = parted Comma identifier_rule

-- identifier {. identifier}
unfoldable pub compound_name_rule : Rule
compound_name_rule = parted Dot identifier_rule

unfoldable pub compound_names_rule : Rule
compound_names_rule = parted Comma compound_name_rule

-- . identifier, or ( expression {, expression} )
unfoldable pub selection_rule : Rule
selection_rule = the Dot ⨾ identifier_rule ∣ opens_at LeftParenthesis Arguments

-- what comes after the ' of an attribute
unfoldable pub designator_rule : Rule
designator_rule = identifier_rule ∣ the Range

-- after the identifier that a name begins with, if no qualified expression is allowed
unfoldable pub name_rest_rule : Rule
name_rest_rule = Many (the Dot ⨾ identifier_rule ∣ opens_at LeftParenthesis Arguments ∣ the Apostrophe ⨾ designator_rule)

unfoldable pub parentheses_rule : Rule
parentheses_rule = opens_at LeftParenthesis Parentheses

-- A name, or a qualified expression. The lexeme after a ' decides whether the name goes on or is the subtype of what is qualified.
unfoldable pub name_rule : Rule
name_rule = identifier_rule ⨾ Many selection_rule ⨾ Marked (number Apostrophe) (designator_rule ⨾ Many selection_rule) parentheses_rule

unfoldable pub primary_rule : Rule
primary_rule = any Number ∣ any StringLiteral ∣ name_rule ∣ parentheses_rule

-- primary [** primary], abs primary, not primary
unfoldable pub factor_rule : Rule
factor_rule = primary_rule ⨾ Opt (the DoubleAsterisk ⨾ primary_rule) ∣ any Abs ⨾ primary_rule ∣ any Not ⨾ primary_rule

unfoldable pub multiplying_rule : Rule
multiplying_rule = the Asterisk ∣ the Slash ∣ the Mod ∣ the Rem

unfoldable pub term_rule : Rule
term_rule = factor_rule ⨾ Many (multiplying_rule ⨾ factor_rule)

unfoldable pub adding_rule : Rule
adding_rule = any Plus ∣ any Minus ∣ the Ampersand

unfoldable pub simple_expression_rule : Rule
simple_expression_rule = Opt (any Plus ∣ any Minus) ⨾ term_rule ⨾ Many (adding_rule ⨾ term_rule)

unfoldable pub relational_rule : Rule
relational_rule = the Equal ∣ the NotEqual ∣ the Less ∣ the LessOrEqual ∣ the Greater ∣ the GreaterOrEqual

-- [not] in simple [.. simple]
unfoldable pub membership_rule : Rule
membership_rule = Opt (any Not) ⨾ the In ⨾ simple_expression_rule ⨾ Opt (the DoubleDot ⨾ simple_expression_rule)

unfoldable pub relation_rule : Rule
relation_rule = simple_expression_rule ⨾ Opt (relational_rule ⨾ simple_expression_rule ∣ membership_rule)

-- after the first `and`
unfoldable pub and_rule : Rule
and_rule = relation_rule ⨾ Many (the And ⨾ relation_rule) ∣ the Then ⨾ relation_rule ⨾ Many (the And ⨾ the Then ⨾ relation_rule)

-- after the first `or`
unfoldable pub or_rule : Rule
or_rule = relation_rule ⨾ Many (the Or ⨾ relation_rule) ∣ the Else ⨾ relation_rule ⨾ Many (the Or ⨾ the Else ⨾ relation_rule)

-- after the first `xor`
unfoldable pub xor_rule : Rule
xor_rule = relation_rule ⨾ Many (the Xor ⨾ relation_rule)

-- relations joined by one logical operator (ARM 4.4(2))
unfoldable pub expression_rule : Rule
expression_rule = relation_rule ⨾ Opt (the And ⨾ and_rule ∣ the Or ⨾ or_rule ∣ the Xor ⨾ xor_rule)

unfoldable pub expressions_rule : Rule
expressions_rule = parted Comma expression_rule

-- range simple .. simple
unfoldable pub range_rule : Rule
range_rule = the Range ⨾ simple_expression_rule ⨾ the DoubleDot ⨾ simple_expression_rule

-- simple [.. simple], or simple range simple .. simple (ARM 3.6.1)
unfoldable pub discrete_range_rule : Rule
discrete_range_rule = simple_expression_rule ⨾ Opt (the DoubleDot ⨾ simple_expression_rule ∣ range_rule)
