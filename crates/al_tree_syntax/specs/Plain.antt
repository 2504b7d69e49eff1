-- The rules without factoring: what each of those rules says that was written for reading by the next lexeme.
use Rattle.std.specs.Prelude.{ℕ, ◌↔◌, List}
use Rattle.al_tree_grammar.specs.Grammar.{Lexeme, Rule, Sentence}
use Rattle.al_tree_grammar.specs.Grammar.Rule.{Opt, Many}
use Rattle.al_tree_syntax.specs.Symbols.Symbol.{Apostrophe, LeftParenthesis, RightParenthesis, Comma, Colon, Semicolon, Arrow, DoubleDot, And, Array, Body, Constant, Else, Entry, In, Is, Not, Of, Or, Others, Package, Private, Separate, Task, Then, Xor}
use Rattle.al_tree_syntax.specs.Constructs.Construct.{Parentheses, ParentName, ArrayIndex, EntryBody, TaskBody, SubprogramBody, PackageDeclaration, PackageUnit}
use Rattle.al_tree_syntax.specs.Notation.{◌⨾◌, ◌∣◌, the, any, opens, opens_at}
use Rattle.al_tree_syntax.specs.Expressions.{identifier_rule, identifiers_rule, name_rest_rule, name_rule, parentheses_rule, simple_expression_rule, relational_rule, relation_rule, expression_rule, expressions_rule}
use Rattle.al_tree_syntax.specs.Declarations.{subtype_indication_rule, array_rule, initial_rule, object_rule, specification_rule, subprogram_rule, task_rule, operation_body_rule}
use Rattle.al_tree_syntax.specs.Statements.{loop_rule, block_rule, named_rule}
use Rattle.al_tree_syntax.specs.Units.{library_item_rule}
use Rattle.al_tree_syntax.specs.Rules.{inside, grammar}

-- Both rules have the same sentences, however many constructs may be open.
abbrev pub SameSentences : Rule → Rule → Type 0
SameSentences a b = (d : ℕ) (xs : List Lexeme) → Sentence grammar d a xs ↔ Sentence grammar d b xs

-- a name that is no qualified expression
unfoldable pub target_rule : Rule
target_rule = identifier_rule ⨾ name_rest_rule

-- target [' parentheses]
unfoldable pub plain_name_rule : Rule
plain_name_rule = target_rule ⨾ Opt (the Apostrophe ⨾ parentheses_rule)

-- simple [operator simple] | simple [not] in simple [.. simple]
unfoldable pub plain_relation_rule : Rule
plain_relation_rule =
    simple_expression_rule ⨾ Opt (relational_rule ⨾ simple_expression_rule)
    ∣ simple_expression_rule ⨾ Opt (any Not) ⨾ the In ⨾ simple_expression_rule ⨾ Opt (the DoubleDot ⨾ simple_expression_rule)

-- relations with one logical operator between them
unfoldable pub plain_expression_rule : Rule
plain_expression_rule =
    relation_rule ⨾ Many (the And ⨾ relation_rule)
    ∣ relation_rule ⨾ Many (the Or ⨾ relation_rule)
    ∣ relation_rule ⨾ Many (the Xor ⨾ relation_rule)
    ∣ relation_rule ⨾ Many (the And ⨾ the Then ⨾ relation_rule)
    ∣ relation_rule ⨾ Many (the Or ⨾ the Else ⨾ relation_rule)

-- array ( range ) of indication
unfoldable pub plain_array_rule : Rule
plain_array_rule = the Array ⨾ opens_at LeftParenthesis ArrayIndex ⨾ the Of ⨾ subtype_indication_rule

-- identifiers : [constant] (indication | array) [:= expression] ; | identifiers : constant := expression ;
unfoldable pub plain_object_rule : Rule
plain_object_rule =
    identifiers_rule ⨾ the Colon ⨾ Opt (the Constant) ⨾ (subtype_indication_rule ∣ array_rule) ⨾ Opt initial_rule ⨾ the Semicolon
    ∣ identifiers_rule ⨾ the Colon ⨾ the Constant ⨾ initial_rule ⨾ the Semicolon

-- specification ; | specification is separate ; | specification is ..
unfoldable pub plain_subprogram_rule : Rule
plain_subprogram_rule =
    specification_rule ⨾ the Semicolon
    ∣ specification_rule ⨾ the Is ⨾ any Separate ⨾ the Semicolon
    ∣ specification_rule ⨾ opens Is SubprogramBody

-- target := expression ; | target ; | identifier : (loop | block)
unfoldable pub plain_named_rule : Rule
plain_named_rule =
    target_rule ⨾ initial_rule ⨾ the Semicolon
    ∣ target_rule ⨾ the Semicolon
    ∣ identifier_rule ⨾ the Colon ⨾ (loop_rule ∣ block_rule)

-- after a parenthesis: expression ) | expression , expression {, expression} ) | others => expression )
unfoldable pub plain_parentheses_rule : Rule
plain_parentheses_rule =
    expression_rule ⨾ the RightParenthesis
    ∣ expression_rule ⨾ the Comma ⨾ expressions_rule ⨾ the RightParenthesis
    ∣ the Others ⨾ the Arrow ⨾ expression_rule ⨾ the RightParenthesis

-- a task, or the body of one
unfoldable pub plain_task_rule : Rule
plain_task_rule = any Task ⨾ task_rule ∣ any Task ⨾ opens Body TaskBody

-- body in a protected body
unfoldable pub plain_operation_body_rule : Rule
plain_operation_body_rule = specification_rule ⨾ opens Is SubprogramBody ∣ opens_at Entry EntryBody

-- the unit after its context clause
unfoldable pub plain_library_item_rule : Rule
plain_library_item_rule =
    any Private ⨾ specification_rule ⨾ the Semicolon
    ∣ any Private ⨾ opens_at Package PackageDeclaration
    ∣ specification_rule ⨾ the Semicolon
    ∣ specification_rule ⨾ opens Is SubprogramBody
    ∣ opens_at Package PackageUnit
    ∣ any Separate ⨾ opens_at LeftParenthesis ParentName ⨾ specification_rule ⨾ opens Is SubprogramBody

abbrev pub RulesArePlain : Type 0
RulesArePlain =
    SameSentences name_rule plain_name_rule
    × SameSentences relation_rule plain_relation_rule
    × SameSentences expression_rule plain_expression_rule
    × SameSentences array_rule plain_array_rule
    × SameSentences object_rule plain_object_rule
    × SameSentences (specification_rule ⨾ subprogram_rule) plain_subprogram_rule
    × SameSentences (identifier_rule ⨾ named_rule) plain_named_rule
    × SameSentences (inside Parentheses) plain_parentheses_rule
    × SameSentences (any Task ⨾ (task_rule ∣ opens Body TaskBody)) plain_task_rule
    × SameSentences operation_body_rule plain_operation_body_rule
    × SameSentences library_item_rule plain_library_item_rule
