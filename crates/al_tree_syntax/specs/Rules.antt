-- The grammar.
use Rattle.std.specs.Prelude.{ℕ}
use Rattle.al_tree_grammar.specs.Grammar.{Rule, Grammar}
use Rattle.al_tree_grammar.specs.Grammar.Rule.{Many}
use Rattle.al_tree_syntax.specs.Symbols.Symbol.{RightParenthesis, Semicolon, Arrow, Body, End, Is, Null, Others, Record, Separate, When}
use Rattle.al_tree_syntax.specs.Constructs.{Construct, construct_at}
use Rattle.al_tree_syntax.specs.Constructs.Construct.{Parentheses, Arguments, PragmaArguments, ParentName, FormalPart, EnumerationLiterals, ArrayIndex, RecordDefinition, ProtectedDeclaration, ProtectedUnit, EntryBody, TaskBody, SubprogramBody, BodyOrStub, PackageDeclaration, PackageUnit, IfStatement, CaseStatement, WhileLoop, ForLoop, PlainLoop, DeclareBlock, PlainBlock}
use Rattle.al_tree_syntax.specs.Notation.{◌⨾◌, ◌∣◌, the, any, parted}
use Rattle.al_tree_syntax.specs.Expressions.{identifier_rule, identifiers_rule, compound_name_rule, compound_names_rule, expression_rule, expressions_rule, discrete_range_rule}
use Rattle.al_tree_syntax.specs.Declarations.{component_rule, formal_rule, protected_rule, protected_body_rule}
use Rattle.al_tree_syntax.specs.Statements.{if_rule, case_rule, plain_loop_rule, while_rule, for_rule, plain_block_rule, declare_rule}
use Rattle.al_tree_syntax.specs.Units.{subprogram_body_rule, package_rule, package_body_rule}

-- what a construct has after the word that it opens with
unfoldable pub inside : Construct → Rule
inside Parentheses = (expressions_rule ∣ the Others ⨾ the Arrow ⨾ expression_rule) ⨾ the RightParenthesis
inside Arguments = expressions_rule ⨾ the RightParenthesis
inside PragmaArguments = compound_names_rule ⨾ the RightParenthesis
inside ParentName = compound_name_rule ⨾ the RightParenthesis
inside FormalPart = parted Semicolon formal_rule ⨾ the RightParenthesis
inside EnumerationLiterals = identifiers_rule ⨾ the RightParenthesis
inside ArrayIndex = discrete_range_rule ⨾ the RightParenthesis
inside RecordDefinition = (component_rule ⨾ Many component_rule ∣ the Null ⨾ the Semicolon) ⨾ any End ⨾ the Record
inside ProtectedDeclaration = protected_rule
inside ProtectedUnit = protected_rule ∣ the Body ⨾ protected_body_rule
inside EntryBody = identifier_rule ⨾ the When ⨾ expression_rule ⨾ the Is ⨾ declare_rule
inside TaskBody = identifier_rule ⨾ the Is ⨾ declare_rule
inside SubprogramBody = subprogram_body_rule
inside BodyOrStub = any Separate ⨾ the Semicolon ∣ subprogram_body_rule
inside PackageDeclaration = package_rule
inside PackageUnit = package_rule ∣ the Body ⨾ package_body_rule
inside IfStatement = if_rule
inside CaseStatement = case_rule
inside WhileLoop = while_rule
inside ForLoop = for_rule
inside PlainLoop = plain_loop_rule
inside DeclareBlock = declare_rule
inside PlainBlock = plain_block_rule

unfoldable pub grammar : Grammar
grammar n = inside (construct_at n)

-- the most constructs that may be open at once
abbrev pub most : ℕ
most = 64
