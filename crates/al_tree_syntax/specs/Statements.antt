-- Statements (ARM 5).
use Rattle.al_tree_grammar.specs.Grammar.{Rule}
use Rattle.al_tree_grammar.specs.Grammar.Rule.{Opt, Many, Room}
use Rattle.al_tree_syntax.specs.Symbols.Symbol.{Colon, Semicolon, VerticalLine, Arrow, Begin, Case, Declare, Delay, Else, Elsif, End, Exit, For, If, In, Is, Loop, Null, Others, Return, Reverse, Then, Until, When, While}
use Rattle.al_tree_syntax.specs.Constructs.Construct.{IfStatement, CaseStatement, WhileLoop, ForLoop, PlainLoop, DeclareBlock, PlainBlock}
use Rattle.al_tree_syntax.specs.Notation.{◌⨾◌, ◌∣◌, the, any, opens_at, parted}
use Rattle.al_tree_syntax.specs.Expressions.{identifier_rule, name_rest_rule, expression_rule, discrete_range_rule}
use Rattle.al_tree_syntax.specs.Declarations.{initial_rule, item_rule}

-- loops (ARM 5.5)
unfoldable pub loop_rule : Rule
loop_rule = opens_at Loop PlainLoop ∣ opens_at While WhileLoop ∣ opens_at For ForLoop

-- block statements (ARM 5.6)
unfoldable pub block_rule : Rule
block_rule = opens_at Declare DeclareBlock ∣ opens_at Begin PlainBlock

-- What comes after the identifier that a statement begins with: an assignment, a call, or a loop or block of that name.
unfoldable pub named_rule : Rule
named_rule = name_rest_rule ⨾ Opt initial_rule ⨾ the Semicolon ∣ Room (the Colon ⨾ (loop_rule ∣ block_rule))

-- return statement (ARM 6.5)
unfoldable pub return_rule : Rule
return_rule = any Return ⨾ Opt expression_rule ⨾ the Semicolon

-- exit statement (ARM 5.7)
unfoldable pub exit_rule : Rule
exit_rule = any Exit ⨾ Opt identifier_rule ⨾ Opt (the When ⨾ expression_rule) ⨾ the Semicolon

-- delay statement (ARM 9.6)
unfoldable pub delay_rule : Rule
delay_rule = any Delay ⨾ the Until ⨾ expression_rule ⨾ the Semicolon

unfoldable pub statement_rule : Rule
statement_rule =
    the Null ⨾ the Semicolon ∣ identifier_rule ⨾ named_rule ∣ return_rule ∣ exit_rule ∣ delay_rule
    ∣ opens_at If IfStatement ∣ opens_at Case CaseStatement ∣ loop_rule ∣ block_rule

-- statement {statement}
unfoldable pub statements_rule : Rule
statements_rule = statement_rule ⨾ Many statement_rule

-- after `if`, and after `elsif`
unfoldable pub branch_rule : Rule
branch_rule = expression_rule ⨾ the Then ⨾ statements_rule

-- after `if` (ARM 5.3)
unfoldable pub if_rule : Rule
if_rule = branch_rule ⨾ Many (any Elsif ⨾ branch_rule) ⨾ Opt (the Else ⨾ statements_rule) ⨾ any End ⨾ any If ⨾ the Semicolon

-- others, or a discrete range
unfoldable pub choice_rule : Rule
choice_rule = the Others ∣ discrete_range_rule

-- when choice {| choice} => statements
unfoldable pub alternative_rule : Rule
alternative_rule = the When ⨾ parted VerticalLine choice_rule ⨾ the Arrow ⨾ statements_rule

-- after `case` (ARM 5.4)
unfoldable pub case_rule : Rule
case_rule = expression_rule ⨾ the Is ⨾ alternative_rule ⨾ Many alternative_rule ⨾ any End ⨾ any Case ⨾ the Semicolon

-- after `loop`
unfoldable pub plain_loop_rule : Rule
plain_loop_rule = statements_rule ⨾ any End ⨾ any Loop ⨾ Opt identifier_rule ⨾ the Semicolon

-- after `while`
unfoldable pub while_rule : Rule
while_rule = expression_rule ⨾ any Loop ⨾ plain_loop_rule

-- after `for`
unfoldable pub for_rule : Rule
for_rule = identifier_rule ⨾ the In ⨾ Opt (the Reverse) ⨾ discrete_range_rule ⨾ any Loop ⨾ plain_loop_rule

-- after `begin`, in a block, a task body or an entry body
unfoldable pub plain_block_rule : Rule
plain_block_rule = statements_rule ⨾ any End ⨾ Opt identifier_rule ⨾ the Semicolon

-- after `declare`; also what an entry body and a task body have after `is`
unfoldable pub declare_rule : Rule
declare_rule = Many item_rule ⨾ any Begin ⨾ plain_block_rule
