-- Library units and subunits (ARM 10.1), and what each construct has inside.
use Rattle.al_tree_grammar.specs.Grammar.{Rule}
use Rattle.al_tree_grammar.specs.Grammar.Rule.{Opt, Many, Room}
use Rattle.al_tree_syntax.specs.Symbols.Symbol.{LeftParenthesis, Semicolon, Begin, End, Is, Package, Private, Separate, With}
use Rattle.al_tree_syntax.specs.Constructs.Construct.{ParentName, SubprogramBody, PackageDeclaration, PackageUnit}
use Rattle.al_tree_syntax.specs.Notation.{◌⨾◌, ◌∣◌, the, any, opens, opens_at}
use Rattle.al_tree_syntax.specs.Expressions.{compound_name_rule, compound_names_rule}
use Rattle.al_tree_syntax.specs.Declarations.{use_rule, pragma_rule, specification_rule, declaration_rule, item_rule}
use Rattle.al_tree_syntax.specs.Statements.{statements_rule}

-- after `is` in the body of a subprogram (ARM 6.3)
unfoldable pub subprogram_body_rule : Rule
subprogram_body_rule = Many item_rule ⨾ any Begin ⨾ statements_rule ⨾ any End ⨾ Opt compound_name_rule ⨾ the Semicolon

-- after `package` in a declaration (ARM 7.1)
unfoldable pub package_rule : Rule
package_rule = compound_name_rule ⨾ the Is ⨾ Many declaration_rule ⨾ Opt (any Private ⨾ Many declaration_rule) ⨾ any End ⨾ Opt compound_name_rule ⨾ the Semicolon

-- after `package body` (ARM 7.2)
unfoldable pub package_body_rule : Rule
package_body_rule = compound_name_rule ⨾ the Is ⨾ Many item_rule ⨾ Opt (any Begin ⨾ statements_rule) ⨾ any End ⨾ Opt compound_name_rule ⨾ the Semicolon

-- with clause, use clause or pragma (ARM 10.1.2)
unfoldable pub context_rule : Rule
context_rule = the With ⨾ compound_names_rule ⨾ the Semicolon ∣ use_rule ∣ pragma_rule

unfoldable pub library_item_rule : Rule
library_item_rule =
    any Private ⨾ (specification_rule ⨾ the Semicolon ∣ opens_at Package PackageDeclaration)
    ∣ specification_rule ⨾ (the Semicolon ∣ opens Is SubprogramBody)
    ∣ opens_at Package PackageUnit
    ∣ any Separate ⨾ opens_at LeftParenthesis ParentName ⨾ specification_rule ⨾ opens Is SubprogramBody

-- compilation unit (ARM 10.1.1)
unfoldable pub unit_rule : Rule
unit_rule = Room (Many context_rule ⨾ library_item_rule)
