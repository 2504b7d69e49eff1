-- The next lexeme alone decides what to read of the grammar.
use Rattle.std.proofs.Common.{◌≡◌, true, false, refl}
use Rattle.al_tree_grammar.specs.Reading.{is_closed, is_clear, is_plain, IsClosed}
use Rattle.al_tree_syntax.specs.Constructs.{Construct, construct_at}
use Rattle.al_tree_syntax.specs.Constructs.Construct.{Parentheses, Arguments, PragmaArguments, ParentName, FormalPart, EnumerationLiterals, ArrayIndex, RecordDefinition, ProtectedDeclaration, ProtectedUnit, EntryBody, TaskBody, SubprogramBody, BodyOrStub, PackageDeclaration, PackageUnit, IfStatement, CaseStatement, WhileLoop, ForLoop, PlainLoop, DeclareBlock, PlainBlock}
use Rattle.al_tree_syntax.specs.Expressions.{identifier_rule, identifiers_rule, compound_name_rule, compound_names_rule, selection_rule, designator_rule, name_rest_rule, parentheses_rule, name_rule, primary_rule, factor_rule, multiplying_rule, term_rule, adding_rule, simple_expression_rule, relational_rule, membership_rule, relation_rule, and_rule, or_rule, xor_rule, expression_rule, expressions_rule, range_rule, discrete_range_rule}
use Rattle.al_tree_syntax.specs.Declarations.{use_rule, pragma_rule, subtype_indication_rule, array_rule, initial_rule, typed_rule, object_rule, component_rule, type_rule, subtype_rule, formal_rule, formals_rule, specification_rule, aspect_rule, task_rule, common_rule, declaration_rule, subprogram_rule, item_rule, operation_rule, element_rule, protected_rule, operation_body_rule, protected_body_rule}
use Rattle.al_tree_syntax.specs.Statements.{loop_rule, block_rule, named_rule, return_rule, exit_rule, delay_rule, statement_rule, statements_rule, branch_rule, if_rule, choice_rule, alternative_rule, case_rule, plain_loop_rule, while_rule, for_rule, plain_block_rule, declare_rule}
use Rattle.al_tree_syntax.specs.Units.{subprogram_body_rule, package_rule, package_body_rule, context_rule, library_item_rule, unit_rule}
use Rattle.al_tree_syntax.specs.Rules.{inside, grammar}

parentheses : is_closed (inside Parentheses) ≡ true
unfolding inside identifier_rule selection_rule designator_rule parentheses_rule name_rule primary_rule factor_rule multiplying_rule term_rule adding_rule simple_expression_rule relational_rule membership_rule relation_rule and_rule or_rule xor_rule expression_rule expressions_rule
parentheses = refl

arguments : is_closed (inside Arguments) ≡ true
unfolding inside identifier_rule selection_rule designator_rule parentheses_rule name_rule primary_rule factor_rule multiplying_rule term_rule adding_rule simple_expression_rule relational_rule membership_rule relation_rule and_rule or_rule xor_rule expression_rule expressions_rule
arguments = refl

pragma_arguments : is_closed (inside PragmaArguments) ≡ true
unfolding inside identifier_rule compound_name_rule compound_names_rule
pragma_arguments = refl

parent_name : is_closed (inside ParentName) ≡ true
unfolding inside identifier_rule compound_name_rule
parent_name = refl

formal_part : is_closed (inside FormalPart) ≡ true
unfolding inside identifier_rule identifiers_rule compound_name_rule formal_rule
formal_part = refl

enumeration_literals : is_closed (inside EnumerationLiterals) ≡ true
unfolding inside identifier_rule identifiers_rule
enumeration_literals = refl

array_index : is_closed (inside ArrayIndex) ≡ true
unfolding inside identifier_rule selection_rule designator_rule parentheses_rule name_rule primary_rule factor_rule multiplying_rule term_rule adding_rule simple_expression_rule range_rule discrete_range_rule
array_index = refl

record_definition : is_closed (inside RecordDefinition) ≡ true
unfolding inside identifier_rule identifiers_rule compound_name_rule selection_rule designator_rule parentheses_rule name_rule primary_rule factor_rule multiplying_rule term_rule adding_rule simple_expression_rule range_rule subtype_indication_rule component_rule
record_definition = refl

protected_declaration : is_closed (inside ProtectedDeclaration) ≡ true
unfolding inside identifier_rule identifiers_rule compound_name_rule selection_rule designator_rule parentheses_rule name_rule primary_rule factor_rule multiplying_rule term_rule adding_rule simple_expression_rule relational_rule membership_rule relation_rule and_rule or_rule xor_rule expression_rule range_rule subtype_indication_rule initial_rule formals_rule specification_rule aspect_rule operation_rule element_rule protected_rule
protected_declaration = refl

protected_unit : is_closed (inside ProtectedUnit) ≡ true
unfolding inside identifier_rule identifiers_rule compound_name_rule selection_rule designator_rule parentheses_rule name_rule primary_rule factor_rule multiplying_rule term_rule adding_rule simple_expression_rule relational_rule membership_rule relation_rule and_rule or_rule xor_rule expression_rule range_rule subtype_indication_rule initial_rule formals_rule specification_rule aspect_rule operation_rule element_rule protected_rule operation_body_rule protected_body_rule
protected_unit = refl

entry_body : is_closed (inside EntryBody) ≡ true
unfolding inside identifier_rule identifiers_rule compound_name_rule compound_names_rule selection_rule designator_rule name_rest_rule parentheses_rule name_rule primary_rule factor_rule multiplying_rule term_rule adding_rule simple_expression_rule relational_rule membership_rule relation_rule and_rule or_rule xor_rule expression_rule range_rule use_rule pragma_rule subtype_indication_rule array_rule initial_rule typed_rule object_rule type_rule subtype_rule formals_rule specification_rule aspect_rule task_rule common_rule subprogram_rule item_rule loop_rule block_rule named_rule return_rule exit_rule delay_rule statement_rule statements_rule plain_block_rule declare_rule
entry_body = refl

task_body : is_closed (inside TaskBody) ≡ true
unfolding inside identifier_rule identifiers_rule compound_name_rule compound_names_rule selection_rule designator_rule name_rest_rule parentheses_rule name_rule primary_rule factor_rule multiplying_rule term_rule adding_rule simple_expression_rule relational_rule membership_rule relation_rule and_rule or_rule xor_rule expression_rule range_rule use_rule pragma_rule subtype_indication_rule array_rule initial_rule typed_rule object_rule type_rule subtype_rule formals_rule specification_rule aspect_rule task_rule common_rule subprogram_rule item_rule loop_rule block_rule named_rule return_rule exit_rule delay_rule statement_rule statements_rule plain_block_rule declare_rule
task_body = refl

subprogram_body : is_closed (inside SubprogramBody) ≡ true
unfolding inside identifier_rule identifiers_rule compound_name_rule compound_names_rule selection_rule designator_rule name_rest_rule parentheses_rule name_rule primary_rule factor_rule multiplying_rule term_rule adding_rule simple_expression_rule relational_rule membership_rule relation_rule and_rule or_rule xor_rule expression_rule range_rule use_rule pragma_rule subtype_indication_rule array_rule initial_rule typed_rule object_rule type_rule subtype_rule formals_rule specification_rule aspect_rule task_rule common_rule subprogram_rule item_rule loop_rule block_rule named_rule return_rule exit_rule delay_rule statement_rule statements_rule subprogram_body_rule
subprogram_body = refl

body_or_stub : is_closed (inside BodyOrStub) ≡ true
unfolding inside identifier_rule identifiers_rule compound_name_rule compound_names_rule selection_rule designator_rule name_rest_rule parentheses_rule name_rule primary_rule factor_rule multiplying_rule term_rule adding_rule simple_expression_rule relational_rule membership_rule relation_rule and_rule or_rule xor_rule expression_rule range_rule use_rule pragma_rule subtype_indication_rule array_rule initial_rule typed_rule object_rule type_rule subtype_rule formals_rule specification_rule aspect_rule task_rule common_rule subprogram_rule item_rule loop_rule block_rule named_rule return_rule exit_rule delay_rule statement_rule statements_rule subprogram_body_rule
body_or_stub = refl

package_declaration : is_closed (inside PackageDeclaration) ≡ true
unfolding inside identifier_rule identifiers_rule compound_name_rule compound_names_rule selection_rule designator_rule parentheses_rule name_rule primary_rule factor_rule multiplying_rule term_rule adding_rule simple_expression_rule relational_rule membership_rule relation_rule and_rule or_rule xor_rule expression_rule range_rule use_rule pragma_rule subtype_indication_rule array_rule initial_rule typed_rule object_rule type_rule subtype_rule formals_rule specification_rule aspect_rule task_rule common_rule declaration_rule package_rule
package_declaration = refl

package_unit : is_closed (inside PackageUnit) ≡ true
unfolding inside identifier_rule identifiers_rule compound_name_rule compound_names_rule selection_rule designator_rule name_rest_rule parentheses_rule name_rule primary_rule factor_rule multiplying_rule term_rule adding_rule simple_expression_rule relational_rule membership_rule relation_rule and_rule or_rule xor_rule expression_rule range_rule use_rule pragma_rule subtype_indication_rule array_rule initial_rule typed_rule object_rule type_rule subtype_rule formals_rule specification_rule aspect_rule task_rule common_rule declaration_rule subprogram_rule item_rule loop_rule block_rule named_rule return_rule exit_rule delay_rule statement_rule statements_rule package_rule package_body_rule
package_unit = refl

if_statement : is_closed (inside IfStatement) ≡ true
unfolding inside identifier_rule selection_rule designator_rule name_rest_rule parentheses_rule name_rule primary_rule factor_rule multiplying_rule term_rule adding_rule simple_expression_rule relational_rule membership_rule relation_rule and_rule or_rule xor_rule expression_rule initial_rule loop_rule block_rule named_rule return_rule exit_rule delay_rule statement_rule statements_rule branch_rule if_rule
if_statement = refl

case_statement : is_closed (inside CaseStatement) ≡ true
unfolding inside identifier_rule selection_rule designator_rule name_rest_rule parentheses_rule name_rule primary_rule factor_rule multiplying_rule term_rule adding_rule simple_expression_rule relational_rule membership_rule relation_rule and_rule or_rule xor_rule expression_rule range_rule discrete_range_rule initial_rule loop_rule block_rule named_rule return_rule exit_rule delay_rule statement_rule statements_rule choice_rule alternative_rule case_rule
case_statement = refl

while_loop : is_closed (inside WhileLoop) ≡ true
unfolding inside identifier_rule selection_rule designator_rule name_rest_rule parentheses_rule name_rule primary_rule factor_rule multiplying_rule term_rule adding_rule simple_expression_rule relational_rule membership_rule relation_rule and_rule or_rule xor_rule expression_rule initial_rule loop_rule block_rule named_rule return_rule exit_rule delay_rule statement_rule statements_rule plain_loop_rule while_rule
while_loop = refl

for_loop : is_closed (inside ForLoop) ≡ true
unfolding inside identifier_rule selection_rule designator_rule name_rest_rule parentheses_rule name_rule primary_rule factor_rule multiplying_rule term_rule adding_rule simple_expression_rule relational_rule membership_rule relation_rule and_rule or_rule xor_rule expression_rule range_rule discrete_range_rule initial_rule loop_rule block_rule named_rule return_rule exit_rule delay_rule statement_rule statements_rule plain_loop_rule for_rule
for_loop = refl

plain_loop : is_closed (inside PlainLoop) ≡ true
unfolding inside identifier_rule selection_rule designator_rule name_rest_rule parentheses_rule name_rule primary_rule factor_rule multiplying_rule term_rule adding_rule simple_expression_rule relational_rule membership_rule relation_rule and_rule or_rule xor_rule expression_rule initial_rule loop_rule block_rule named_rule return_rule exit_rule delay_rule statement_rule statements_rule plain_loop_rule
plain_loop = refl

declare_block : is_closed (inside DeclareBlock) ≡ true
unfolding inside identifier_rule identifiers_rule compound_name_rule compound_names_rule selection_rule designator_rule name_rest_rule parentheses_rule name_rule primary_rule factor_rule multiplying_rule term_rule adding_rule simple_expression_rule relational_rule membership_rule relation_rule and_rule or_rule xor_rule expression_rule range_rule use_rule pragma_rule subtype_indication_rule array_rule initial_rule typed_rule object_rule type_rule subtype_rule formals_rule specification_rule aspect_rule task_rule common_rule subprogram_rule item_rule loop_rule block_rule named_rule return_rule exit_rule delay_rule statement_rule statements_rule plain_block_rule declare_rule
declare_block = refl

plain_block : is_closed (inside PlainBlock) ≡ true
unfolding inside identifier_rule selection_rule designator_rule name_rest_rule parentheses_rule name_rule primary_rule factor_rule multiplying_rule term_rule adding_rule simple_expression_rule relational_rule membership_rule relation_rule and_rule or_rule xor_rule expression_rule initial_rule loop_rule block_rule named_rule return_rule exit_rule delay_rule statement_rule statements_rule plain_block_rule
plain_block = refl

pub unit_clear : is_clear false unit_rule ≡ true
unfolding identifier_rule compound_name_rule compound_names_rule use_rule pragma_rule formals_rule specification_rule context_rule library_item_rule unit_rule
unit_clear = refl

pub unit_plain : is_plain true unit_rule ≡ true
unfolding identifier_rule compound_name_rule compound_names_rule use_rule pragma_rule formals_rule specification_rule context_rule library_item_rule unit_rule
unit_plain = refl

inside_closed : (c : Construct) → is_closed (inside c) ≡ true
inside_closed Parentheses = parentheses
inside_closed Arguments = arguments
inside_closed PragmaArguments = pragma_arguments
inside_closed ParentName = parent_name
inside_closed FormalPart = formal_part
inside_closed EnumerationLiterals = enumeration_literals
inside_closed ArrayIndex = array_index
inside_closed RecordDefinition = record_definition
inside_closed ProtectedDeclaration = protected_declaration
inside_closed ProtectedUnit = protected_unit
inside_closed EntryBody = entry_body
inside_closed TaskBody = task_body
inside_closed SubprogramBody = subprogram_body
inside_closed BodyOrStub = body_or_stub
inside_closed PackageDeclaration = package_declaration
inside_closed PackageUnit = package_unit
inside_closed IfStatement = if_statement
inside_closed CaseStatement = case_statement
inside_closed WhileLoop = while_loop
inside_closed ForLoop = for_loop
inside_closed PlainLoop = plain_loop
inside_closed DeclareBlock = declare_block
inside_closed PlainBlock = plain_block

pub closed : IsClosed grammar
unfolding grammar
closed n = inside_closed (construct_at n)
