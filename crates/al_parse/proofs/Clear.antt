-- The next lexeme alone decides whether a loop goes on.
use Rattle.std.proofs.Common.{◌≡◌, true, false, refl}
use Rattle.al_tree_grammar.specs.Grammar.Rule.{One, Any, Seq, Many}
use Rattle.al_tree_grammar.specs.Reading.{is_clear}
use Rattle.al_tree_syntax.specs.Declarations.{array_rule, aspect_rule, common_rule, component_rule, declaration_rule, element_rule, formal_rule, formals_rule, initial_rule, item_rule, object_rule, operation_body_rule, operation_rule, pragma_rule, specification_rule, subprogram_rule, subtype_indication_rule, subtype_rule, task_rule, type_rule, typed_rule, use_rule}
use Rattle.al_tree_syntax.specs.Expressions.{adding_rule, and_rule, compound_name_rule, compound_names_rule, designator_rule, discrete_range_rule, expression_rule, factor_rule, identifier_rule, identifiers_rule, membership_rule, multiplying_rule, name_rest_rule, name_rule, or_rule, parentheses_rule, primary_rule, range_rule, relation_rule, relational_rule, selection_rule, simple_expression_rule, term_rule, xor_rule}
use Rattle.al_tree_syntax.specs.Statements.{alternative_rule, block_rule, branch_rule, choice_rule, delay_rule, exit_rule, loop_rule, named_rule, return_rule, statement_rule, statements_rule}
use Rattle.al_tree_syntax.specs.Units.{context_rule}

pub more_statements_clear : is_clear false (Many statement_rule) ≡ true
unfolding identifier_rule selection_rule designator_rule name_rest_rule parentheses_rule name_rule primary_rule factor_rule multiplying_rule term_rule adding_rule simple_expression_rule relational_rule membership_rule relation_rule and_rule or_rule xor_rule expression_rule initial_rule loop_rule block_rule named_rule return_rule exit_rule delay_rule statement_rule
more_statements_clear = refl

pub elsifs_clear : is_clear false (Many (Seq (Any 36) branch_rule)) ≡ true
unfolding identifier_rule selection_rule designator_rule name_rest_rule parentheses_rule name_rule primary_rule factor_rule multiplying_rule term_rule adding_rule simple_expression_rule relational_rule membership_rule relation_rule and_rule or_rule xor_rule expression_rule initial_rule loop_rule block_rule named_rule return_rule exit_rule delay_rule statement_rule statements_rule branch_rule
elsifs_clear = refl

pub more_alternatives_clear : is_clear false (Many alternative_rule) ≡ true
unfolding identifier_rule selection_rule designator_rule name_rest_rule parentheses_rule name_rule primary_rule factor_rule multiplying_rule term_rule adding_rule simple_expression_rule relational_rule membership_rule relation_rule and_rule or_rule xor_rule expression_rule range_rule discrete_range_rule initial_rule loop_rule block_rule named_rule return_rule exit_rule delay_rule statement_rule statements_rule choice_rule alternative_rule
more_alternatives_clear = refl

pub items_clear : is_clear false (Many item_rule) ≡ true
unfolding identifier_rule identifiers_rule compound_name_rule compound_names_rule selection_rule designator_rule parentheses_rule name_rule primary_rule factor_rule multiplying_rule term_rule adding_rule simple_expression_rule relational_rule membership_rule relation_rule and_rule or_rule xor_rule expression_rule range_rule use_rule pragma_rule subtype_indication_rule array_rule initial_rule typed_rule object_rule type_rule subtype_rule formals_rule specification_rule aspect_rule task_rule common_rule subprogram_rule item_rule
items_clear = refl

pub operation_bodies_clear : is_clear false (Many operation_body_rule) ≡ true
unfolding identifier_rule compound_name_rule formals_rule specification_rule operation_body_rule
operation_bodies_clear = refl

pub more_components_clear : is_clear false (Many component_rule) ≡ true
unfolding identifier_rule identifiers_rule compound_name_rule selection_rule designator_rule parentheses_rule name_rule primary_rule factor_rule multiplying_rule term_rule adding_rule simple_expression_rule range_rule subtype_indication_rule component_rule
more_components_clear = refl

pub more_formals_clear : is_clear false (Many (Seq (One 14) formal_rule)) ≡ true
unfolding identifier_rule identifiers_rule compound_name_rule formal_rule
more_formals_clear = refl

pub operations_clear : is_clear false (Many operation_rule) ≡ true
unfolding identifier_rule compound_name_rule formals_rule specification_rule operation_rule
operations_clear = refl

pub protected_components_clear : is_clear false (Many element_rule) ≡ true
unfolding identifier_rule identifiers_rule compound_name_rule selection_rule designator_rule parentheses_rule name_rule primary_rule factor_rule multiplying_rule term_rule adding_rule simple_expression_rule relational_rule membership_rule relation_rule and_rule or_rule xor_rule expression_rule range_rule subtype_indication_rule initial_rule element_rule
protected_components_clear = refl

pub declarations_clear : is_clear false (Many declaration_rule) ≡ true
unfolding identifier_rule identifiers_rule compound_name_rule compound_names_rule selection_rule designator_rule parentheses_rule name_rule primary_rule factor_rule multiplying_rule term_rule adding_rule simple_expression_rule relational_rule membership_rule relation_rule and_rule or_rule xor_rule expression_rule range_rule use_rule pragma_rule subtype_indication_rule array_rule initial_rule typed_rule object_rule type_rule subtype_rule formals_rule specification_rule aspect_rule task_rule common_rule declaration_rule
declarations_clear = refl

pub more_choices_clear : is_clear false (Many (Seq (One 18) choice_rule)) ≡ true
unfolding identifier_rule selection_rule designator_rule parentheses_rule name_rule primary_rule factor_rule multiplying_rule term_rule adding_rule simple_expression_rule range_rule discrete_range_rule choice_rule
more_choices_clear = refl

pub context_items_clear : is_clear false (Many context_rule) ≡ true
unfolding identifier_rule compound_name_rule compound_names_rule use_rule pragma_rule context_rule
context_items_clear = refl
