-- Each rule uses lexemes with a label where their symbols are labelled, and without where they are not.
use Rattle.std.proofs.Common.{◌≡◌, true, refl}
use Rattle.al_tree_grammar.specs.Uses.{uses}
use Rattle.al_tree_syntax.specs.Constructs.{Construct}
use Rattle.al_tree_syntax.specs.Constructs.Construct.{Parentheses, Arguments, PragmaArguments, ParentName, FormalPart, EnumerationLiterals, ArrayIndex, RecordDefinition, ProtectedDeclaration, ProtectedUnit, EntryBody, TaskBody, SubprogramBody, BodyOrStub, PackageDeclaration, PackageUnit, IfStatement, CaseStatement, WhileLoop, ForLoop, PlainLoop, DeclareBlock, PlainBlock}
use Rattle.al_tree_syntax.specs.Expressions.{identifier_rule, identifiers_rule, compound_name_rule, compound_names_rule, selection_rule, designator_rule, name_rest_rule, parentheses_rule, name_rule, primary_rule, factor_rule, multiplying_rule, term_rule, adding_rule, simple_expression_rule, relational_rule, membership_rule, relation_rule, and_rule, or_rule, xor_rule, expression_rule, expressions_rule, range_rule, discrete_range_rule}
use Rattle.al_tree_syntax.specs.Declarations.{use_rule, pragma_rule, subtype_indication_rule, array_rule, initial_rule, typed_rule, object_rule, component_rule, type_rule, subtype_rule, formal_rule, formals_rule, specification_rule, aspect_rule, task_rule, common_rule, declaration_rule, subprogram_rule, item_rule, operation_rule, element_rule, protected_rule, operation_body_rule, protected_body_rule}
use Rattle.al_tree_syntax.specs.Statements.{loop_rule, block_rule, named_rule, return_rule, exit_rule, delay_rule, statement_rule, statements_rule, branch_rule, if_rule, choice_rule, alternative_rule, case_rule, plain_loop_rule, while_rule, for_rule, plain_block_rule, declare_rule}
use Rattle.al_tree_syntax.specs.Units.{subprogram_body_rule, package_rule, package_body_rule, context_rule, library_item_rule, unit_rule}
use Rattle.al_tree_syntax.specs.Rules.{inside}
use Rattle.al_tree_syntax.specs.Laws.{has_label, LexemesAreLabelled}

inside_labelled : (c : Construct) → uses has_label (inside c) ≡ true
unfolding inside identifier_rule identifiers_rule compound_name_rule compound_names_rule selection_rule designator_rule name_rest_rule parentheses_rule name_rule primary_rule factor_rule multiplying_rule term_rule adding_rule simple_expression_rule relational_rule membership_rule relation_rule and_rule or_rule xor_rule expression_rule expressions_rule range_rule discrete_range_rule use_rule pragma_rule subtype_indication_rule array_rule initial_rule typed_rule object_rule component_rule type_rule subtype_rule formal_rule formals_rule specification_rule aspect_rule task_rule common_rule declaration_rule subprogram_rule item_rule operation_rule element_rule protected_rule operation_body_rule protected_body_rule loop_rule block_rule named_rule return_rule exit_rule delay_rule statement_rule statements_rule branch_rule if_rule choice_rule alternative_rule case_rule plain_loop_rule while_rule for_rule plain_block_rule declare_rule subprogram_body_rule package_rule package_body_rule
inside_labelled Parentheses = refl
inside_labelled Arguments = refl
inside_labelled PragmaArguments = refl
inside_labelled ParentName = refl
inside_labelled FormalPart = refl
inside_labelled EnumerationLiterals = refl
inside_labelled ArrayIndex = refl
inside_labelled RecordDefinition = refl
inside_labelled ProtectedDeclaration = refl
inside_labelled ProtectedUnit = refl
inside_labelled EntryBody = refl
inside_labelled TaskBody = refl
inside_labelled SubprogramBody = refl
inside_labelled BodyOrStub = refl
inside_labelled PackageDeclaration = refl
inside_labelled PackageUnit = refl
inside_labelled IfStatement = refl
inside_labelled CaseStatement = refl
inside_labelled WhileLoop = refl
inside_labelled ForLoop = refl
inside_labelled PlainLoop = refl
inside_labelled DeclareBlock = refl
inside_labelled PlainBlock = refl

unit_labelled : uses has_label unit_rule ≡ true
unfolding identifier_rule compound_name_rule compound_names_rule use_rule pragma_rule formals_rule specification_rule context_rule library_item_rule unit_rule
unit_labelled = refl

pub lexemes_labelled : LexemesAreLabelled
lexemes_labelled = (inside_labelled, unit_labelled)
