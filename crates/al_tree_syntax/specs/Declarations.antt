-- Declarations and bodies (ARM 3, 6, 9, 10).
use Rattle.al_tree_grammar.specs.Grammar.{Rule}
use Rattle.al_tree_grammar.specs.Grammar.Rule.{Opt, Many, Room, RoomOr}
use Rattle.al_tree_syntax.specs.Symbols.Symbol.{LeftParenthesis, Colon, Semicolon, Arrow, Assign, Array, Body, Constant, End, Entry, Function, In, Is, Null, Of, Out, Pragma, Private, Procedure, Protected, Record, Return, Separate, Subtype, Task, «Type», Use, With}
use Rattle.al_tree_syntax.specs.Constructs.Construct.{PragmaArguments, FormalPart, EnumerationLiterals, ArrayIndex, RecordDefinition, ProtectedDeclaration, ProtectedUnit, EntryBody, TaskBody, SubprogramBody, BodyOrStub}
use Rattle.al_tree_syntax.specs.Notation.{◌⨾◌, ◌∣◌, the, any, opens, opens_at}
use Rattle.al_tree_syntax.specs.Expressions.{identifier_rule, identifiers_rule, compound_name_rule, compound_names_rule, expression_rule, range_rule}

-- use clause (ARM 8.4)
unfoldable pub use_rule : Rule
use_rule = the Use ⨾ Opt (the «Type») ⨾ compound_names_rule ⨾ the Semicolon

-- pragma (ARM 2.8)
unfoldable pub pragma_rule : Rule
pragma_rule = the Pragma ⨾ identifier_rule ⨾ Opt (opens_at LeftParenthesis PragmaArguments) ⨾ the Semicolon

-- name [range simple .. simple] (ARM 3.2.2)
unfoldable pub subtype_indication_rule : Rule
subtype_indication_rule = compound_name_rule ⨾ Opt range_rule

-- array ( discrete_range ) of subtype_indication (ARM 3.6)
unfoldable pub array_rule : Rule
array_rule = Room (the Array ⨾ opens_at LeftParenthesis ArrayIndex ⨾ the Of ⨾ subtype_indication_rule)

-- := expression
unfoldable pub initial_rule : Rule
initial_rule = the Assign ⨾ expression_rule

-- what comes after the colon of an object: its type, and perhaps a value
unfoldable pub typed_rule : Rule
typed_rule = (subtype_indication_rule ∣ array_rule) ⨾ Opt initial_rule

-- object and number declarations (ARM 3.3.1, 3.3.2)
unfoldable pub object_rule : Rule
object_rule = identifiers_rule ⨾ the Colon ⨾ (typed_rule ∣ the Constant ⨾ (initial_rule ∣ typed_rule)) ⨾ the Semicolon

-- component of a record (ARM 3.8)
unfoldable pub component_rule : Rule
component_rule = identifiers_rule ⨾ the Colon ⨾ subtype_indication_rule ⨾ the Semicolon

-- type declaration (ARM 3.2.1)
unfoldable pub type_rule : Rule
type_rule =
    the «Type» ⨾ identifier_rule ⨾ the Is
    ⨾ (range_rule ∣ the Null ⨾ the Record ∣ any Private ∣ opens_at LeftParenthesis EnumerationLiterals ∣ array_rule ∣ opens Record RecordDefinition)
    ⨾ the Semicolon

-- subtype declaration (ARM 3.2.2)
unfoldable pub subtype_rule : Rule
subtype_rule = the Subtype ⨾ identifier_rule ⨾ the Is ⨾ subtype_indication_rule ⨾ the Semicolon

-- names : [in] [out] subtype (ARM 6.1)
unfoldable pub formal_rule : Rule
formal_rule = identifiers_rule ⨾ the Colon ⨾ Opt (the In) ⨾ Opt (the Out) ⨾ compound_name_rule

unfoldable pub formals_rule : Rule
formals_rule = Opt (opens_at LeftParenthesis FormalPart)

-- specification of a subprogram (ARM 6.1)
unfoldable pub specification_rule : Rule
specification_rule = any Procedure ⨾ compound_name_rule ⨾ formals_rule ∣ any Function ⨾ compound_name_rule ⨾ formals_rule ⨾ any Return ⨾ compound_name_rule

-- with identifier => expression (ARM 13.1.1)
unfoldable pub aspect_rule : Rule
aspect_rule = Opt (the With ⨾ identifier_rule ⨾ the Arrow ⨾ expression_rule)

-- after `task` in a declaration (ARM 9.1)
unfoldable pub task_rule : Rule
task_rule = identifier_rule ⨾ aspect_rule ⨾ the Semicolon

-- what declarations of packages and of bodies have in common
unfoldable pub common_rule : Rule
common_rule = object_rule ∣ type_rule ∣ subtype_rule ∣ use_rule ∣ pragma_rule

-- a declaration of a package
unfoldable pub declaration_rule : Rule
declaration_rule = common_rule ∣ specification_rule ⨾ the Semicolon ∣ any Task ⨾ task_rule ∣ opens_at Protected ProtectedDeclaration

-- What comes after the specification of a subprogram. If no more construct may be open `is` begins only a stub.
unfoldable pub subprogram_rule : Rule
subprogram_rule = the Semicolon ∣ RoomOr (opens Is BodyOrStub) (the Is ⨾ any Separate ⨾ the Semicolon)

-- an item of a body's declarative part (ARM 3.11)
unfoldable pub item_rule : Rule
item_rule = common_rule ∣ specification_rule ⨾ subprogram_rule ∣ any Task ⨾ (task_rule ∣ opens Body TaskBody) ∣ opens_at Protected ProtectedUnit

-- operation of a protected declaration (ARM 9.4)
unfoldable pub operation_rule : Rule
operation_rule = specification_rule ⨾ the Semicolon ∣ any Entry ⨾ identifier_rule ⨾ the Semicolon

-- private component of a protected declaration (ARM 9.4)
unfoldable pub element_rule : Rule
element_rule = identifiers_rule ⨾ the Colon ⨾ subtype_indication_rule ⨾ Opt initial_rule ⨾ the Semicolon

-- after `protected` in a declaration
unfoldable pub protected_rule : Rule
protected_rule = identifier_rule ⨾ aspect_rule ⨾ the Is ⨾ Many operation_rule ⨾ Opt (any Private ⨾ Many element_rule) ⨾ any End ⨾ Opt identifier_rule ⨾ the Semicolon

-- body in a protected body: of a subprogram or of an entry
unfoldable pub operation_body_rule : Rule
operation_body_rule = Room (specification_rule ⨾ opens Is SubprogramBody) ∣ opens_at Entry EntryBody

-- after `protected body`
unfoldable pub protected_body_rule : Rule
protected_body_rule = identifier_rule ⨾ the Is ⨾ Many operation_body_rule ⨾ any End ⨾ Opt identifier_rule ⨾ the Semicolon
