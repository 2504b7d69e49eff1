-- Trees of declarations without bodies (ARM 2.8, 3, 6.1, 8.4, 9.1, 9.4) as plain data, and their lexemes.
use Rattle.std.specs.Prelude.{Bool, true, false, List, [], ◌∷◌, ◌++◌, Option, Some, None}
use Rattle.al_tree_grammar.specs.Grammar.{Label, Lexeme, each, maybe}
use Rattle.al_tree_syntax.specs.Symbols.{Symbol as symbols}
use Rattle.al_tree_syntax.specs.Words.{word, labelled}
use Rattle.al_tree_syntax.specs.ExpressionTrees.{ExpressionTree, expression_tokens, simple_tokens}

-- identifier {, identifier}
pub record IdentifiersTree : Type 0 where
  pub first : Label
  pub others : List Label

-- identifier {. identifier} (ARM 4.1.3, 6.1, 10.1.1)
pub record CompoundNameTree : Type 0 where
  pub first : Label
  pub selectors : List Label

-- compound name {, compound name}
pub record CompoundNamesTree : Type 0 where
  pub first : CompoundNameTree
  pub others : List CompoundNameTree

-- low .. high
pub record RangeTree : Type 0 where
  pub low : ExpressionTree
  pub high : ExpressionTree

-- simple; low .. high; mark range low .. high (ARM 3.6.1)
pub data DiscreteRangeTree : Type 0 where
  SoleMark : ExpressionTree → DiscreteRangeTree
  Bounds : RangeTree → DiscreteRangeTree
  MarkRange : ExpressionTree → RangeTree → DiscreteRangeTree

-- name [range low .. high] (ARM 3.2.2)
pub record SubtypeIndicationTree : Type 0 where
  pub mark : CompoundNameTree
  pub constraint : Option RangeTree

-- array ( discrete range ) of subtype (ARM 3.6)
pub record ArrayTree : Type 0 where
  pub opening : Label
  pub index : DiscreteRangeTree
  pub component : SubtypeIndicationTree

pub data ObjectTypeTree : Type 0 where
  NamedType : SubtypeIndicationTree → ObjectTypeTree
  AnonymousArray : ArrayTree → ObjectTypeTree

-- [constant] type [:= expression]; constant := expression
pub data ObjectFormTree : Type 0 where
  TypedObject : Bool → ObjectTypeTree → Option ExpressionTree → ObjectFormTree
  NamedNumber : ExpressionTree → ObjectFormTree

-- object and number declarations (ARM 3.3.1, 3.3.2)
pub record ObjectTree : Type 0 where
  pub names : IdentifiersTree
  pub form : ObjectFormTree

-- component of a record (ARM 3.8)
pub record ComponentTree : Type 0 where
  pub names : IdentifiersTree
  pub subtype : SubtypeIndicationTree

-- the components of a record, at least one, or null
pub data ComponentsTree : Type 0 where
  NullComponents : ComponentsTree
  SomeComponents : ComponentTree → List ComponentTree → ComponentsTree

-- after `is` (ARM 3.2.1)
pub data TypeDefinitionTree : Type 0 where
  IntegerDefinition : RangeTree → TypeDefinitionTree
  NullRecordDefinition : TypeDefinitionTree
  -- private (ARM 7.3)
  PrivateDefinition : Label → TypeDefinitionTree
  EnumerationDefinition : Label → IdentifiersTree → TypeDefinitionTree
  ArrayDefinition : ArrayTree → TypeDefinitionTree
  RecordDefinition : ComponentsTree → Label → TypeDefinitionTree

pub record TypeTree : Type 0 where
  pub name : Label
  pub definition : TypeDefinitionTree

-- subtype declaration (ARM 3.2.2)
pub record SubtypeTree : Type 0 where
  pub name : Label
  pub indication : SubtypeIndicationTree

-- use [type] names (ARM 8.4)
pub record UseTree : Type 0 where
  pub of_type : Bool
  pub names : CompoundNamesTree

-- the arguments after their parenthesis
pub record PragmaArgumentsTree : Type 0 where
  pub opening : Label
  pub names : CompoundNamesTree

-- pragma (ARM 2.8)
pub record PragmaTree : Type 0 where
  pub name : Label
  pub arguments : Option PragmaArgumentsTree

-- names : [in] [out] mark (ARM 6.1)
pub record FormalTree : Type 0 where
  pub names : IdentifiersTree
  pub is_in : Bool
  pub is_out : Bool
  pub mark : CompoundNameTree

pub record FormalPartTree : Type 0 where
  pub opening : Label
  pub first : FormalTree
  pub others : List FormalTree

-- specification of a subprogram (ARM 6.1); a function's has the place of `return` and the result's mark
pub data SpecificationTree : Type 0 where
  ProcedureSpecification : Label → CompoundNameTree → Option FormalPartTree → SpecificationTree
  FunctionSpecification : Label → CompoundNameTree → Option FormalPartTree → Label → CompoundNameTree → SpecificationTree

-- with name => expression (ARM 13.1.1)
pub record AspectTree : Type 0 where
  pub name : Label
  pub value : ExpressionTree

-- task declaration (ARM 9.1), with the place of `task`
pub record TaskTree : Type 0 where
  pub opening : Label
  pub name : Label
  pub aspect : Option AspectTree

-- operation of a protected declaration (ARM 9.4): a subprogram; an entry, with the place of `entry`
pub data ProtectedOperationTree : Type 0 where
  ProtectedSubprogram : SpecificationTree → ProtectedOperationTree
  EntryDeclaration : Label → Label → ProtectedOperationTree

-- component of a protected declaration (ARM 9.4)
pub record ProtectedComponentTree : Type 0 where
  pub names : IdentifiersTree
  pub subtype : SubtypeIndicationTree
  pub initial : Option ExpressionTree

-- the private part of a protected declaration, with the place of `private`
pub record ProtectedPrivateTree : Type 0 where
  pub opening : Label
  pub components : List ProtectedComponentTree

-- after `protected` (ARM 9.4)
pub record ProtectedTree : Type 0 where
  pub name : Label
  pub aspect : Option AspectTree
  pub operations : List ProtectedOperationTree
  pub private_part : Option ProtectedPrivateTree
  pub end : Label
  pub end_name : Option Label

-- what packages and bodies declare alike
pub data CommonTree : Type 0 where
  ObjectDeclaration : ObjectTree → CommonTree
  TypeDeclaration : TypeTree → CommonTree
  SubtypeDeclaration : SubtypeTree → CommonTree
  UseClause : UseTree → CommonTree
  PragmaItem : PragmaTree → CommonTree

-- a declaration of a package; a protected declaration has the place of `protected`
pub data DeclarationTree : Type 0 where
  CommonDeclaration : CommonTree → DeclarationTree
  SubprogramDeclaration : SpecificationTree → DeclarationTree
  TaskDeclaration : TaskTree → DeclarationTree
  ProtectedDeclaration : Label → ProtectedTree → DeclarationTree

abbrev pub after : symbols → List Label → List Lexeme
after s ls = each (λ l. word s ∷ labelled symbols.Identifier l ∷ []) ls

abbrev pub identifier_token : Label → Lexeme
identifier_token l = labelled symbols.Identifier l

abbrev pub identifiers_tokens : IdentifiersTree → List Lexeme
identifiers_tokens i = identifier_token i.first ∷ after symbols.Comma i.others

abbrev pub compound_tokens : CompoundNameTree → List Lexeme
compound_tokens n = identifier_token n.first ∷ after symbols.Dot n.selectors

abbrev pub compounds_tokens : CompoundNamesTree → List Lexeme
compounds_tokens n = compound_tokens n.first ++ each (λ m. word symbols.Comma ∷ compound_tokens m) n.others

-- [identifier]
abbrev pub end_name_tokens : Option Label → List Lexeme
end_name_tokens None = []
end_name_tokens (Some l) = identifier_token l ∷ []

-- [s]
abbrev pub flag_tokens : symbols → Bool → List Lexeme
flag_tokens s false = []
flag_tokens s true = word s ∷ []

abbrev pub range_tokens : RangeTree → List Lexeme
range_tokens r = word symbols.Range ∷ (simple_tokens r.low ++ word symbols.DoubleDot ∷ simple_tokens r.high)

abbrev pub discrete_range_tokens : DiscreteRangeTree → List Lexeme
discrete_range_tokens (SoleMark s) = simple_tokens s
discrete_range_tokens (Bounds r) = simple_tokens r.low ++ word symbols.DoubleDot ∷ simple_tokens r.high
discrete_range_tokens (MarkRange s r) = simple_tokens s ++ range_tokens r

abbrev pub subtype_indication_tokens : SubtypeIndicationTree → List Lexeme
subtype_indication_tokens s = compound_tokens s.mark ++ maybe range_tokens s.constraint

abbrev pub array_tokens : ArrayTree → List Lexeme
array_tokens a =
    word symbols.Array ∷ labelled symbols.LeftParenthesis a.opening ∷ (discrete_range_tokens a.index
    ++ word symbols.RightParenthesis ∷ word symbols.Of ∷ subtype_indication_tokens a.component)

-- := expression
abbrev pub initial_tokens : ExpressionTree → List Lexeme
initial_tokens e = word symbols.Assign ∷ expression_tokens e

abbrev pub object_type_tokens : ObjectTypeTree → List Lexeme
object_type_tokens (NamedType s) = subtype_indication_tokens s
object_type_tokens (AnonymousArray a) = array_tokens a

abbrev pub object_form_tokens : ObjectFormTree → List Lexeme
object_form_tokens (TypedObject c t i) = flag_tokens symbols.Constant c ++ (object_type_tokens t ++ maybe initial_tokens i)
object_form_tokens (NamedNumber e) = word symbols.Constant ∷ initial_tokens e

abbrev pub object_tokens : ObjectTree → List Lexeme
object_tokens o = identifiers_tokens o.names ++ word symbols.Colon ∷ (object_form_tokens o.form ++ word symbols.Semicolon ∷ [])

abbrev pub component_tokens : ComponentTree → List Lexeme
component_tokens c = identifiers_tokens c.names ++ word symbols.Colon ∷ (subtype_indication_tokens c.subtype ++ word symbols.Semicolon ∷ [])

abbrev pub components_tokens : ComponentsTree → List Lexeme
components_tokens NullComponents = word symbols.Null ∷ word symbols.Semicolon ∷ []
components_tokens (SomeComponents c cs) = component_tokens c ++ each component_tokens cs

abbrev pub type_definition_tokens : TypeDefinitionTree → List Lexeme
type_definition_tokens (IntegerDefinition r) = range_tokens r
type_definition_tokens NullRecordDefinition = word symbols.Null ∷ word symbols.Record ∷ []
type_definition_tokens (PrivateDefinition l) = labelled symbols.Private l ∷ []
type_definition_tokens (EnumerationDefinition l i) = labelled symbols.LeftParenthesis l ∷ (identifiers_tokens i ++ word symbols.RightParenthesis ∷ [])
type_definition_tokens (ArrayDefinition a) = array_tokens a
type_definition_tokens (RecordDefinition c l) = word symbols.Record ∷ (components_tokens c ++ labelled symbols.End l ∷ word symbols.Record ∷ [])

abbrev pub type_tokens : TypeTree → List Lexeme
type_tokens t = word symbols.«Type» ∷ identifier_token t.name ∷ word symbols.Is ∷ (type_definition_tokens t.definition ++ word symbols.Semicolon ∷ [])

abbrev pub subtype_tokens : SubtypeTree → List Lexeme
subtype_tokens s = word symbols.Subtype ∷ identifier_token s.name ∷ word symbols.Is ∷ (subtype_indication_tokens s.indication ++ word symbols.Semicolon ∷ [])

abbrev pub use_tokens : UseTree → List Lexeme
use_tokens u = word symbols.Use ∷ (flag_tokens symbols.«Type» u.of_type ++ (compounds_tokens u.names ++ word symbols.Semicolon ∷ []))

abbrev pub pragma_arguments_tokens : PragmaArgumentsTree → List Lexeme
pragma_arguments_tokens a = labelled symbols.LeftParenthesis a.opening ∷ (compounds_tokens a.names ++ word symbols.RightParenthesis ∷ [])

abbrev pub pragma_tokens : PragmaTree → List Lexeme
pragma_tokens p = word symbols.Pragma ∷ identifier_token p.name ∷ (maybe pragma_arguments_tokens p.arguments ++ word symbols.Semicolon ∷ [])

abbrev pub formal_tokens : FormalTree → List Lexeme
formal_tokens f =
    identifiers_tokens f.names ++ word symbols.Colon ∷ (flag_tokens symbols.In f.is_in ++ (flag_tokens symbols.Out f.is_out ++ compound_tokens f.mark))

abbrev pub formal_part_tokens : FormalPartTree → List Lexeme
formal_part_tokens p =
    labelled symbols.LeftParenthesis p.opening ∷ (formal_tokens p.first
    ++ (each (λ f. word symbols.Semicolon ∷ formal_tokens f) p.others ++ word symbols.RightParenthesis ∷ []))

abbrev pub specification_tokens : SpecificationTree → List Lexeme
specification_tokens (ProcedureSpecification l n f) = labelled symbols.Procedure l ∷ (compound_tokens n ++ maybe formal_part_tokens f)
specification_tokens (FunctionSpecification l n f r m) =
    labelled symbols.Function l ∷ (compound_tokens n ++ (maybe formal_part_tokens f ++ labelled symbols.Return r ∷ compound_tokens m))

abbrev pub aspect_tokens : AspectTree → List Lexeme
aspect_tokens a = word symbols.With ∷ identifier_token a.name ∷ word symbols.Arrow ∷ expression_tokens a.value

abbrev pub task_tokens : TaskTree → List Lexeme
task_tokens t = labelled symbols.Task t.opening ∷ identifier_token t.name ∷ (maybe aspect_tokens t.aspect ++ word symbols.Semicolon ∷ [])

abbrev pub protected_operation_tokens : ProtectedOperationTree → List Lexeme
protected_operation_tokens (ProtectedSubprogram s) = specification_tokens s ++ word symbols.Semicolon ∷ []
protected_operation_tokens (EntryDeclaration l n) = labelled symbols.Entry l ∷ identifier_token n ∷ word symbols.Semicolon ∷ []

abbrev pub protected_component_tokens : ProtectedComponentTree → List Lexeme
protected_component_tokens c =
    identifiers_tokens c.names ++ word symbols.Colon ∷ (subtype_indication_tokens c.subtype
    ++ (maybe initial_tokens c.initial ++ word symbols.Semicolon ∷ []))

abbrev pub protected_private_tokens : ProtectedPrivateTree → List Lexeme
protected_private_tokens p = labelled symbols.Private p.opening ∷ each protected_component_tokens p.components

-- after `protected`
abbrev pub protected_tokens : ProtectedTree → List Lexeme
protected_tokens p =
    identifier_token p.name ∷ (maybe aspect_tokens p.aspect ++ word symbols.Is ∷ (each protected_operation_tokens p.operations
    ++ (maybe protected_private_tokens p.private_part ++ labelled symbols.End p.end ∷ (end_name_tokens p.end_name ++ word symbols.Semicolon ∷ []))))

abbrev pub common_tokens : CommonTree → List Lexeme
common_tokens (ObjectDeclaration o) = object_tokens o
common_tokens (TypeDeclaration t) = type_tokens t
common_tokens (SubtypeDeclaration s) = subtype_tokens s
common_tokens (UseClause u) = use_tokens u
common_tokens (PragmaItem p) = pragma_tokens p

abbrev pub declaration_tokens : DeclarationTree → List Lexeme
declaration_tokens (CommonDeclaration c) = common_tokens c
declaration_tokens (SubprogramDeclaration s) = specification_tokens s ++ word symbols.Semicolon ∷ []
declaration_tokens (TaskDeclaration t) = task_tokens t
declaration_tokens (ProtectedDeclaration l p) = labelled symbols.Protected l ∷ protected_tokens p
