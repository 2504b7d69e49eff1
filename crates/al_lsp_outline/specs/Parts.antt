-- What is declared alike in packages and in bodies.
use Rattle.std.specs.Prelude.{ℕ, true, false, List, [], ◌∷◌, ◌++◌, Option, Some, None}
use Rattle.std.specs.List.{flat_map}
use Rattle.al_tree_grammar.specs.Grammar.{Label}
use Rattle.al_tree_syntax.specs.DeclarationTrees.{CommonTree, CommonTree as commons, ComponentTree, ComponentsTree, ComponentsTree as components, DeclarationTree, DeclarationTree as declarations, ObjectFormTree, ObjectFormTree as forms, ProtectedComponentTree, ProtectedOperationTree, ProtectedOperationTree as operations, ProtectedPrivateTree, ProtectedTree, SpecificationTree, TypeDefinitionTree, TypeDefinitionTree as definitions, TypeTree}
use Rattle.al_lsp_outline.specs.Named.{all_named, compound, compound_name, declared, deeper, last_of, named}
use Rattle.al_lsp_outline.specs.declared.declared.Declared.{Declared}
use Rattle.al_lsp_outline.specs.declared.declared.DeclaredKind.{DeclaredKind}
use Rattle.al_lsp_outline.specs.declared.declared.DeclaredKind.TheVariants as kinds

abbrev pub subprogram_declared : ℕ → SpecificationTree → Label → List Declared
subprogram_declared depth s last = compound kinds.Subprogram depth (compound_name s) last ∷ []

abbrev pub object_kind : ObjectFormTree → DeclaredKind
object_kind (forms.TypedObject false t i) = kinds.Variable
object_kind (forms.TypedObject true t i) = kinds.Constant
object_kind (forms.NamedNumber e) = kinds.Constant

abbrev pub definition_kind : TypeDefinitionTree → DeclaredKind
definition_kind (definitions.EnumerationDefinition p i) = kinds.Enumeration
definition_kind (definitions.IntegerDefinition r) = kinds.Type
definition_kind definitions.NullRecordDefinition = kinds.Type
definition_kind (definitions.PrivateDefinition p) = kinds.Type
definition_kind (definitions.ArrayDefinition a) = kinds.Type
definition_kind (definitions.RecordDefinition c e) = kinds.Type

-- a place behind which the next semicolon ends the definition of the type of this name
abbrev pub definition_last : TypeDefinitionTree → Label → Label
definition_last (definitions.RecordDefinition c e) name = e
definition_last (definitions.IntegerDefinition r) name = name
definition_last definitions.NullRecordDefinition name = name
definition_last (definitions.PrivateDefinition p) name = name
definition_last (definitions.EnumerationDefinition p i) name = name
definition_last (definitions.ArrayDefinition a) name = name

abbrev pub component_declared : ℕ → ComponentTree → List Declared
component_declared depth c = all_named kinds.Component depth c.names

abbrev pub components_declared : ℕ → ComponentsTree → List Declared
components_declared depth components.NullComponents = []
components_declared depth (components.SomeComponents c cs) = component_declared depth c ++ flat_map (component_declared depth) cs

-- literals, components
abbrev pub inner_declared : ℕ → TypeDefinitionTree → List Declared
inner_declared depth (definitions.EnumerationDefinition p i) = all_named kinds.Literal depth i
inner_declared depth (definitions.RecordDefinition c e) = components_declared depth c
inner_declared depth (definitions.IntegerDefinition r) = []
inner_declared depth definitions.NullRecordDefinition = []
inner_declared depth (definitions.PrivateDefinition p) = []
inner_declared depth (definitions.ArrayDefinition a) = []

abbrev pub type_declared : ℕ → TypeTree → List Declared
type_declared depth t = declared (definition_kind t.definition) depth t.name t.name (definition_last t.definition t.name) ∷ inner_declared (deeper depth) t.definition

abbrev pub common_declared : ℕ → CommonTree → List Declared
common_declared depth (commons.ObjectDeclaration o) = all_named (object_kind o.form) depth o.names
common_declared depth (commons.TypeDeclaration t) = type_declared depth t
common_declared depth (commons.SubtypeDeclaration s) = named kinds.Subtype depth s.name ∷ []
common_declared depth (commons.UseClause u) = []
common_declared depth (commons.PragmaItem p) = []

abbrev pub operation_declared : ℕ → ProtectedOperationTree → List Declared
operation_declared depth (operations.ProtectedSubprogram s) = subprogram_declared depth s (last_of s)
operation_declared depth (operations.EntryDeclaration p name) = named kinds.Entry depth name ∷ []

abbrev pub protected_component_declared : ℕ → ProtectedComponentTree → List Declared
protected_component_declared depth c = all_named kinds.Component depth c.names

abbrev pub components_in : Option ProtectedPrivateTree → List ProtectedComponentTree
components_in None = []
components_in (Some part) = part.components

abbrev pub private_components : ProtectedTree → List ProtectedComponentTree
private_components p = components_in p.private_part

abbrev pub protected_declared : ℕ → ProtectedTree → List Declared
protected_declared depth p = declared kinds.Protected depth p.name p.name p.end ∷ (flat_map (operation_declared (deeper depth)) p.operations ++ flat_map (protected_component_declared (deeper depth)) (private_components p))

abbrev pub declaration_declared : ℕ → DeclarationTree → List Declared
declaration_declared depth (declarations.CommonDeclaration c) = common_declared depth c
declaration_declared depth (declarations.SubprogramDeclaration s) = subprogram_declared depth s (last_of s)
declaration_declared depth (declarations.TaskDeclaration t) = named kinds.Task depth t.name ∷ []
declaration_declared depth (declarations.ProtectedDeclaration p d) = protected_declared depth d
