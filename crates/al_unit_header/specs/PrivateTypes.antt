-- The private types that a package declares (ARM 7.3).
use Rattle.std.specs.Prelude.{ℕ, Bool, true, false, List, [], ◌∷◌, if◌then◌else◌}
use Rattle.std.specs.List.{flat_map}
use Rattle.al_tree_syntax.specs.DeclarationTrees.{DeclarationTree, TypeDefinitionTree, TypeTree}
use Rattle.al_tree_syntax.specs.DeclarationTrees.TypeDefinitionTree.{ArrayDefinition, EnumerationDefinition, IntegerDefinition, NullRecordDefinition, PrivateDefinition, RecordDefinition}
use Rattle.al_tree_syntax.specs.DeclarationTrees.CommonTree.{ObjectDeclaration, TypeDeclaration, SubtypeDeclaration, UseClause, PragmaItem}
use Rattle.al_tree_syntax.specs.DeclarationTrees.DeclarationTree.{CommonDeclaration, SubprogramDeclaration, TaskDeclaration, ProtectedDeclaration}
use Rattle.al_tree_syntax.specs.UnitTrees.{LibraryItemTree}
use Rattle.al_tree_syntax.specs.UnitTrees.LibraryItemTree.{LibrarySubprogram, LibraryPackage, LibraryBody, LibraryPackageBody, Subunit}

abbrev pub is_private_definition : TypeDefinitionTree → Bool
is_private_definition (PrivateDefinition l) = true
is_private_definition (IntegerDefinition r) = false
is_private_definition NullRecordDefinition = false
is_private_definition (EnumerationDefinition l i) = false
is_private_definition (ArrayDefinition a) = false
is_private_definition (RecordDefinition c l) = false

-- the name of a type, if it is private
abbrev pub private_name : TypeTree → List (List ℕ)
private_name t = if is_private_definition t.definition then t.name.text ∷ [] else []

abbrev pub private_names : DeclarationTree → List (List ℕ)
private_names (CommonDeclaration (TypeDeclaration t)) = private_name t
private_names (CommonDeclaration (ObjectDeclaration o)) = []
private_names (CommonDeclaration (SubtypeDeclaration s)) = []
private_names (CommonDeclaration (UseClause u)) = []
private_names (CommonDeclaration (PragmaItem p)) = []
private_names (SubprogramDeclaration s) = []
private_names (TaskDeclaration t) = []
private_names (ProtectedDeclaration l p) = []

-- the names of the private types in the visible part of a package, in order; no other place may have any
abbrev pub private_types : LibraryItemTree → List (List ℕ)
private_types (LibrarySubprogram p s) = []
private_types (LibraryPackage p l k) = flat_map private_names k.visible
private_types (LibraryBody s b) = []
private_types (LibraryPackageBody l k) = []
private_types (Subunit l o n s b) = []
