-- What a compilation unit says of itself, from its tree.
use Rattle.std.specs.Prelude.{ℕ, Bool, true, false, ◌&&◌, ◌||◌, List, [], ◌∷◌, ◌++◌, map, Option, Some, None, codes, if◌then◌else◌}
use Rattle.std.specs.Option.{is_none, is_some, unwrap_or, option_map}
use Rattle.std.specs.List.{flat_map, list_any, last_or, take_while}
use Rattle.std.specs.Str.{bytes_eq}
use Rattle.al_base.specs.declared.place.Place.{Place}
use Rattle.al_tree_grammar.specs.Grammar.{Label}
use Rattle.al_tree_syntax.specs.DeclarationTrees.{CompoundNameTree, CompoundNamesTree, PragmaTree, PragmaArgumentsTree, DeclarationTree, SpecificationTree}
use Rattle.al_tree_syntax.specs.DeclarationTrees.CommonTree.{ObjectDeclaration, TypeDeclaration, SubtypeDeclaration, UseClause, PragmaItem}
use Rattle.al_tree_syntax.specs.DeclarationTrees.DeclarationTree.{CommonDeclaration, SubprogramDeclaration, TaskDeclaration, ProtectedDeclaration}
use Rattle.al_tree_syntax.specs.DeclarationTrees.SpecificationTree.{ProcedureSpecification, FunctionSpecification}
use Rattle.al_tree_syntax.specs.StatementTrees.{BodyTree, ItemsTree, ItemTree}
use Rattle.al_tree_syntax.specs.StatementTrees.BodyTree.{Body}
use Rattle.al_tree_syntax.specs.StatementTrees.ItemsTree.{NoItem, MoreItems}
use Rattle.al_tree_syntax.specs.StatementTrees.ItemTree.{CommonItem, SubprogramItem, StubItem, BodyItem, TaskItem, TaskBodyItem, ProtectedItem, ProtectedBodyItem}
use Rattle.al_tree_syntax.specs.UnitTrees.{ContextTree, PackageTree, PrivatePartTree, LibraryItemTree, CompilationUnitTree}
use Rattle.al_tree_syntax.specs.UnitTrees.ContextTree.{WithClause, ContextUse, ContextPragma}
use Rattle.al_tree_syntax.specs.UnitTrees.LibraryItemTree.{LibrarySubprogram, LibraryPackage, LibraryBody, LibraryPackageBody, Subunit}
use Rattle.al_unit_graph.specs.Headers.{Mention, Header}
use Rattle.al_unit_graph.specs.declared.header.UnitForm.{UnitForm}
use Rattle.al_unit_graph.specs.declared.header.UnitForm.TheVariants.{PackageDeclaration, SubprogramDeclaration, PackageBody, SubprogramBody, SubunitBody}

-- the identifiers of a compound name, with dots between them
abbrev pub dotted : CompoundNameTree → List ℕ
dotted n = n.first.text ++ flat_map (λ l. 46 ∷ l.text) n.selectors

-- the name in a specification (ARM 6.1)
abbrev pub designator : SpecificationTree → CompoundNameTree
designator (ProcedureSpecification l n f) = n
designator (FunctionSpecification l n f r m) = n

-- the name that an item declares or completes; of a subunit the name of its body
abbrev pub item_name : LibraryItemTree → CompoundNameTree
item_name (LibrarySubprogram p s) = designator s
item_name (LibraryPackage p l k) = k.name
item_name (LibraryBody s b) = designator s
item_name (LibraryPackageBody l k) = k.name
item_name (Subunit l o n s b) = designator s

-- the name of the parent body of a subunit (ARM 10.1.3(8))
abbrev pub parent_body_name : LibraryItemTree → Option CompoundNameTree
parent_body_name (LibrarySubprogram p s) = None
parent_body_name (LibraryPackage p l k) = None
parent_body_name (LibraryBody s b) = None
parent_body_name (LibraryPackageBody l k) = None
parent_body_name (Subunit l o n s b) = Some n

-- a subunit's full name begins with that of its parent body (ARM 10.1.3(8))
abbrev pub full_name : Option CompoundNameTree → CompoundNameTree → List ℕ
full_name None name = dotted name
full_name (Some parent) name = dotted parent ++ 46 ∷ dotted name

abbrev pub form_of : LibraryItemTree → UnitForm
form_of (LibrarySubprogram p s) = SubprogramDeclaration
form_of (LibraryPackage p l k) = PackageDeclaration
form_of (LibraryBody s b) = SubprogramBody
form_of (LibraryPackageBody l k) = PackageBody
form_of (Subunit l o n s b) = SubunitBody

-- the place of a name is that of its first identifier
abbrev pub place_of : CompoundNameTree → Place
place_of n = record { line = n.first.line; col = n.first.col }

abbrev pub mention_of : CompoundNameTree → Mention
mention_of n = record { name = dotted n; place = place_of n }

-- declared with the word private (ARM 10.1.1(12))
abbrev pub is_private : LibraryItemTree → Bool
is_private (LibrarySubprogram p s) = is_some p
is_private (LibraryPackage p l k) = is_some p
is_private (LibraryBody s b) = false
is_private (LibraryPackageBody l k) = false
is_private (Subunit l o n s b) = false

abbrev pub names_in : CompoundNamesTree → List CompoundNameTree
names_in n = n.first ∷ n.others

abbrev pub context_mentions : ContextTree → List CompoundNameTree
context_mentions (WithClause n) = names_in n
context_mentions (ContextUse u) = []
context_mentions (ContextPragma p) = []

-- the names in the with clauses (ARM 10.1.2(4))
abbrev pub mentions : CompilationUnitTree → List CompoundNameTree
mentions u = flat_map context_mentions u.context

abbrev pub arguments_in : Option PragmaArgumentsTree → List CompoundNameTree
arguments_in None = []
arguments_in (Some a) = names_in a.names

-- the names in a pragma of this name
abbrev pub pragma_names : List ℕ → ContextTree → List (List ℕ)
pragma_names word (WithClause n) = []
pragma_names word (ContextUse u) = []
pragma_names word (ContextPragma p) = if bytes_eq p.name.text word then map dotted (arguments_in p.arguments) else []

-- the names in the pragmas of this name in the context clause (ARM 10.2.1(20))
abbrev pub named_in_pragmas : List ℕ → CompilationUnitTree → List (List ℕ)
named_in_pragmas word u = flat_map (pragma_names word) u.context

abbrev pub stub_of : ItemTree → List (List ℕ)
stub_of (StubItem s l) = dotted (designator s) ∷ []
stub_of (CommonItem c) = []
stub_of (SubprogramItem s) = []
stub_of (BodyItem s b) = []
stub_of (TaskItem t) = []
stub_of (TaskBodyItem l n h) = []
stub_of (ProtectedItem l p) = []
stub_of (ProtectedBodyItem l n os e) = []

abbrev pub stubs_in : ItemsTree → List (List ℕ)
stubs_in NoItem = []
stubs_in (MoreItems i is) = stub_of i ++ stubs_in is

abbrev pub body_items : BodyTree → ItemsTree
body_items (Body is b ss e) = is

-- the names of the stubs that are immediately in a body's declarative part (ARM 10.1.3(2))
abbrev pub stubs : LibraryItemTree → List (List ℕ)
stubs (LibrarySubprogram p s) = []
stubs (LibraryPackage p l k) = []
stubs (LibraryBody s b) = stubs_in (body_items b)
stubs (LibraryPackageBody l k) = stubs_in k.items
stubs (Subunit l o n s b) = stubs_in (body_items b)

-- the declarations of both parts
abbrev pub private_declarations : Option PrivatePartTree → List DeclarationTree
private_declarations None = []
private_declarations (Some p) = p.declarations

abbrev pub declarations_of : PackageTree → List DeclarationTree
declarations_of k = k.visible ++ private_declarations k.private_part

-- a subprogram, a task or a protected object is completed by a body (ARM 6.1(20), 9.1(7), 9.4(10))
abbrev pub is_completed_by_body : DeclarationTree → Bool
is_completed_by_body (CommonDeclaration c) = false
is_completed_by_body (SubprogramDeclaration s) = true
is_completed_by_body (TaskDeclaration t) = true
is_completed_by_body (ProtectedDeclaration l p) = true

-- a use clause or a pragma, which declares nothing (ARM 3.1)
abbrev pub declares_nothing : DeclarationTree → Bool
declares_nothing (CommonDeclaration (UseClause u)) = true
declares_nothing (CommonDeclaration (PragmaItem p)) = true
declares_nothing (CommonDeclaration (ObjectDeclaration o)) = false
declares_nothing (CommonDeclaration (TypeDeclaration t)) = false
declares_nothing (CommonDeclaration (SubtypeDeclaration s)) = false
declares_nothing (SubprogramDeclaration s) = false
declares_nothing (TaskDeclaration t) = false
declares_nothing (ProtectedDeclaration l p) = false

-- the last identifier of a compound name
abbrev pub last_identifier : CompoundNameTree → Label
last_identifier n = unwrap_or (last_or None n.selectors) n.first

-- a compound name of this identifier alone
abbrev pub is_only : List ℕ → Label → List Label → Bool
is_only text i [] = bytes_eq i.text text
is_only text i (s ∷ ss) = false

-- no argument, or the one identifier
abbrev pub names_only : Label → List CompoundNameTree → Bool
names_only l [] = true
names_only l (n ∷ []) = is_only l.text n.first n.selectors
names_only l (n ∷ m ∷ ns) = false

-- pragma Elaborate_Body; or pragma Elaborate_Body (P); with the last identifier P of the package's name (ARM 10.2.1(20))
abbrev pub is_elaborate_body : CompoundNameTree → PragmaTree → Bool
is_elaborate_body name p = bytes_eq p.name.text (codes "elaborate_body") && names_only (last_identifier name) (arguments_in p.arguments)

abbrev pub asks_for_body : CompoundNameTree → DeclarationTree → Bool
asks_for_body name (CommonDeclaration (PragmaItem p)) = is_elaborate_body name p
asks_for_body name (CommonDeclaration (UseClause u)) = false
asks_for_body name (CommonDeclaration (ObjectDeclaration o)) = false
asks_for_body name (CommonDeclaration (TypeDeclaration t)) = false
asks_for_body name (CommonDeclaration (SubtypeDeclaration s)) = false
asks_for_body name (SubprogramDeclaration s) = false
asks_for_body name (TaskDeclaration t) = false
asks_for_body name (ProtectedDeclaration l p) = false

-- the pragma comes before every declaration of the package (ARM 10.1.5(4), 10.2.1(20))
abbrev pub has_elaborate_body : PackageTree → Bool
has_elaborate_body k = list_any (asks_for_body k.name) (take_while declares_nothing (declarations_of k))

-- something in it is completed by a body, or it has the pragma (ARM 7.2(4), 10.2.1(22))
abbrev pub package_needs_body : PackageTree → Bool
package_needs_body k = list_any is_completed_by_body (declarations_of k) || has_elaborate_body k

-- a declaration that a body completes: each of a subprogram, and some of packages
abbrev pub needs_body : LibraryItemTree → Bool
needs_body (LibrarySubprogram p s) = true
needs_body (LibraryPackage p l k) = package_needs_body k
needs_body (LibraryBody s b) = false
needs_body (LibraryPackageBody l k) = false
needs_body (Subunit l o n s b) = false

-- a package's declaration with the pragma
abbrev pub item_has_elaborate_body : LibraryItemTree → Bool
item_has_elaborate_body (LibrarySubprogram p s) = false
item_has_elaborate_body (LibraryPackage p l k) = has_elaborate_body k
item_has_elaborate_body (LibraryBody s b) = false
item_has_elaborate_body (LibraryPackageBody l k) = false
item_has_elaborate_body (Subunit l o n s b) = false

abbrev pub is_parameterless : SpecificationTree → Bool
is_parameterless (ProcedureSpecification l n f) = is_none f
is_parameterless (FunctionSpecification l n f r m) = false

-- the declaration or the body of a library procedure without parameters (ARM 10.2(7))
abbrev pub is_parameterless_procedure : LibraryItemTree → Bool
is_parameterless_procedure (LibrarySubprogram p s) = is_parameterless s
is_parameterless_procedure (LibraryPackage p l k) = false
is_parameterless_procedure (LibraryBody s b) = is_parameterless s
is_parameterless_procedure (LibraryPackageBody l k) = false
is_parameterless_procedure (Subunit l o n s b) = false

unfoldable pub header_of : CompilationUnitTree → Header
header_of u = record {
  name = full_name (parent_body_name u.item) (item_name u.item);
  place = place_of (item_name u.item);
  form = form_of u.item;
  is_private = is_private u.item;
  needs_body = needs_body u.item;
  parent_body = option_map mention_of (parent_body_name u.item);
  designator = dotted (item_name u.item);
  mentions = map mention_of (mentions u);
  stubs = stubs u.item;
  elaborate = named_in_pragmas (codes "elaborate") u;
  elaborate_all = named_in_pragmas (codes "elaborate_all") u;
  has_elaborate_body = item_has_elaborate_body u.item;
  is_parameterless_procedure = is_parameterless_procedure u.item;
}
