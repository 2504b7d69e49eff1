-- What a unit declares, in the order of the names.
use Rattle.std.specs.Prelude.{ℕ, List, [], ◌∷◌, ◌++◌, Option, Some, None, option_map}
use Rattle.std.specs.Option.{option_map_or}
use Rattle.std.specs.List.{flat_map}
use Rattle.al_tree_syntax.specs.DeclarationTrees.{DeclarationTree}
use Rattle.al_tree_syntax.specs.UnitTrees.{CompilationUnitTree, LibraryItemTree, LibraryItemTree as library_items, PackageTree, PrivatePartTree}
use Rattle.al_unit.specs.Readings.{reading_of, unit_read}
use Rattle.al_lsp_outline.specs.Named.{compound, deeper, last_of}
use Rattle.al_lsp_outline.specs.Parts.{declaration_declared, subprogram_declared}
use Rattle.al_lsp_outline.specs.Bodies.{body_declared, items_declared}
use Rattle.al_lsp_outline.specs.declared.declared.Declared.{Declared}
use Rattle.al_lsp_outline.specs.declared.declared.DeclaredKind.TheVariants as kinds

abbrev pub declarations_in : Option PrivatePartTree → List DeclarationTree
declarations_in None = []
declarations_in (Some part) = part.declarations

abbrev pub private_declarations : PackageTree → List DeclarationTree
private_declarations p = declarations_in p.private_part

abbrev pub package_declared : PackageTree → List Declared
package_declared p = compound kinds.Package 0 p.name p.end.end ∷ (flat_map (declaration_declared (deeper 0)) p.visible ++ flat_map (declaration_declared (deeper 0)) (private_declarations p))

abbrev pub item_declared : LibraryItemTree → List Declared
item_declared (library_items.LibrarySubprogram p s) = subprogram_declared 0 s (last_of s)
item_declared (library_items.LibraryPackage p l k) = package_declared k
item_declared (library_items.LibraryBody s b) = body_declared 0 s b
item_declared (library_items.LibraryPackageBody p k) = compound kinds.Package 0 k.name k.end.end ∷ items_declared (deeper 0) k.items
item_declared (library_items.Subunit p o n s b) = body_declared 0 s b

abbrev pub unit_declared : CompilationUnitTree → List Declared
unit_declared unit = item_declared unit.item

-- what a source declares; nothing where it is no unit
abbrev pub text_declared : List ℕ → List Declared
text_declared text = option_map_or unit_declared (unit_read (reading_of text)) []
