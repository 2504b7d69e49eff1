-- The lines of first tokens.
use Rattle.std.specs.Prelude.{ℕ, Option, Some, None}
use Rattle.al_tree_grammar.specs.Grammar.{Label}
use Rattle.al_tree_syntax.specs.DeclarationTrees.{SpecificationTree}
use Rattle.al_tree_syntax.specs.DeclarationTrees.SpecificationTree.{FunctionSpecification, ProcedureSpecification}
use Rattle.al_tree_syntax.specs.UnitTrees.{LibraryItemTree}
use Rattle.al_tree_syntax.specs.UnitTrees.LibraryItemTree.{LibrarySubprogram, LibraryPackage, LibraryBody, LibraryPackageBody, Subunit}

abbrev pub specification_line : SpecificationTree → ℕ
specification_line (ProcedureSpecification l n f) = l.line
specification_line (FunctionSpecification l n f r m) = l.line

-- the line of the word `private`, or else that line
abbrev pub private_line : Option Label → ℕ → ℕ
private_line (Some l) line = l.line
private_line None line = line

-- the line of a unit's item, after its context clause
abbrev pub item_line : LibraryItemTree → ℕ
item_line (LibrarySubprogram p s) = private_line p (specification_line s)
item_line (LibraryPackage p l k) = private_line p l.line
item_line (LibraryBody s b) = specification_line s
item_line (LibraryPackageBody l k) = l.line
item_line (Subunit l o n s b) = l.line
