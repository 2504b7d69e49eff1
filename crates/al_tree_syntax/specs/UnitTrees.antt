-- Trees of compilation units (ARM 7.1, 7.2, 10.1.1 to 10.1.3) as plain data, and their lexemes.
use Rattle.std.specs.Prelude.{List, [], ◌∷◌, ◌++◌, Option}
use Rattle.al_tree_grammar.specs.Grammar.{Label, Lexeme, each, maybe}
use Rattle.al_tree_syntax.specs.Symbols.{Symbol as symbols}
use Rattle.al_tree_syntax.specs.Words.{word, labelled}
use Rattle.al_tree_syntax.specs.DeclarationTrees.{CompoundNameTree, CompoundNamesTree, UseTree, PragmaTree, SpecificationTree, DeclarationTree, compound_tokens, compounds_tokens, use_tokens, pragma_tokens, specification_tokens, declaration_tokens}
use Rattle.al_tree_syntax.specs.StatementTrees.{StatementsTree, BodyTree, ItemsTree, CompoundEndTree, statements_tokens, body_tokens, items_tokens, compound_end_tokens}

-- with clause, use clause or pragma (ARM 10.1.2)
pub data ContextTree : Type 0 where
  WithClause : CompoundNamesTree → ContextTree
  ContextUse : UseTree → ContextTree
  ContextPragma : PragmaTree → ContextTree

-- the private part of a package, with the place of `private`
pub record PrivatePartTree : Type 0 where
  pub opening : Label
  pub declarations : List DeclarationTree

-- after `package` (ARM 7.1)
pub record PackageTree : Type 0 where
  pub name : CompoundNameTree
  pub visible : List DeclarationTree
  pub private_part : Option PrivatePartTree
  pub end : CompoundEndTree

-- the statements of a package body, with the place of `begin`
pub record PackageStatementsTree : Type 0 where
  pub opening : Label
  pub statements : StatementsTree

-- after `package body` (ARM 7.2)
pub record PackageBodyTree : Type 0 where
  pub name : CompoundNameTree
  pub items : ItemsTree
  pub statements : Option PackageStatementsTree
  pub end : CompoundEndTree

-- A declaration may have the place of `private`. A package has that of `package`. A subunit has those of `separate` and of its
-- parenthesis, and its parent's name.
pub data LibraryItemTree : Type 0 where
  LibrarySubprogram : Option Label → SpecificationTree → LibraryItemTree
  LibraryPackage : Option Label → Label → PackageTree → LibraryItemTree
  LibraryBody : SpecificationTree → BodyTree → LibraryItemTree
  LibraryPackageBody : Label → PackageBodyTree → LibraryItemTree
  Subunit : Label → Label → CompoundNameTree → SpecificationTree → BodyTree → LibraryItemTree

-- compilation unit (ARM 10.1.1)
pub record CompilationUnitTree : Type 0 where
  pub context : List ContextTree
  pub item : LibraryItemTree

abbrev pub context_tokens : ContextTree → List Lexeme
context_tokens (WithClause n) = word symbols.With ∷ (compounds_tokens n ++ word symbols.Semicolon ∷ [])
context_tokens (ContextUse u) = use_tokens u
context_tokens (ContextPragma p) = pragma_tokens p

abbrev pub private_part_tokens : PrivatePartTree → List Lexeme
private_part_tokens p = labelled symbols.Private p.opening ∷ each declaration_tokens p.declarations

-- after `package`
abbrev pub package_tokens : PackageTree → List Lexeme
package_tokens p =
    compound_tokens p.name ++ word symbols.Is ∷ (each declaration_tokens p.visible
    ++ (maybe private_part_tokens p.private_part ++ compound_end_tokens p.end))

abbrev pub package_statements_tokens : PackageStatementsTree → List Lexeme
package_statements_tokens s = labelled symbols.Begin s.opening ∷ statements_tokens s.statements

-- after `package body`
abbrev pub package_body_tokens : PackageBodyTree → List Lexeme
package_body_tokens p =
    compound_tokens p.name ++ word symbols.Is ∷ (items_tokens p.items
    ++ (maybe package_statements_tokens p.statements ++ compound_end_tokens p.end))

-- [private]
abbrev pub private_tokens : Option Label → List Lexeme
private_tokens p = maybe (λ l. labelled symbols.Private l ∷ []) p

abbrev pub library_item_tokens : LibraryItemTree → List Lexeme
library_item_tokens (LibrarySubprogram p s) = private_tokens p ++ (specification_tokens s ++ word symbols.Semicolon ∷ [])
library_item_tokens (LibraryPackage p l k) = private_tokens p ++ labelled symbols.Package l ∷ package_tokens k
library_item_tokens (LibraryBody s b) = specification_tokens s ++ word symbols.Is ∷ body_tokens b
library_item_tokens (LibraryPackageBody l k) = labelled symbols.Package l ∷ word symbols.Body ∷ package_body_tokens k
library_item_tokens (Subunit l o n s b) =
    labelled symbols.Separate l ∷ labelled symbols.LeftParenthesis o ∷ (compound_tokens n
    ++ word symbols.RightParenthesis ∷ (specification_tokens s ++ word symbols.Is ∷ body_tokens b))

-- the lexemes of a compilation unit
unfoldable pub tokens_of : CompilationUnitTree → List Lexeme
tokens_of u = each context_tokens u.context ++ library_item_tokens u.item
