-- Which packages need a body, in words.
use Rattle.std.specs.Prelude.{◌≡◌, ◌↔◌, true, List, [], ◌∷◌, ◌++◌, None, Some, codes}
use Rattle.std.specs.List.{All, Contains}
use Rattle.al_tree_syntax.specs.DeclarationTrees.{CompoundNameTree, DeclarationTree, PragmaArgumentsTree, PragmaTree, ProtectedTree, SpecificationTree, TaskTree, UseTree}
use Rattle.al_tree_syntax.specs.DeclarationTrees.CommonTree.{UseClause, PragmaItem}
use Rattle.al_tree_syntax.specs.DeclarationTrees.DeclarationTree.{CommonDeclaration, SubprogramDeclaration, TaskDeclaration, ProtectedDeclaration}
use Rattle.al_tree_grammar.specs.Grammar.{Label}
use Rattle.al_tree_syntax.specs.UnitTrees.{PackageTree}
use Rattle.al_unit_header.specs.Units.{declarations_of, last_identifier, package_needs_body}

-- a body completes the declaration of a subprogram, of a task and of a protected object (ARM 6.1(20), 9.1(7), 9.4(10))
pub data HasBody : DeclarationTree → Type 0 where
  subprogram : {s : SpecificationTree} → HasBody (SubprogramDeclaration s)
  task : {t : TaskTree} → HasBody (TaskDeclaration t)
  protected : {l : Label} {p : ProtectedTree} → HasBody (ProtectedDeclaration l p)

-- a use clause and a pragma declare nothing (ARM 3.1)
pub data DeclaresNothing : DeclarationTree → Type 0 where
  use_clause : {u : UseTree} → DeclaresNothing (CommonDeclaration (UseClause u))
  some_pragma : {p : PragmaTree} → DeclaresNothing (CommonDeclaration (PragmaItem p))

-- pragma Elaborate_Body, without an argument or with the last identifier of the package's name alone (ARM 10.2.1(20))
pub data IsElaborateBody (name : CompoundNameTree) (p : PragmaTree) : Type 0 where
  alone : p.name.text ≡ codes "elaborate_body" → p.arguments ≡ None → IsElaborateBody name p
  named : {a : PragmaArgumentsTree} → p.name.text ≡ codes "elaborate_body" → p.arguments ≡ Some a → a.names.first.first.text ≡ (last_identifier name).text → a.names.first.selectors ≡ [] → a.names.others ≡ [] → IsElaborateBody name p

-- a package needs a body (ARM 7.2(4), 10.2.1(22))
pub data NeedsBody (k : PackageTree) : Type 0 where
  -- a body completes one of its declarations
  completed : {d : DeclarationTree} → Contains (declarations_of k) d → HasBody d → NeedsBody k
  -- it has the pragma, before which nothing is declared (ARM 10.1.5(4))
  asked : (before after : List DeclarationTree) (p : PragmaTree) → declarations_of k ≡ before ++ CommonDeclaration (PragmaItem p) ∷ after → All DeclaresNothing before → IsElaborateBody k.name p → NeedsBody k

abbrev pub BodiesAreNeeded : Type 0
BodiesAreNeeded = (k : PackageTree) → (package_needs_body k ≡ true) ↔ NeedsBody k
