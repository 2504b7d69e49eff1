-- What is declared in bodies (ARM 3.11).
use Rattle.std.specs.Prelude.{ℕ, List, [], ◌∷◌, ◌++◌}
use Rattle.al_tree_grammar.specs.Grammar.{Label}
use Rattle.al_tree_syntax.specs.DeclarationTrees.{SpecificationTree}
use Rattle.al_tree_syntax.specs.StatementTrees.{BodyTree, BodyTree as bodies, HandledTree, HandledTree as handleds, ItemTree, ItemTree as items, ItemsTree, OperationBodiesTree, OperationBodyTree, OperationBodyTree as operations}
use Rattle.al_lsp_outline.specs.Named.{declared, deeper, last_of, named}
use Rattle.al_lsp_outline.specs.Parts.{common_declared, protected_declared, subprogram_declared}
use Rattle.al_lsp_outline.specs.declared.declared.Declared.{Declared}
use Rattle.al_lsp_outline.specs.declared.declared.DeclaredKind.{DeclaredKind}
use Rattle.al_lsp_outline.specs.declared.declared.DeclaredKind.TheVariants as kinds

abbrev pub ended : DeclaredKind → ℕ → Label → Label → Declared
ended kind depth name last = declared kind depth name name last

abbrev mutual
  pub items_declared : ℕ → ItemsTree → List Declared
  items_declared depth ItemsTree.NoItem = []
  items_declared depth (ItemsTree.MoreItems i is) = item_declared depth i ++ items_declared depth is

  pub item_declared : ℕ → ItemTree → List Declared
  item_declared depth (items.CommonItem c) = common_declared depth c
  item_declared depth (items.SubprogramItem s) = subprogram_declared depth s (last_of s)
  item_declared depth (items.StubItem s p) = subprogram_declared depth s p
  item_declared depth (items.BodyItem s b) = body_declared depth s b
  item_declared depth (items.TaskItem t) = named kinds.Task depth t.name ∷ []
  item_declared depth (items.TaskBodyItem p name h) = handled_declared kinds.Task depth name h
  item_declared depth (items.ProtectedItem p d) = protected_declared depth d
  item_declared depth (items.ProtectedBodyItem p name os e) = ended kinds.Protected depth name e.end ∷ operations_declared (deeper depth) os

  pub body_declared : ℕ → SpecificationTree → BodyTree → List Declared
  body_declared depth s (bodies.Body is begin ss e) = subprogram_declared depth s e.end ++ items_declared (deeper depth) is

  pub handled_declared : DeclaredKind → ℕ → Label → HandledTree → List Declared
  handled_declared kind depth name (handleds.Handled is begin ss e) = ended kind depth name e.end ∷ items_declared (deeper depth) is

  pub operations_declared : ℕ → OperationBodiesTree → List Declared
  operations_declared depth OperationBodiesTree.NoOperationBody = []
  operations_declared depth (OperationBodiesTree.MoreOperationBodies o os) = operation_declared depth o ++ operations_declared depth os

  pub operation_declared : ℕ → OperationBodyTree → List Declared
  operation_declared depth (operations.SubprogramOperation s b) = body_declared depth s b
  operation_declared depth (operations.EntryOperation p name e h) = handled_declared kinds.Entry depth name h
