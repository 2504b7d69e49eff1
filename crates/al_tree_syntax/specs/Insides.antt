-- What the inside of each construct becomes in a tree.
use Rattle.std.specs.Prelude.{ℕ, Bool, true, false, List, [], ◌∷◌}
use Rattle.al_tree_grammar.specs.Grammar.{Label, Rule, Within, Layer}
use Rattle.al_tree_syntax.specs.Constructs.{Construct, construct_at}
use Rattle.al_tree_syntax.specs.Constructs.Construct.{Parentheses, Arguments, PragmaArguments, ParentName, FormalPart, EnumerationLiterals, ArrayIndex, RecordDefinition, ProtectedDeclaration, ProtectedUnit, EntryBody, TaskBody, SubprogramBody, BodyOrStub, PackageDeclaration, PackageUnit, IfStatement, CaseStatement, WhileLoop, ForLoop, PlainLoop, DeclareBlock, PlainBlock}
use Rattle.al_tree_syntax.specs.ExpressionTrees.{GroupTree, PartTree}
use Rattle.al_tree_syntax.specs.DeclarationTrees.{IdentifiersTree, CompoundNameTree, CompoundNamesTree, DiscreteRangeTree, TypeDefinitionTree, FormalPartTree, SpecificationTree, ProtectedTree}
use Rattle.al_tree_syntax.specs.StatementTrees.{StatementTree, LoopTree, BlockTree, HandledTree, BodyTree, ItemTree, OperationBodyTree}
use Rattle.al_tree_syntax.specs.UnitTrees.{PackageTree, LibraryItemTree}

-- a task body's name, and what it has after `is`
pub record NamedHandledTree : Type 0 where
  pub name : Label
  pub handled : HandledTree

-- The label that a construct opens with is given if the tree has it.
abbrev pub InsideTree : Construct → Type 0
InsideTree Parentheses = Label → GroupTree
InsideTree Arguments = Label → PartTree
InsideTree PragmaArguments = CompoundNamesTree
InsideTree ParentName = CompoundNameTree
InsideTree FormalPart = Label → FormalPartTree
InsideTree EnumerationLiterals = IdentifiersTree
InsideTree ArrayIndex = DiscreteRangeTree
InsideTree RecordDefinition = TypeDefinitionTree
InsideTree ProtectedDeclaration = ProtectedTree
InsideTree ProtectedUnit = Label → ItemTree
InsideTree EntryBody = Label → OperationBodyTree
InsideTree TaskBody = NamedHandledTree
InsideTree SubprogramBody = BodyTree
InsideTree BodyOrStub = SpecificationTree → ItemTree
InsideTree PackageDeclaration = PackageTree
InsideTree PackageUnit = Label → LibraryItemTree
InsideTree IfStatement = Label → StatementTree
InsideTree CaseStatement = Label → StatementTree
InsideTree WhileLoop = Label → LoopTree
InsideTree ForLoop = Label → LoopTree
InsideTree PlainLoop = Label → LoopTree
InsideTree DeclareBlock = Label → BlockTree
InsideTree PlainBlock = Label → BlockTree

-- the constructs that may be inside, and what becomes of them
pub record Nested : Type 1 where
  pub room : Bool
  pub Tree : ℕ → Type 0
  pub from : (n : ℕ) → Tree n → InsideTree (construct_at n)

-- the grammar's trees of a rule, over these
abbrev pub Of : Nested → Rule → Type 0
Of c r = Layer c.room c.Tree r

-- the trees of what is separated by words or delimiters
unfoldable pub each_from : {A B C : Type 0} → (B → C) → List (A × B) → List C
each_from f [] = []
each_from f ((mark, x) ∷ xs) = f x ∷ each_from f xs

-- There is one only if there is room.
unfoldable pub roomed : {A : Type 0} (room : Bool) → Within room A → A
roomed true x = x
roomed false x = absurd x
