-- What it is that each tree of a construct is made from one of the grammar's, and the steps from the parts of a tree to the whole.
use Rattle.std.proofs.Common.{Bool, List, None, Option, Some, [], arith, false, map, refl, suc, true, ℕ, ◌∷◌, ◌≡◌, ◌≤◌}
use Rattle.std.specs.Prelude.{max, option_map}
use Rattle.al_tree_grammar.specs.Grammar.{Label}
use Rattle.al_tree_syntax.specs.Constructs.Construct.{Arguments as InArguments, ArrayIndex as InArrayIndex, BodyOrStub as InBodyOrStub, CaseStatement as InCaseStatement, DeclareBlock as InDeclareBlock, EntryBody as InEntryBody, EnumerationLiterals as InEnumerationLiterals, ForLoop as InForLoop, FormalPart as InFormalPart, IfStatement as InIfStatement, PackageDeclaration as InPackageDeclaration, PackageUnit as InPackageUnit, ParentName as InParentName, Parentheses as InParentheses, PlainBlock as InPlainBlock, PlainLoop as InPlainLoop, PragmaArguments as InPragmaArguments, ProtectedDeclaration as InProtectedDeclaration, ProtectedUnit as InProtectedUnit, RecordDefinition as InRecordDefinition, SubprogramBody as InSubprogramBody, TaskBody as InTaskBody, WhileLoop as InWhileLoop}
use Rattle.al_tree_syntax.specs.Constructs.{Construct, construct_at}
use Rattle.al_tree_syntax.specs.ExpressionTrees.{ExpressionTree, ExpressionsTree, GroupTree}
use Rattle.al_tree_syntax.specs.ExpressionTrees.PartTree.{Arguments}
use Rattle.al_tree_syntax.specs.DeclarationTrees.{ComponentsTree, CompoundNameTree, CompoundNamesTree, DiscreteRangeTree, FormalPartTree, IdentifiersTree, ProtectedTree, SpecificationTree}
use Rattle.al_tree_syntax.specs.DeclarationTrees.TypeDefinitionTree.{RecordDefinition}
use Rattle.al_tree_syntax.specs.StatementTrees.{AlternativeTree, AlternativesTree, BodyTree, BranchTree, ElseTree, ElsifsTree, HandledTree, LoopEndTree, NamedEndTree, OperationBodiesTree, StatementsTree}
use Rattle.al_tree_syntax.specs.StatementTrees.StatementTree.{CaseStatement, IfStatement}
use Rattle.al_tree_syntax.specs.StatementTrees.LoopTree.{ForLoop, PlainLoop, WhileLoop}
use Rattle.al_tree_syntax.specs.StatementTrees.BlockTree.{DeclareBlock, PlainBlock}
use Rattle.al_tree_syntax.specs.StatementTrees.ItemTree.{BodyItem, ProtectedBodyItem, ProtectedItem, StubItem}
use Rattle.al_tree_syntax.specs.StatementTrees.OperationBodyTree.{EntryOperation}
use Rattle.al_tree_syntax.specs.UnitTrees.{PackageBodyTree, PackageTree}
use Rattle.al_tree_syntax.specs.UnitTrees.LibraryItemTree.{LibraryPackage, LibraryPackageBody}
use Rattle.al_tree_syntax.specs.Insides.{InsideTree, Nested, each_from, roomed}
use Rattle.al_tree_syntax.specs.Nesting.{at_least, block_nesting, body_nesting, components_nesting, deepest, discrete_range_nesting, expression_nesting, handled_nesting, loop_nesting, operation_bodies_nesting, package_body_nesting, package_nesting, group_nesting, part_nesting, protected_nesting, statement_nesting}

-- what f takes to y
abbrev pub Fiber : {A B : Type 0} → (A → B) → B → Type 0
Fiber f y = (x : _) × (f x ≡ y)

-- Each tree of the construct k that nests at most d deep is made from one of T.
abbrev pub IsMade : ℕ → (k : Construct) (T : Type 0) → (T → InsideTree k) → ℕ → Type 0
IsMade w InParentheses T from d = (p : GroupTree) → group_nesting w p ≤ d → (l : Label) × (x : T) × (from x l ≡ p)
IsMade w InArguments T from d = (l : Label) (e : ExpressionTree) (es : ExpressionsTree) → part_nesting w (Arguments l e es) ≤ d → (x : T) × (from x l ≡ Arguments l e es)
IsMade w InPragmaArguments T from d = (n : CompoundNamesTree) → 1 ≤ d → (x : T) × (from x ≡ n)
IsMade w InParentName T from d = (n : CompoundNameTree) → 1 ≤ d → (x : T) × (from x ≡ n)
IsMade w InFormalPart T from d = (p : FormalPartTree) → 1 ≤ d → (x : T) × (from x p.opening ≡ p)
IsMade w InEnumerationLiterals T from d = (n : IdentifiersTree) → 1 ≤ d → (x : T) × (from x ≡ n)
IsMade w InArrayIndex T from d = (r : DiscreteRangeTree) → suc (discrete_range_nesting w r) ≤ d → (x : T) × (from x ≡ r)
IsMade w InRecordDefinition T from d = (r : ComponentsTree) (e : Label) → suc (components_nesting w r) ≤ d → (x : T) × (from x ≡ RecordDefinition r e)
IsMade w InProtectedDeclaration T from d = (p : ProtectedTree) → protected_nesting w p ≤ d → (x : T) × (from x ≡ p)
IsMade w InProtectedUnit T from d =
    ((l : Label) (p : ProtectedTree) → protected_nesting w p ≤ d → (x : T) × (from x l ≡ ProtectedItem l p))
    × ((l n : Label) (os : OperationBodiesTree) (e : NamedEndTree) → suc (operation_bodies_nesting w os) ≤ d → (x : T) × (from x l ≡ ProtectedBodyItem l n os e))
IsMade w InEntryBody T from d = (l n : Label) (e : ExpressionTree) (b : HandledTree) → suc (max (expression_nesting w e) (handled_nesting w b)) ≤ d → (x : T) × (from x l ≡ EntryOperation l n e b)
IsMade w InTaskBody T from d = (n : Label) (b : HandledTree) → suc (handled_nesting w b) ≤ d → (x : T) × (from x ≡ record { name = n; handled = b })
IsMade w InSubprogramBody T from d = (b : BodyTree) → body_nesting w b ≤ d → (x : T) × (from x ≡ b)
IsMade w InBodyOrStub T from d =
    ((l : Label) → 1 ≤ d → (x : T) × ((s : SpecificationTree) → from x s ≡ StubItem s l))
    × ((b : BodyTree) → body_nesting w b ≤ d → (x : T) × ((s : SpecificationTree) → from x s ≡ BodyItem s b))
IsMade w InPackageDeclaration T from d = (p : PackageTree) → package_nesting w p ≤ d → (x : T) × (from x ≡ p)
IsMade w InPackageUnit T from d =
    ((l : Label) (p : PackageTree) → package_nesting w p ≤ d → (x : T) × (from x l ≡ LibraryPackage None l p))
    × ((l : Label) (p : PackageBodyTree) → package_body_nesting w p ≤ d → (x : T) × (from x l ≡ LibraryPackageBody l p))
IsMade w InIfStatement T from d =
    (l : Label) (b : BranchTree) (bs : ElsifsTree) (e : ElseTree) (m k : Label) → statement_nesting w (IfStatement l b bs e m k) ≤ d → (x : T) × (from x l ≡ IfStatement l b bs e m k)
IsMade w InCaseStatement T from d =
    (l : Label) (e : ExpressionTree) (a : AlternativeTree) (more : AlternativesTree) (m k : Label)
    → statement_nesting w (CaseStatement l e a more m k) ≤ d → (x : T) × (from x l ≡ CaseStatement l e a more m k)
IsMade w InWhileLoop T from d =
    (v : Label) (e : ExpressionTree) (l : Label) (ss : StatementsTree) (end : LoopEndTree) → loop_nesting w (WhileLoop v e l ss end) ≤ d → (x : T) × (from x v ≡ WhileLoop v e l ss end)
IsMade w InForLoop T from d =
    (f i : Label) (r : Bool) (e : DiscreteRangeTree) (l : Label) (ss : StatementsTree) (end : LoopEndTree)
    → loop_nesting w (ForLoop f i r e l ss end) ≤ d → (x : T) × (from x f ≡ ForLoop f i r e l ss end)
IsMade w InPlainLoop T from d = (l : Label) (ss : StatementsTree) (end : LoopEndTree) → loop_nesting w (PlainLoop l ss end) ≤ d → (x : T) × (from x l ≡ PlainLoop l ss end)
IsMade w InDeclareBlock T from d = (l : Label) (b : HandledTree) → block_nesting w (DeclareBlock l b) ≤ d → (x : T) × (from x l ≡ DeclareBlock l b)
IsMade w InPlainBlock T from d = (l : Label) (ss : StatementsTree) (end : NamedEndTree) → block_nesting w (PlainBlock l ss end) ≤ d → (x : T) × (from x l ≡ PlainBlock l ss end)

-- d more constructs may be open
pub record Made (w : ℕ) (c : Nested) (d : ℕ) : Type 0 where
  pub few : suc d ≤ w
  pub opens : 1 ≤ d → c.room ≡ true
  pub opened : c.room ≡ true → 1 ≤ d
  pub made : (n : ℕ) → IsMade w (construct_at n) (c.Tree n) (c.from n) d

pub each_made : {A B : Type 0} (f : A → B) → ((y : B) → Fiber f y) → (ys : List B) → Fiber (each_from {A = Unit {0}} f) ys
unfolding each_from
each_made f g [] = ([], refl)
each_made f g (y ∷ ys) = let x = g y in let xs = each_made f g ys in ((tt, x.0) ∷ xs.0, λ i. x.1 i ∷ xs.1 i)

pub each_within : {A B : Type 0} (f : A → B) (n : B → ℕ) (d : ℕ) → ((y : B) → n y ≤ d → Fiber f y) → (ys : List B) → deepest n ys ≤ d → Fiber (each_from {A = Unit {0}} f) ys
unfolding each_from
each_within f n d g [] h = ([], refl)
each_within f n d g (y ∷ ys) h = let x = g y (omega arith) in let xs = each_within f n d g ys (omega arith) in ((tt, x.0) ∷ xs.0, λ i. x.1 i ∷ xs.1 i)

pub map_within : {A B : Type 0} (f : A → B) (n : B → ℕ) (d : ℕ) → ((y : B) → n y ≤ d → Fiber f y) → (ys : List B) → deepest n ys ≤ d → Fiber (map f) ys
map_within f n d g [] h = ([], refl)
map_within f n d g (y ∷ ys) h = let x = g y (omega arith) in let xs = map_within f n d g ys (omega arith) in (x.0 ∷ xs.0, λ i. x.1 i ∷ xs.1 i)

pub maybe_made : {A B : Type 0} (f : A → B) → ((y : B) → Fiber f y) → (o : Option B) → Fiber (option_map f) o
maybe_made f g None = (None, refl)
maybe_made f g (Some y) = let x = g y in (Some x.0, λ i. Some (x.1 i))

pub maybe_within : {A B : Type 0} (f : A → B) (n : B → ℕ) (d : ℕ) → ((y : B) → n y ≤ d → Fiber f y) → (o : Option B) → at_least n o ≤ d → Fiber (option_map f) o
maybe_within f n d g None h = (None, refl)
maybe_within f n d g (Some y) h = let x = g y h in (Some x.0, λ i. Some (x.1 i))

pub roomed_made : {A : Type 0} (room : Bool) → room ≡ true → (x : A) → Fiber (roomed {A = A} room) x
unfolding roomed
roomed_made true e x = (x, refl)
roomed_made false e x = absurd (cc)
