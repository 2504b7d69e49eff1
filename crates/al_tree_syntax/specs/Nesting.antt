-- How deep a tree's constructs nest: a pair of parentheses, or what `end` closes. A subprogram's body opens at its `is`, so its specification is outside; what a statement begins with is inside.
use Rattle.std.specs.Prelude.{Bool, true, false, List, None, Option, Some, [], max, suc, ℕ, ◌∷◌}
use Rattle.al_tree_syntax.specs.Rules.{most}
use Rattle.al_tree_syntax.specs.ExpressionTrees.{ExpressionTree, ExpressionsTree, GroupTree, Level, PartTree, left_level, operand_level, right_level, stands}
use Rattle.al_tree_syntax.specs.ExpressionTrees.Level.{NameLevel, SimpleLevel}
use Rattle.al_tree_syntax.specs.ExpressionTrees.ExpressionTree.{Group, InMark, InRange, Infix, Longer, Name, Number, Prefixed, Text}
use Rattle.al_tree_syntax.specs.ExpressionTrees.GroupTree.{OthersAggregate, Positional}
use Rattle.al_tree_syntax.specs.ExpressionTrees.ExpressionsTree.{MoreExpressions, NoExpression}
use Rattle.al_tree_syntax.specs.ExpressionTrees.PartTree.{Arguments, Attribute, Operand, RangeAttribute, Selector}
use Rattle.al_tree_syntax.specs.DeclarationTrees.{ArrayTree, AspectTree, CommonTree, ComponentTree, ComponentsTree, DeclarationTree, DiscreteRangeTree, FormalPartTree, ObjectFormTree, ObjectTree, ObjectTypeTree, PragmaTree, ProtectedComponentTree, ProtectedOperationTree, ProtectedPrivateTree, ProtectedTree, RangeTree, SpecificationTree, SubtypeIndicationTree, SubtypeTree, TaskTree, TypeDefinitionTree, TypeTree}
use Rattle.al_tree_syntax.specs.DeclarationTrees.DiscreteRangeTree.{Bounds, MarkRange, SoleMark}
use Rattle.al_tree_syntax.specs.DeclarationTrees.ObjectTypeTree.{AnonymousArray, NamedType}
use Rattle.al_tree_syntax.specs.DeclarationTrees.ObjectFormTree.{NamedNumber, TypedObject}
use Rattle.al_tree_syntax.specs.DeclarationTrees.ComponentsTree.{NullComponents, SomeComponents}
use Rattle.al_tree_syntax.specs.DeclarationTrees.TypeDefinitionTree.{ArrayDefinition, EnumerationDefinition, IntegerDefinition, NullRecordDefinition, PrivateDefinition, RecordDefinition}
use Rattle.al_tree_syntax.specs.DeclarationTrees.SpecificationTree.{FunctionSpecification, ProcedureSpecification}
use Rattle.al_tree_syntax.specs.DeclarationTrees.ProtectedOperationTree.{EntryDeclaration, ProtectedSubprogram}
use Rattle.al_tree_syntax.specs.DeclarationTrees.CommonTree.{ObjectDeclaration, PragmaItem, SubtypeDeclaration, TypeDeclaration, UseClause}
use Rattle.al_tree_syntax.specs.DeclarationTrees.DeclarationTree.{CommonDeclaration, ProtectedDeclaration, SubprogramDeclaration, TaskDeclaration}
use Rattle.al_tree_syntax.specs.StatementTrees.{AlternativeTree, AlternativesTree, BlockTree, BodyTree, BranchTree, ChoiceTree, ElseTree, ElsifsTree, HandledTree, ItemTree, ItemsTree, LoopTree, MoreStatementsTree, OperationBodiesTree, OperationBodyTree, StatementTree, StatementsTree}
use Rattle.al_tree_syntax.specs.StatementTrees.ChoiceTree.{OthersChoice, RangeChoice}
use Rattle.al_tree_syntax.specs.StatementTrees.StatementsTree.{Statements}
use Rattle.al_tree_syntax.specs.StatementTrees.MoreStatementsTree.{MoreStatements, NoStatement}
use Rattle.al_tree_syntax.specs.StatementTrees.StatementTree.{Assignment, BlockStatement, CallStatement, CaseStatement, DelayStatement, ExitStatement, IfStatement, LoopStatement, NullStatement, ReturnStatement}
use Rattle.al_tree_syntax.specs.StatementTrees.BranchTree.{Branch}
use Rattle.al_tree_syntax.specs.StatementTrees.ElsifsTree.{MoreElsifs, NoElsif}
use Rattle.al_tree_syntax.specs.StatementTrees.ElseTree.{Else, NoElse}
use Rattle.al_tree_syntax.specs.StatementTrees.AlternativeTree.{Alternative}
use Rattle.al_tree_syntax.specs.StatementTrees.AlternativesTree.{MoreAlternatives, NoAlternative}
use Rattle.al_tree_syntax.specs.StatementTrees.LoopTree.{ForLoop, PlainLoop, WhileLoop}
use Rattle.al_tree_syntax.specs.StatementTrees.BlockTree.{DeclareBlock, PlainBlock}
use Rattle.al_tree_syntax.specs.StatementTrees.HandledTree.{Handled}
use Rattle.al_tree_syntax.specs.StatementTrees.BodyTree.{Body}
use Rattle.al_tree_syntax.specs.StatementTrees.ItemsTree.{MoreItems, NoItem}
use Rattle.al_tree_syntax.specs.StatementTrees.ItemTree.{BodyItem, CommonItem, ProtectedBodyItem, ProtectedItem, StubItem, SubprogramItem, TaskBodyItem, TaskItem}
use Rattle.al_tree_syntax.specs.StatementTrees.OperationBodiesTree.{MoreOperationBodies, NoOperationBody}
use Rattle.al_tree_syntax.specs.StatementTrees.OperationBodyTree.{EntryOperation, SubprogramOperation}
use Rattle.al_tree_syntax.specs.UnitTrees.{CompilationUnitTree, ContextTree, LibraryItemTree, PackageBodyTree, PackageTree, PrivatePartTree}
use Rattle.al_tree_syntax.specs.UnitTrees.ContextTree.{ContextPragma, ContextUse, WithClause}
use Rattle.al_tree_syntax.specs.UnitTrees.LibraryItemTree.{LibraryBody, LibraryPackage, LibraryPackageBody, LibrarySubprogram, Subunit}

-- the greatest number of the items of a list
abbrev pub deepest : {A : Type 0} → (A → ℕ) → List A → ℕ
deepest f [] = 0
deepest f (x ∷ xs) = max (f x) (deepest f xs)

-- the number of what may be absent, or 0
abbrev pub at_least : {A : Type 0} → (A → ℕ) → Option A → ℕ
at_least f None = 0
at_least f (Some x) = f x

-- ---- names and expressions

module _ (w : ℕ) where
  -- an expression at a level at which it may not be counts as w
  abbrev pub nested_in_place : Bool → ℕ → ℕ
  nested_in_place true n = n
  nested_in_place false n = w

  abbrev mutual
    pub expression_nesting : ExpressionTree → ℕ
    expression_nesting (Number l) = 0
    expression_nesting (Text l) = 0
    expression_nesting (Name l) = 0
    expression_nesting (Longer e p) = max (nested_in_place (stands NameLevel e) (expression_nesting e)) (part_nesting p)
    expression_nesting (Prefixed p e) = nested_in_place (stands (operand_level p) e) (expression_nesting e)
    expression_nesting (Infix l o r) = max (nested_in_place (stands (left_level o) l) (expression_nesting l)) (nested_in_place (stands (right_level o) r) (expression_nesting r))
    expression_nesting (InMark s n t) = max (nested_in_place (stands SimpleLevel s) (expression_nesting s)) (nested_in_place (stands SimpleLevel t) (expression_nesting t))
    expression_nesting (InRange s n t u) =
        max (nested_in_place (stands SimpleLevel s) (expression_nesting s))
        (max (nested_in_place (stands SimpleLevel t) (expression_nesting t)) (nested_in_place (stands SimpleLevel u) (expression_nesting u)))
    expression_nesting (Group g) = group_nesting g

    pub group_nesting : GroupTree → ℕ
    group_nesting (Positional l e es) = suc (max (expression_nesting e) (expressions_nesting es))
    group_nesting (OthersAggregate l e) = suc (expression_nesting e)

    pub expressions_nesting : ExpressionsTree → ℕ
    expressions_nesting NoExpression = 0
    expressions_nesting (MoreExpressions e es) = max (expression_nesting e) (expressions_nesting es)

    pub part_nesting : PartTree → ℕ
    part_nesting (Selector l) = 0
    part_nesting (Arguments l e es) = suc (max (expression_nesting e) (expressions_nesting es))
    part_nesting (Attribute l) = 0
    part_nesting RangeAttribute = 0
    part_nesting (Operand g) = group_nesting g

  -- at a level
  abbrev pub nesting_at : Level → ExpressionTree → ℕ
  nesting_at k e = nested_in_place (stands k e) (expression_nesting e)

  abbrev pub simple_nesting : ExpressionTree → ℕ
  simple_nesting e = nesting_at SimpleLevel e

  abbrev pub name_nesting : ExpressionTree → ℕ
  name_nesting e = nesting_at NameLevel e

  -- ---- declarations

  abbrev pub range_nesting : RangeTree → ℕ
  range_nesting r = max (simple_nesting r.low) (simple_nesting r.high)

  abbrev pub discrete_range_nesting : DiscreteRangeTree → ℕ
  discrete_range_nesting (SoleMark s) = simple_nesting s
  discrete_range_nesting (Bounds r) = range_nesting r
  discrete_range_nesting (MarkRange s r) = max (simple_nesting s) (range_nesting r)

  abbrev pub pragma_nesting : PragmaTree → ℕ
  pragma_nesting p = at_least (λ a. 1) p.arguments

  abbrev pub subtype_indication_nesting : SubtypeIndicationTree → ℕ
  subtype_indication_nesting s = at_least range_nesting s.constraint

  abbrev pub array_nesting : ArrayTree → ℕ
  array_nesting a = max (suc (discrete_range_nesting a.index)) (subtype_indication_nesting a.component)

  abbrev pub object_type_nesting : ObjectTypeTree → ℕ
  object_type_nesting (NamedType s) = subtype_indication_nesting s
  object_type_nesting (AnonymousArray a) = array_nesting a

  abbrev pub object_form_nesting : ObjectFormTree → ℕ
  object_form_nesting (TypedObject c t e) = max (object_type_nesting t) (at_least expression_nesting e)
  object_form_nesting (NamedNumber e) = expression_nesting e

  abbrev pub object_nesting : ObjectTree → ℕ
  object_nesting o = object_form_nesting o.form

  abbrev pub component_nesting : ComponentTree → ℕ
  component_nesting c = subtype_indication_nesting c.subtype

  abbrev pub components_nesting : ComponentsTree → ℕ
  components_nesting NullComponents = 0
  components_nesting (SomeComponents c cs) = max (component_nesting c) (deepest component_nesting cs)

  abbrev pub type_definition_nesting : TypeDefinitionTree → ℕ
  type_definition_nesting (IntegerDefinition r) = range_nesting r
  type_definition_nesting NullRecordDefinition = 0
  type_definition_nesting (PrivateDefinition l) = 0
  type_definition_nesting (EnumerationDefinition l i) = 1
  type_definition_nesting (ArrayDefinition a) = array_nesting a
  type_definition_nesting (RecordDefinition c l) = suc (components_nesting c)

  abbrev pub type_nesting : TypeTree → ℕ
  type_nesting t = type_definition_nesting t.definition

  abbrev pub subtype_nesting : SubtypeTree → ℕ
  subtype_nesting s = subtype_indication_nesting s.indication

  -- a formal part opens its parentheses alone
  abbrev pub formals_nesting : Option FormalPartTree → ℕ
  formals_nesting f = at_least (λ p. 1) f

  abbrev pub specification_nesting : SpecificationTree → ℕ
  specification_nesting (ProcedureSpecification l n f) = formals_nesting f
  specification_nesting (FunctionSpecification l n f r m) = formals_nesting f

  abbrev pub aspect_nesting : Option AspectTree → ℕ
  aspect_nesting a = at_least (λ b. expression_nesting b.value) a

  abbrev pub task_nesting : TaskTree → ℕ
  task_nesting t = aspect_nesting t.aspect

  abbrev pub operation_nesting : ProtectedOperationTree → ℕ
  operation_nesting (ProtectedSubprogram s) = specification_nesting s
  operation_nesting (EntryDeclaration l n) = 0

  abbrev pub element_nesting : ProtectedComponentTree → ℕ
  element_nesting c = max (subtype_indication_nesting c.subtype) (at_least expression_nesting c.initial)

  abbrev pub private_nesting : ProtectedPrivateTree → ℕ
  private_nesting p = deepest element_nesting p.components

  abbrev pub protected_nesting : ProtectedTree → ℕ
  protected_nesting p = suc (max (aspect_nesting p.aspect) (max (deepest operation_nesting p.operations) (at_least private_nesting p.private_part)))

  abbrev pub common_nesting : CommonTree → ℕ
  common_nesting (ObjectDeclaration o) = object_nesting o
  common_nesting (TypeDeclaration t) = type_nesting t
  common_nesting (SubtypeDeclaration s) = subtype_nesting s
  common_nesting (UseClause u) = 0
  common_nesting (PragmaItem p) = pragma_nesting p

  abbrev pub declaration_nesting : DeclarationTree → ℕ
  declaration_nesting (CommonDeclaration c) = common_nesting c
  declaration_nesting (SubprogramDeclaration s) = specification_nesting s
  declaration_nesting (TaskDeclaration t) = task_nesting t
  declaration_nesting (ProtectedDeclaration l p) = protected_nesting p

  -- ---- statements and bodies

  abbrev pub choice_nesting : ChoiceTree → ℕ
  choice_nesting OthersChoice = 0
  choice_nesting (RangeChoice r) = discrete_range_nesting r

  abbrev mutual
    pub statements_nesting : StatementsTree → ℕ
    statements_nesting (Statements s ss) = max (statement_nesting s) (more_statements_nesting ss)

    pub more_statements_nesting : MoreStatementsTree → ℕ
    more_statements_nesting NoStatement = 0
    more_statements_nesting (MoreStatements s ss) = max (statement_nesting s) (more_statements_nesting ss)

    pub statement_nesting : StatementTree → ℕ
    statement_nesting NullStatement = 0
    statement_nesting (Assignment n e) = max (name_nesting n) (expression_nesting e)
    statement_nesting (CallStatement n) = name_nesting n
    statement_nesting (ReturnStatement l e) = at_least expression_nesting e
    statement_nesting (ExitStatement l n e) = at_least expression_nesting e
    statement_nesting (DelayStatement l e) = expression_nesting e
    statement_nesting (IfStatement l b bs e m k) = suc (max (branch_nesting b) (max (elsifs_nesting bs) (else_nesting e)))
    statement_nesting (CaseStatement l e a more m k) = suc (max (expression_nesting e) (max (alternative_nesting a) (alternatives_nesting more)))
    statement_nesting (LoopStatement n l) = loop_nesting l
    statement_nesting (BlockStatement n b) = block_nesting b

    pub branch_nesting : BranchTree → ℕ
    branch_nesting (Branch e ss) = max (expression_nesting e) (statements_nesting ss)

    pub elsifs_nesting : ElsifsTree → ℕ
    elsifs_nesting NoElsif = 0
    elsifs_nesting (MoreElsifs l b bs) = max (branch_nesting b) (elsifs_nesting bs)

    pub else_nesting : ElseTree → ℕ
    else_nesting NoElse = 0
    else_nesting (Else ss) = statements_nesting ss

    pub alternative_nesting : AlternativeTree → ℕ
    alternative_nesting (Alternative c cs ss) = max (choice_nesting c) (max (deepest choice_nesting cs) (statements_nesting ss))

    pub alternatives_nesting : AlternativesTree → ℕ
    alternatives_nesting NoAlternative = 0
    alternatives_nesting (MoreAlternatives a more) = max (alternative_nesting a) (alternatives_nesting more)

    pub loop_nesting : LoopTree → ℕ
    loop_nesting (PlainLoop l ss e) = suc (statements_nesting ss)
    loop_nesting (WhileLoop w c l ss e) = suc (max (expression_nesting c) (statements_nesting ss))
    loop_nesting (ForLoop f i r d l ss e) = suc (max (discrete_range_nesting d) (statements_nesting ss))

    pub block_nesting : BlockTree → ℕ
    block_nesting (DeclareBlock l h) = suc (handled_nesting h)
    block_nesting (PlainBlock l ss e) = suc (statements_nesting ss)

    -- not itself
    pub handled_nesting : HandledTree → ℕ
    handled_nesting (Handled is b ss e) = max (items_nesting is) (statements_nesting ss)

    pub body_nesting : BodyTree → ℕ
    body_nesting (Body is b ss e) = suc (max (items_nesting is) (statements_nesting ss))

    pub items_nesting : ItemsTree → ℕ
    items_nesting NoItem = 0
    items_nesting (MoreItems i is) = max (item_nesting i) (items_nesting is)

    pub item_nesting : ItemTree → ℕ
    item_nesting (CommonItem c) = common_nesting c
    item_nesting (SubprogramItem s) = specification_nesting s
    item_nesting (StubItem s l) = specification_nesting s
    item_nesting (BodyItem s b) = max (specification_nesting s) (body_nesting b)
    item_nesting (TaskItem t) = task_nesting t
    item_nesting (TaskBodyItem l n h) = suc (handled_nesting h)
    item_nesting (ProtectedItem l p) = protected_nesting p
    item_nesting (ProtectedBodyItem l n os e) = suc (operation_bodies_nesting os)

    pub operation_bodies_nesting : OperationBodiesTree → ℕ
    operation_bodies_nesting NoOperationBody = 0
    operation_bodies_nesting (MoreOperationBodies o os) = max (operation_body_nesting o) (operation_bodies_nesting os)

    pub operation_body_nesting : OperationBodyTree → ℕ
    operation_body_nesting (SubprogramOperation s b) = max (specification_nesting s) (body_nesting b)
    operation_body_nesting (EntryOperation l n e h) = suc (max (expression_nesting e) (handled_nesting h))

  -- ---- compilation units

  abbrev pub context_nesting : ContextTree → ℕ
  context_nesting (WithClause n) = 0
  context_nesting (ContextUse u) = 0
  context_nesting (ContextPragma p) = pragma_nesting p

  abbrev pub private_part_nesting : PrivatePartTree → ℕ
  private_part_nesting p = deepest declaration_nesting p.declarations

  abbrev pub package_nesting : PackageTree → ℕ
  package_nesting p = suc (max (deepest declaration_nesting p.visible) (at_least private_part_nesting p.private_part))

  abbrev pub package_body_nesting : PackageBodyTree → ℕ
  package_body_nesting p = suc (max (items_nesting p.items) (at_least (λ s. statements_nesting s.statements) p.statements))

  abbrev pub library_item_nesting : LibraryItemTree → ℕ
  library_item_nesting (LibrarySubprogram p s) = specification_nesting s
  library_item_nesting (LibraryPackage p l k) = package_nesting k
  library_item_nesting (LibraryBody s b) = max (specification_nesting s) (body_nesting b)
  library_item_nesting (LibraryPackageBody l k) = package_body_nesting k
  library_item_nesting (Subunit l o n s b) = max 1 (max (specification_nesting s) (body_nesting b))

  -- the most constructs that are open at once
  unfoldable pub nesting_by : CompilationUnitTree → ℕ
  nesting_by u = max (deepest context_nesting u.context) (library_item_nesting u.item)

-- the nesting of a unit; an expression at a level at which it may not be counts as one more than may be open, as the grammar has no
-- such tree
abbrev pub nesting : CompilationUnitTree → ℕ
nesting u = nesting_by (suc most) u
