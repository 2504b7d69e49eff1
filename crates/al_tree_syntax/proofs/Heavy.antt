-- Each construct that is open has a lexeme, and what is misplaced has its own.
use Rattle.std.proofs.Common.{Bool, List, None, Option, Some, [], arith, false, if◌then◌else◌, refl, suc, true, ℕ, ◌++◌, ◌+◌, ◌==◌, ◌∷◌, ◌≡◌, ◌≤◌}
use Rattle.std.specs.Prelude.{max}
use Rattle.std.proofs.Math.Nat.{max-le}
use Rattle.al_tree_grammar.specs.Grammar.{Label, Lexeme, each, maybe}
use Rattle.al_tree_grammar.specs.Grammar.Lexeme.{Fixed, Named}
use Rattle.al_tree_syntax.specs.Words.{word}
use Rattle.al_tree_syntax.specs.Symbols.{Symbol as symbols}
use Rattle.al_tree_syntax.specs.ExpressionTrees.{ExpressionTree, ExpressionsTree, GroupTree, Level, PartTree, expression_tokens, expressions_tokens, group_tokens, left_level, operand_level, not_tokens, operator_tokens, part_tokens, placed, prefix_tokens, right_level, stands, tokens_at}
use Rattle.al_tree_syntax.specs.ExpressionTrees.Level.{NameLevel, SimpleLevel}
use Rattle.al_tree_syntax.specs.Nesting.{alternative_nesting, alternatives_nesting, array_nesting, aspect_nesting, at_least, block_nesting, body_nesting, branch_nesting, choice_nesting, common_nesting, component_nesting, components_nesting, context_nesting, declaration_nesting, deepest, discrete_range_nesting, element_nesting, else_nesting, elsifs_nesting, expression_nesting, expressions_nesting, formals_nesting, group_nesting, handled_nesting, item_nesting, items_nesting, library_item_nesting, loop_nesting, more_statements_nesting, nested_in_place, nesting_at, nesting_by, object_form_nesting, object_type_nesting, operation_bodies_nesting, operation_body_nesting, operation_nesting, package_body_nesting, package_nesting, part_nesting, pragma_nesting, private_nesting, private_part_nesting, protected_nesting, range_nesting, specification_nesting, statement_nesting, statements_nesting, subtype_indication_nesting, task_nesting, type_definition_nesting}
use Rattle.al_tree_syntax.specs.DeclarationTrees.{end_name_tokens, flag_tokens, identifiers_tokens, aspect_tokens, common_tokens, components_tokens, compound_tokens, declaration_tokens, discrete_range_tokens, formal_part_tokens, initial_tokens, object_type_tokens, pragma_arguments_tokens, pragma_tokens, protected_component_tokens, protected_operation_tokens, protected_private_tokens, protected_tokens, range_tokens, specification_tokens, subtype_indication_tokens, task_tokens, type_definition_tokens, array_tokens, object_form_tokens, component_tokens, FormalPartTree}
use Rattle.al_tree_syntax.specs.StatementTrees.{label_tokens, alternative_tokens, alternatives_tokens, block_tokens, body_tokens, branch_tokens, choice_tokens, else_tokens, elsifs_tokens, handled_tokens, item_tokens, items_tokens, loop_tokens, more_statements_tokens, operation_bodies_tokens, operation_body_tokens, statement_tokens, statements_tokens, when_tokens}
use Rattle.al_tree_syntax.specs.UnitTrees.{PackageStatementsTree, context_tokens, library_item_tokens, package_body_tokens, package_statements_tokens, package_tokens, private_part_tokens, private_tokens, tokens_of}
use Rattle.al_tree_syntax.specs.ExpressionTrees.ExpressionTree.{Group, InMark, InRange, Infix, Longer, Name, Number, Prefixed, Text}
use Rattle.al_tree_syntax.specs.ExpressionTrees.GroupTree.{OthersAggregate, Positional}
use Rattle.al_tree_syntax.specs.ExpressionTrees.ExpressionsTree.{MoreExpressions, NoExpression}
use Rattle.al_tree_syntax.specs.ExpressionTrees.PartTree.{Arguments, Attribute, Operand, RangeAttribute, Selector}
use Rattle.al_tree_syntax.specs.DeclarationTrees.{ArrayTree, AspectTree, CommonTree, ComponentTree, ComponentsTree, DeclarationTree, DiscreteRangeTree, FormalPartTree, ObjectFormTree, ObjectTypeTree, PragmaTree, ProtectedComponentTree, ProtectedOperationTree, ProtectedPrivateTree, ProtectedTree, RangeTree, SpecificationTree, SubtypeIndicationTree, TaskTree, TypeDefinitionTree}
use Rattle.al_tree_syntax.specs.DeclarationTrees.DiscreteRangeTree.{Bounds, MarkRange, SoleMark}
use Rattle.al_tree_syntax.specs.DeclarationTrees.ObjectTypeTree.{AnonymousArray, NamedType}
use Rattle.al_tree_syntax.specs.DeclarationTrees.ObjectFormTree.{NamedNumber, TypedObject}
use Rattle.al_tree_syntax.specs.DeclarationTrees.ComponentsTree.{NullComponents, SomeComponents}
use Rattle.al_tree_syntax.specs.DeclarationTrees.TypeDefinitionTree.{ArrayDefinition, EnumerationDefinition, IntegerDefinition, NullRecordDefinition, PrivateDefinition, RecordDefinition}
use Rattle.al_tree_syntax.specs.DeclarationTrees.SpecificationTree.{FunctionSpecification, ProcedureSpecification}
use Rattle.al_tree_syntax.specs.DeclarationTrees.ProtectedOperationTree.{EntryDeclaration, ProtectedSubprogram}
use Rattle.al_tree_syntax.specs.DeclarationTrees.CommonTree.{ObjectDeclaration, PragmaItem, SubtypeDeclaration, TypeDeclaration, UseClause}
use Rattle.al_tree_syntax.specs.DeclarationTrees.DeclarationTree.{CommonDeclaration, ProtectedDeclaration, SubprogramDeclaration, TaskDeclaration}
use Rattle.al_tree_syntax.specs.StatementTrees.{AlternativeTree, AlternativesTree, BlockTree, BodyTree, BranchTree, ChoiceTree, ElseTree, ElsifsTree, HandledTree, ItemTree, ItemsTree, LoopTree, MoreStatementsTree, OperationBodiesTree, OperationBodyTree, StatementTree, StatementsTree}
use Rattle.al_tree_syntax.specs.StatementTrees.ChoiceTree.{OthersChoice, RangeChoice}
use Rattle.al_tree_syntax.specs.StatementTrees.StatementsTree.{Statements}
use Rattle.al_tree_syntax.specs.StatementTrees.MoreStatementsTree.{MoreStatements, NoStatement}
use Rattle.al_tree_syntax.specs.StatementTrees.StatementTree.{Assignment, BlockStatement, CallStatement, CaseStatement, DelayStatement, ExitStatement, IfStatement, LoopStatement, NullStatement, ReturnStatement}
use Rattle.al_tree_syntax.specs.StatementTrees.BranchTree.{Branch}
use Rattle.al_tree_syntax.specs.StatementTrees.ElsifsTree.{MoreElsifs, NoElsif}
use Rattle.al_tree_syntax.specs.StatementTrees.ElseTree.{Else, NoElse}
use Rattle.al_tree_syntax.specs.StatementTrees.AlternativeTree.{Alternative}
use Rattle.al_tree_syntax.specs.StatementTrees.AlternativesTree.{MoreAlternatives, NoAlternative}
use Rattle.al_tree_syntax.specs.StatementTrees.LoopTree.{ForLoop, PlainLoop, WhileLoop}
use Rattle.al_tree_syntax.specs.StatementTrees.BlockTree.{DeclareBlock, PlainBlock}
use Rattle.al_tree_syntax.specs.StatementTrees.HandledTree.{Handled}
use Rattle.al_tree_syntax.specs.StatementTrees.BodyTree.{Body}
use Rattle.al_tree_syntax.specs.StatementTrees.ItemsTree.{MoreItems, NoItem}
use Rattle.al_tree_syntax.specs.StatementTrees.ItemTree.{BodyItem, CommonItem, ProtectedBodyItem, ProtectedItem, StubItem, SubprogramItem, TaskBodyItem, TaskItem}
use Rattle.al_tree_syntax.specs.StatementTrees.OperationBodiesTree.{MoreOperationBodies, NoOperationBody}
use Rattle.al_tree_syntax.specs.StatementTrees.OperationBodyTree.{EntryOperation, SubprogramOperation}
use Rattle.al_tree_syntax.specs.UnitTrees.{CompilationUnitTree, ContextTree, LibraryItemTree, PackageBodyTree, PackageTree, PrivatePartTree}
use Rattle.al_tree_syntax.specs.UnitTrees.ContextTree.{ContextPragma, ContextUse, WithClause}
use Rattle.al_tree_syntax.specs.UnitTrees.LibraryItemTree.{LibraryBody, LibraryPackage, LibraryPackageBody, LibrarySubprogram, Subunit}

-- how much a lexeme counts, where what is misplaced counts w
abbrev pub weigh : ℕ → Lexeme → ℕ
weigh w (Fixed k) = if k == 0 then w else 1
weigh w (Named k l) = 1

unfoldable pub heavy : ℕ → List Lexeme → ℕ
heavy w [] = 0
heavy w (x ∷ xs) = weigh w x + heavy w xs

pub heavy_append : (w : ℕ) (xs ys : List Lexeme) → heavy w (xs ++ ys) ≡ heavy w xs + heavy w ys
unfolding heavy
heavy_append w [] ys = omega arith
heavy_append w (x ∷ xs) ys = let h = heavy_append w xs ys in omega (arith, h)

fro : (w : ℕ) {n : ℕ} (xs ys : List Lexeme) → n ≤ heavy w xs → n ≤ heavy w (xs ++ ys)
fro w {n} xs ys h = let e = heavy_append w xs ys in omega (arith, e, h)

bak : (w : ℕ) {n : ℕ} (xs ys : List Lexeme) → n ≤ heavy w ys → n ≤ heavy w (xs ++ ys)
bak w {n} xs ys h = let e = heavy_append w xs ys in omega (arith, e, h)

aft : (w : ℕ) {n : ℕ} (x : Lexeme) (ys : List Lexeme) → n ≤ heavy w ys → n ≤ heavy w (x ∷ ys)
unfolding heavy
aft w {n} x ys h = omega (arith, h)

none : (w : ℕ) (xs : List Lexeme) → 0 ≤ heavy w xs
none w xs = omega arith

opened : (w : ℕ) {n : ℕ} (k : ℕ) (l : Label) (ys : List Lexeme) → n ≤ heavy w ys → suc n ≤ heavy w (Named k l ∷ ys)
unfolding heavy
opened w {n} k l ys h = omega (arith, h)

one_here : (w k : ℕ) (l : Label) (ys : List Lexeme) → 1 ≤ heavy w (Named k l ∷ ys)
unfolding heavy
one_here w k l ys = omega arith

in_its_place : (w : ℕ) (b : Bool) (n : ℕ) (xs : List Lexeme) → n ≤ heavy w xs → nested_in_place w b n ≤ heavy w (placed b xs)
unfolding heavy
in_its_place w true n xs h = h
in_its_place w false n xs h = omega arith

opened_word : (w : ℕ) {n : ℕ} (k : ℕ) (ys : List Lexeme) → weigh w (Fixed k) ≡ 1 → n ≤ heavy w ys → suc n ≤ heavy w (Fixed k ∷ ys)
unfolding heavy
opened_word w {n} k ys e h = omega (arith, e, h)

-- what stands before and after the first word of a body
opened_between : (w : ℕ) {m n : ℕ} (k : ℕ) (l : Label) (xs ys : List Lexeme) → m ≤ heavy w xs → n ≤ heavy w ys → suc (max m n) ≤ heavy w (xs ++ Named k l ∷ ys)
unfolding heavy
opened_between w {m} {n} k l xs ys h j = let e = heavy_append w xs (Named k l ∷ ys) in omega (arith, e, h, j)

opened_after : (w : ℕ) {n : ℕ} (k : ℕ) (xs ys : List Lexeme) → weigh w (Fixed k) ≡ 1 → n ≤ heavy w ys → suc n ≤ heavy w (xs ++ Fixed k ∷ ys)
unfolding heavy
opened_after w {n} k xs ys e h = let f = heavy_append w xs (Fixed k ∷ ys) in omega (arith, e, f, h)

maybe_heavy : {A : Type 0} (w : ℕ) (f : A → List Lexeme) (n : A → ℕ) → ((x : A) → n x ≤ heavy w (f x)) → (o : Option A) → at_least n o ≤ heavy w (maybe f o)
maybe_heavy w f n g None = none w _
maybe_heavy w f n g (Some x) = g x

each_heavy : {A : Type 0} (w : ℕ) (f : A → List Lexeme) (n : A → ℕ) → ((x : A) → n x ≤ heavy w (f x)) → (xs : List A) → deepest n xs ≤ heavy w (each f xs)
each_heavy w f n g [] = none w _
each_heavy w f n g (x ∷ xs) = max-le (fro w (f x) (each f xs) (g x)) (bak w (f x) (each f xs) (each_heavy w f n g xs))

module _ (w : ℕ) where
  mutual
    expression_heavy : (e : ExpressionTree) → expression_nesting w e ≤ heavy w (expression_tokens e)
    expression_heavy (Number l) = none w _
    expression_heavy (Text l) = none w _
    expression_heavy (Name l) = none w _
    expression_heavy (Longer e p) = max-le (fro w _ _ (in_its_place w (stands NameLevel e) (expression_nesting w e) (expression_tokens e) (expression_heavy e))) (bak w (tokens_at NameLevel e) _ (part_heavy p))
    expression_heavy (Prefixed p e) = bak w (prefix_tokens p) _ (in_its_place w (stands (operand_level p) e) (expression_nesting w e) (expression_tokens e) (expression_heavy e))
    expression_heavy (Infix l o r) = max-le (fro w _ _ (in_its_place w (stands (left_level o) l) (expression_nesting w l) (expression_tokens l) (expression_heavy l))) (bak w (tokens_at (left_level o) l) _ (bak w (operator_tokens o) _ (in_its_place w (stands (right_level o) r) (expression_nesting w r) (expression_tokens r) (expression_heavy r))))
    expression_heavy (InMark s n t) = max-le (fro w _ _ (in_its_place w (stands SimpleLevel s) (expression_nesting w s) (expression_tokens s) (expression_heavy s))) (bak w (tokens_at SimpleLevel s) _ (bak w (not_tokens n) _ (aft w _ _ (in_its_place w (stands SimpleLevel t) (expression_nesting w t) (expression_tokens t) (expression_heavy t)))))
    expression_heavy (InRange s n t u) = max-le (fro w _ _ (in_its_place w (stands SimpleLevel s) (expression_nesting w s) (expression_tokens s) (expression_heavy s))) (bak w (tokens_at SimpleLevel s) _ (bak w (not_tokens n) _ (aft w _ _ (max-le (fro w _ _ (in_its_place w (stands SimpleLevel t) (expression_nesting w t) (expression_tokens t) (expression_heavy t))) (bak w (tokens_at SimpleLevel t) _ (aft w _ _ (in_its_place w (stands SimpleLevel u) (expression_nesting w u) (expression_tokens u) (expression_heavy u))))))))
    expression_heavy (Group g) = group_heavy g

    group_heavy : (g : GroupTree) → group_nesting w g ≤ heavy w (group_tokens g)
    group_heavy (Positional l e es) = opened w _ _ _ (max-le (fro w _ _ (expression_heavy e)) (bak w (expression_tokens e) _ (fro w _ _ (expressions_heavy es))))
    group_heavy (OthersAggregate l e) = opened w _ _ _ (aft w _ _ (aft w _ _ (fro w _ _ (expression_heavy e))))

    expressions_heavy : (es : ExpressionsTree) → expressions_nesting w es ≤ heavy w (expressions_tokens es)
    expressions_heavy NoExpression = none w _
    expressions_heavy (MoreExpressions e es) = aft w _ _ (max-le (fro w _ _ (expression_heavy e)) (bak w (expression_tokens e) _ (expressions_heavy es)))

    part_heavy : (p : PartTree) → part_nesting w p ≤ heavy w (part_tokens p)
    part_heavy (Selector l) = none w _
    part_heavy (Arguments l e es) = opened w _ _ _ (max-le (fro w _ _ (expression_heavy e)) (bak w (expression_tokens e) _ (fro w _ _ (expressions_heavy es))))
    part_heavy (Attribute l) = none w _
    part_heavy RangeAttribute = none w _
    part_heavy (Operand g) = aft w _ _ (group_heavy g)

  at_heavy : (k : Level) (e : ExpressionTree) → nesting_at w k e ≤ heavy w (tokens_at k e)
  at_heavy k e = in_its_place w (stands k e) (expression_nesting w e) (expression_tokens e) (expression_heavy e)

  range_heavy : (r : RangeTree) → range_nesting w r ≤ heavy w (range_tokens r)
  range_heavy r = aft w _ _ (max-le (fro w _ _ (at_heavy SimpleLevel r.low)) (bak w (tokens_at SimpleLevel r.low) _ (aft w _ _ (at_heavy SimpleLevel r.high))))

  discrete_heavy : (r : DiscreteRangeTree) → discrete_range_nesting w r ≤ heavy w (discrete_range_tokens r)
  discrete_heavy (SoleMark s) = at_heavy SimpleLevel s
  discrete_heavy (Bounds r) = max-le (fro w _ _ (at_heavy SimpleLevel r.low)) (bak w (tokens_at SimpleLevel r.low) _ (aft w _ _ (at_heavy SimpleLevel r.high)))
  discrete_heavy (MarkRange s r) = max-le (fro w _ _ (at_heavy SimpleLevel s)) (bak w (tokens_at SimpleLevel s) _ (range_heavy r))

  pragma_heavy : (p : PragmaTree) → pragma_nesting w p ≤ heavy w (pragma_tokens p)
  pragma_heavy p = aft w _ _ (aft w _ _ (fro w _ _ (maybe_heavy w pragma_arguments_tokens (λ a. 1) (λ a. one_here w _ _ _) p.arguments)))

  subtype_heavy : (s : SubtypeIndicationTree) → subtype_indication_nesting w s ≤ heavy w (subtype_indication_tokens s)
  subtype_heavy s = bak w (compound_tokens s.mark) _ (maybe_heavy w range_tokens (range_nesting w) range_heavy s.constraint)

  array_heavy : (a : ArrayTree) → array_nesting w a ≤ heavy w (array_tokens a)
  array_heavy a = aft w _ _ (max-le (opened w _ _ _ (fro w _ _ (discrete_heavy a.index))) (aft w _ _ (bak w (discrete_range_tokens a.index) _ (aft w _ _ (aft w _ _ (subtype_heavy a.component))))))

  object_type_heavy : (t : ObjectTypeTree) → object_type_nesting w t ≤ heavy w (object_type_tokens t)
  object_type_heavy (NamedType s) = subtype_heavy s
  object_type_heavy (AnonymousArray a) = array_heavy a

  initial_heavy : (e : ExpressionTree) → expression_nesting w e ≤ heavy w (initial_tokens e)
  initial_heavy e = aft w _ _ (expression_heavy e)

  maybe_initial_heavy : (e : Option ExpressionTree) → at_least (expression_nesting w) e ≤ heavy w (maybe initial_tokens e)
  maybe_initial_heavy e = maybe_heavy w initial_tokens (expression_nesting w) initial_heavy e

  object_form_heavy : (f : ObjectFormTree) → object_form_nesting w f ≤ heavy w (object_form_tokens f)
  object_form_heavy (TypedObject c t e) = bak w (flag_tokens symbols.Constant c) _ (max-le (fro w _ _ (object_type_heavy t)) (bak w (object_type_tokens t) _ (maybe_initial_heavy e)))
  object_form_heavy (NamedNumber e) = aft w _ _ (initial_heavy e)

  component_heavy : (c : ComponentTree) → component_nesting w c ≤ heavy w (component_tokens c)
  component_heavy c = bak w (identifiers_tokens c.names) _ (aft w _ _ (fro w _ _ (subtype_heavy c.subtype)))

  components_heavy : (c : ComponentsTree) → components_nesting w c ≤ heavy w (components_tokens c)
  components_heavy NullComponents = none w _
  components_heavy (SomeComponents c cs) = max-le (fro w _ _ (component_heavy c)) (bak w (component_tokens c) _ (each_heavy w component_tokens (component_nesting w) component_heavy cs))

  type_definition_heavy : (t : TypeDefinitionTree) → type_definition_nesting w t ≤ heavy w (type_definition_tokens t)
  type_definition_heavy (IntegerDefinition r) = range_heavy r
  type_definition_heavy NullRecordDefinition = none w _
  type_definition_heavy (PrivateDefinition l) = none w _
  type_definition_heavy (EnumerationDefinition l i) = one_here w _ _ _
  type_definition_heavy (ArrayDefinition a) = array_heavy a
  type_definition_heavy (RecordDefinition c l) = opened_word w _ _ refl (fro w _ _ (components_heavy c))

  formals_heavy : (f : Option FormalPartTree) → formals_nesting w f ≤ heavy w (maybe formal_part_tokens f)
  formals_heavy f = maybe_heavy w formal_part_tokens (λ p. 1) (λ p. one_here w _ _ _) f

  specification_heavy : (s : SpecificationTree) → specification_nesting w s ≤ heavy w (specification_tokens s)
  specification_heavy (ProcedureSpecification l n f) = aft w _ _ (bak w (compound_tokens n) _ (formals_heavy f))
  specification_heavy (FunctionSpecification l n f r m) = aft w _ _ (bak w (compound_tokens n) _ (fro w _ _ (formals_heavy f)))

  aspect_heavy : (a : Option AspectTree) → aspect_nesting w a ≤ heavy w (maybe aspect_tokens a)
  aspect_heavy a = maybe_heavy w aspect_tokens (λ b. expression_nesting w b.value) (λ b. aft w _ _ (aft w _ _ (aft w _ _ (expression_heavy b.value)))) a

  task_heavy : (t : TaskTree) → task_nesting w t ≤ heavy w (task_tokens t)
  task_heavy t = aft w _ _ (aft w _ _ (fro w _ _ (aspect_heavy t.aspect)))

  operation_heavy : (o : ProtectedOperationTree) → operation_nesting w o ≤ heavy w (protected_operation_tokens o)
  operation_heavy (ProtectedSubprogram s) = fro w _ _ (specification_heavy s)
  operation_heavy (EntryDeclaration l n) = none w _

  element_heavy : (c : ProtectedComponentTree) → element_nesting w c ≤ heavy w (protected_component_tokens c)
  element_heavy c = bak w (identifiers_tokens c.names) _ (aft w _ _ (max-le (fro w _ _ (subtype_heavy c.subtype)) (bak w (subtype_indication_tokens c.subtype) _ (fro w _ _ (maybe_initial_heavy c.initial)))))

  private_heavy : (p : ProtectedPrivateTree) → private_nesting w p ≤ heavy w (protected_private_tokens p)
  private_heavy p = aft w _ _ (each_heavy w protected_component_tokens (element_nesting w) element_heavy p.components)

  protected_heavy : (p : ProtectedTree) → protected_nesting w p ≤ heavy w (protected_tokens p)
  protected_heavy p =
      opened w _ _ _ (max-le (fro w _ _ (aspect_heavy p.aspect)) (bak w (maybe aspect_tokens p.aspect) _ (aft w _ _ (max-le (fro w _ _ (each_heavy w protected_operation_tokens (operation_nesting w) operation_heavy p.operations)) (bak w (each protected_operation_tokens p.operations) _ (fro w _ _ (maybe_heavy w protected_private_tokens (private_nesting w) private_heavy p.private_part)))))))

  common_heavy : (c : CommonTree) → common_nesting w c ≤ heavy w (common_tokens c)
  common_heavy (ObjectDeclaration o) = bak w (identifiers_tokens o.names) _ (aft w _ _ (fro w _ _ (object_form_heavy o.form)))
  common_heavy (TypeDeclaration t) = aft w _ _ (aft w _ _ (aft w _ _ (fro w _ _ (type_definition_heavy t.definition))))
  common_heavy (SubtypeDeclaration s) = aft w _ _ (aft w _ _ (aft w _ _ (fro w _ _ (subtype_heavy s.indication))))
  common_heavy (UseClause u) = none w _
  common_heavy (PragmaItem p) = pragma_heavy p

  declaration_heavy : (c : DeclarationTree) → declaration_nesting w c ≤ heavy w (declaration_tokens c)
  declaration_heavy (CommonDeclaration c) = common_heavy c
  declaration_heavy (SubprogramDeclaration s) = fro w _ _ (specification_heavy s)
  declaration_heavy (TaskDeclaration t) = task_heavy t
  declaration_heavy (ProtectedDeclaration l p) = aft w _ _ (protected_heavy p)

  choice_heavy : (c : ChoiceTree) → choice_nesting w c ≤ heavy w (choice_tokens c)
  choice_heavy OthersChoice = none w _
  choice_heavy (RangeChoice r) = discrete_heavy r

  mutual
    statements_heavy : (s : StatementsTree) → statements_nesting w s ≤ heavy w (statements_tokens s)
    statements_heavy (Statements s ss) = max-le (fro w _ _ (statement_heavy s)) (bak w (statement_tokens s) _ (more_statements_heavy ss))

    more_statements_heavy : (s : MoreStatementsTree) → more_statements_nesting w s ≤ heavy w (more_statements_tokens s)
    more_statements_heavy NoStatement = none w _
    more_statements_heavy (MoreStatements s ss) = max-le (fro w _ _ (statement_heavy s)) (bak w (statement_tokens s) _ (more_statements_heavy ss))

    statement_heavy : (s : StatementTree) → statement_nesting w s ≤ heavy w (statement_tokens s)
    statement_heavy NullStatement = none w _
    statement_heavy (Assignment n e) = max-le (fro w _ _ (at_heavy NameLevel n)) (bak w (tokens_at NameLevel n) _ (fro w _ _ (initial_heavy e)))
    statement_heavy (CallStatement n) = fro w _ _ (at_heavy NameLevel n)
    statement_heavy (ReturnStatement l e) = aft w _ _ (fro w _ _ (maybe_heavy w expression_tokens (expression_nesting w) expression_heavy e))
    statement_heavy (ExitStatement l n e) = aft w _ _ (bak w (end_name_tokens n) _ (fro w _ _ (maybe_heavy w when_tokens (expression_nesting w) (λ f. aft w _ _ (expression_heavy f)) e)))
    statement_heavy (DelayStatement l e) = aft w _ _ (aft w _ _ (fro w _ _ (expression_heavy e)))
    statement_heavy (IfStatement l b bs e m k) = opened w _ _ _ (max-le (fro w _ _ (branch_heavy b)) (bak w (branch_tokens b) _ (max-le (fro w _ _ (elsifs_heavy bs)) (bak w (elsifs_tokens bs) _ (fro w _ _ (else_heavy e))))))
    statement_heavy (CaseStatement l e a more m k) = opened w _ _ _ (max-le (fro w _ _ (expression_heavy e)) (bak w (expression_tokens e) _ (aft w _ _ (max-le (fro w _ _ (alternative_heavy a)) (bak w (alternative_tokens a) _ (fro w _ _ (alternatives_heavy more)))))))
    statement_heavy (LoopStatement n l) = bak w (maybe label_tokens n) _ (loop_heavy l)
    statement_heavy (BlockStatement n b) = bak w (maybe label_tokens n) _ (block_heavy b)

    branch_heavy : (b : BranchTree) → branch_nesting w b ≤ heavy w (branch_tokens b)
    branch_heavy (Branch e ss) = max-le (fro w _ _ (expression_heavy e)) (bak w (expression_tokens e) _ (aft w _ _ (statements_heavy ss)))

    elsifs_heavy : (b : ElsifsTree) → elsifs_nesting w b ≤ heavy w (elsifs_tokens b)
    elsifs_heavy NoElsif = none w _
    elsifs_heavy (MoreElsifs l b bs) = aft w _ _ (max-le (fro w _ _ (branch_heavy b)) (bak w (branch_tokens b) _ (elsifs_heavy bs)))

    else_heavy : (e : ElseTree) → else_nesting w e ≤ heavy w (else_tokens e)
    else_heavy NoElse = none w _
    else_heavy (Else ss) = aft w _ _ (statements_heavy ss)

    alternative_heavy : (a : AlternativeTree) → alternative_nesting w a ≤ heavy w (alternative_tokens a)
    alternative_heavy (Alternative c cs ss) =
        aft w _ _ (max-le (fro w _ _ (choice_heavy c)) (bak w (choice_tokens c) _ (max-le (fro w _ _ (each_heavy w (λ d. word symbols.VerticalLine ∷ choice_tokens d) (choice_nesting w) (λ d. aft w _ _ (choice_heavy d)) cs)) (bak w (each (λ d. word symbols.VerticalLine ∷ choice_tokens d) cs) _ (aft w _ _ (statements_heavy ss))))))

    alternatives_heavy : (a : AlternativesTree) → alternatives_nesting w a ≤ heavy w (alternatives_tokens a)
    alternatives_heavy NoAlternative = none w _
    alternatives_heavy (MoreAlternatives a more) = max-le (fro w _ _ (alternative_heavy a)) (bak w (alternative_tokens a) _ (alternatives_heavy more))

    loop_heavy : (l : LoopTree) → loop_nesting w l ≤ heavy w (loop_tokens l)
    loop_heavy (PlainLoop l ss e) = opened w _ _ _ (fro w _ _ (statements_heavy ss))
    loop_heavy (WhileLoop v c l ss e) = opened w _ _ _ (max-le (fro w _ _ (expression_heavy c)) (bak w (expression_tokens c) _ (aft w _ _ (fro w _ _ (statements_heavy ss)))))
    loop_heavy (ForLoop f i r d l ss e) = opened w _ _ _ (aft w _ _ (aft w _ _ (bak w (flag_tokens symbols.Reverse r) _ (max-le (fro w _ _ (discrete_heavy d)) (bak w (discrete_range_tokens d) _ (aft w _ _ (fro w _ _ (statements_heavy ss))))))))

    block_heavy : (b : BlockTree) → block_nesting w b ≤ heavy w (block_tokens b)
    block_heavy (DeclareBlock l h) = opened w _ _ _ (handled_heavy h)
    block_heavy (PlainBlock l ss e) = opened w _ _ _ (fro w _ _ (statements_heavy ss))

    handled_heavy : (h : HandledTree) → handled_nesting w h ≤ heavy w (handled_tokens h)
    handled_heavy (Handled is b ss e) = max-le (fro w _ _ (items_heavy is)) (bak w (items_tokens is) _ (aft w _ _ (fro w _ _ (statements_heavy ss))))

    body_heavy : (b : BodyTree) → body_nesting w b ≤ heavy w (body_tokens b)
    body_heavy (Body is b ss e) = opened_between w _ _ _ _ (items_heavy is) (fro w _ _ (statements_heavy ss))

    items_heavy : (is : ItemsTree) → items_nesting w is ≤ heavy w (items_tokens is)
    items_heavy NoItem = none w _
    items_heavy (MoreItems i is) = max-le (fro w _ _ (item_heavy i)) (bak w (item_tokens i) _ (items_heavy is))

    item_heavy : (i : ItemTree) → item_nesting w i ≤ heavy w (item_tokens i)
    item_heavy (CommonItem c) = common_heavy c
    item_heavy (SubprogramItem s) = fro w _ _ (specification_heavy s)
    item_heavy (StubItem s l) = fro w _ _ (specification_heavy s)
    item_heavy (BodyItem s b) = max-le (fro w _ _ (specification_heavy s)) (bak w (specification_tokens s) _ (aft w _ _ (body_heavy b)))
    item_heavy (TaskItem t) = task_heavy t
    item_heavy (TaskBodyItem l n h) = opened w _ _ _ (aft w _ _ (aft w _ _ (aft w _ _ (handled_heavy h))))
    item_heavy (ProtectedItem l p) = aft w _ _ (protected_heavy p)
    item_heavy (ProtectedBodyItem l n os e) = opened w _ _ _ (aft w _ _ (aft w _ _ (aft w _ _ (fro w _ _ (operation_bodies_heavy os)))))

    operation_bodies_heavy : (os : OperationBodiesTree) → operation_bodies_nesting w os ≤ heavy w (operation_bodies_tokens os)
    operation_bodies_heavy NoOperationBody = none w _
    operation_bodies_heavy (MoreOperationBodies o os) = max-le (fro w _ _ (operation_body_heavy o)) (bak w (operation_body_tokens o) _ (operation_bodies_heavy os))

    operation_body_heavy : (o : OperationBodyTree) → operation_body_nesting w o ≤ heavy w (operation_body_tokens o)
    operation_body_heavy (SubprogramOperation s b) = max-le (fro w _ _ (specification_heavy s)) (bak w (specification_tokens s) _ (aft w _ _ (body_heavy b)))
    operation_body_heavy (EntryOperation l n e h) = opened w _ _ _ (aft w _ _ (aft w _ _ (max-le (fro w _ _ (expression_heavy e)) (bak w (expression_tokens e) _ (aft w _ _ (handled_heavy h))))))

  context_heavy : (c : ContextTree) → context_nesting w c ≤ heavy w (context_tokens c)
  context_heavy (WithClause n) = none w _
  context_heavy (ContextUse u) = none w _
  context_heavy (ContextPragma p) = pragma_heavy p

  private_part_heavy : (p : PrivatePartTree) → private_part_nesting w p ≤ heavy w (private_part_tokens p)
  private_part_heavy p = aft w _ _ (each_heavy w declaration_tokens (declaration_nesting w) declaration_heavy p.declarations)

  package_heavy : (p : PackageTree) → package_nesting w p ≤ heavy w (package_tokens p)
  package_heavy p = opened_after w _ (compound_tokens p.name) _ refl (max-le (fro w _ _ (each_heavy w declaration_tokens (declaration_nesting w) declaration_heavy p.visible)) (bak w (each declaration_tokens p.visible) _ (fro w _ _ (maybe_heavy w private_part_tokens (private_part_nesting w) private_part_heavy p.private_part))))

  package_statements_heavy : (s : PackageStatementsTree) → statements_nesting w s.statements ≤ heavy w (package_statements_tokens s)
  package_statements_heavy s = aft w _ _ (statements_heavy s.statements)

  package_body_heavy : (p : PackageBodyTree) → package_body_nesting w p ≤ heavy w (package_body_tokens p)
  package_body_heavy p = opened_after w _ (compound_tokens p.name) _ refl (max-le (fro w _ _ (items_heavy p.items)) (bak w (items_tokens p.items) _ (fro w _ _ (maybe_heavy w package_statements_tokens (λ s. statements_nesting w s.statements) package_statements_heavy p.statements))))

  library_item_heavy : (i : LibraryItemTree) → library_item_nesting w i ≤ heavy w (library_item_tokens i)
  library_item_heavy (LibrarySubprogram p s) = bak w (private_tokens p) _ (fro w _ _ (specification_heavy s))
  library_item_heavy (LibraryPackage p l k) = bak w (private_tokens p) _ (aft w _ _ (package_heavy k))
  library_item_heavy (LibraryBody s b) = max-le (fro w _ _ (specification_heavy s)) (bak w (specification_tokens s) _ (aft w _ _ (body_heavy b)))
  library_item_heavy (LibraryPackageBody l k) = aft w _ _ (aft w _ _ (package_body_heavy k))
  library_item_heavy (Subunit l o n s b) = max-le (one_here w _ _ _) (aft w _ _ (aft w _ _ (bak w (compound_tokens n) _ (aft w _ _ (max-le (fro w _ _ (specification_heavy s)) (bak w (specification_tokens s) _ (aft w _ _ (body_heavy b))))))))

  pub unit_heavy : (u : CompilationUnitTree) → nesting_by w u ≤ heavy w (tokens_of u)
  unfolding nesting_by tokens_of
  unit_heavy u = max-le (fro w _ _ (each_heavy w context_tokens (context_nesting w) context_heavy u.context)) (bak w (each context_tokens u.context) _ (library_item_heavy u.item))
