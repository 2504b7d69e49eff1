-- Each tree of a statement or a body that nests no deeper is made from one of the grammar's.
use Rattle.std.proofs.Common.{Bool, None, Some, [], ap, arith, false, inl, inr, refl, suc, true, ℕ, ◌∙◌, ◌∷◌, ◌≡◌, ◌≤◌}
use Rattle.al_tree_grammar.specs.Grammar.{Label, Within}
use Rattle.al_tree_syntax.specs.Constructs.Construct.{BodyOrStub as InBodyOrStub, CaseStatement as InCaseStatement, DeclareBlock as InDeclareBlock, EntryBody as InEntryBody, ForLoop as InForLoop, IfStatement as InIfStatement, PlainBlock as InPlainBlock, PlainLoop as InPlainLoop, ProtectedUnit as InProtectedUnit, SubprogramBody as InSubprogramBody, TaskBody as InTaskBody, WhileLoop as InWhileLoop}
use Rattle.al_tree_syntax.specs.Constructs.{construct_at, place}
use Rattle.al_tree_syntax.specs.Notation.{opens, the, ◌∣◌, ◌⨾◌}
use Rattle.al_tree_syntax.specs.Expressions.{identifier_rule}
use Rattle.al_tree_syntax.specs.Declarations.{item_rule, operation_body_rule, protected_body_rule, specification_rule, subprogram_rule}
use Rattle.al_tree_syntax.specs.Statements.{alternative_rule, block_rule, branch_rule, case_rule, choice_rule, declare_rule, delay_rule, exit_rule, for_rule, if_rule, loop_rule, named_rule, plain_block_rule, plain_loop_rule, return_rule, statement_rule, statements_rule, while_rule}
use Rattle.al_tree_syntax.specs.Units.{subprogram_body_rule}
use Rattle.al_tree_syntax.specs.Rules.{inside}
use Rattle.al_tree_syntax.specs.ExpressionTrees.{ExpressionTree}
use Rattle.al_tree_syntax.specs.DeclarationTrees.{SpecificationTree}
use Rattle.al_tree_syntax.specs.StatementTrees.{AlternativeTree, AlternativesTree, BlockTree, BodyTree, BranchTree, ChoiceTree, ElseTree, ElsifsTree, HandledTree, ItemTree, ItemsTree, LoopTree, MoreStatementsTree, OperationBodiesTree, StatementTree, StatementsTree}
use Rattle.al_tree_syntax.specs.StatementTrees.ChoiceTree.{OthersChoice, RangeChoice}
use Rattle.al_tree_syntax.specs.StatementTrees.StatementsTree.{Statements}
use Rattle.al_tree_syntax.specs.StatementTrees.MoreStatementsTree.{MoreStatements, NoStatement}
use Rattle.al_tree_syntax.specs.StatementTrees.StatementTree.{Assignment, BlockStatement, CallStatement, CaseStatement, DelayStatement, ExitStatement, IfStatement, LoopStatement, NullStatement, ReturnStatement}
use Rattle.al_tree_syntax.specs.StatementTrees.BranchTree.{Branch}
use Rattle.al_tree_syntax.specs.StatementTrees.ElsifsTree.{MoreElsifs, NoElsif}
use Rattle.al_tree_syntax.specs.StatementTrees.ElseTree.{Else, NoElse}
use Rattle.al_tree_syntax.specs.StatementTrees.AlternativeTree.{Alternative}
use Rattle.al_tree_syntax.specs.StatementTrees.AlternativesTree.{MoreAlternatives, NoAlternative}
use Rattle.al_tree_syntax.specs.StatementTrees.LoopTree.{ForLoop, PlainLoop, WhileLoop}
use Rattle.al_tree_syntax.specs.StatementTrees.BlockTree.{DeclareBlock, PlainBlock}
use Rattle.al_tree_syntax.specs.StatementTrees.HandledTree.{Handled}
use Rattle.al_tree_syntax.specs.StatementTrees.BodyTree.{Body}
use Rattle.al_tree_syntax.specs.StatementTrees.ItemsTree.{MoreItems, NoItem}
use Rattle.al_tree_syntax.specs.StatementTrees.ItemTree.{BodyItem, CommonItem, ProtectedBodyItem, ProtectedItem, StubItem, SubprogramItem, TaskBodyItem, TaskItem}
use Rattle.al_tree_syntax.specs.StatementTrees.OperationBodiesTree.{MoreOperationBodies, NoOperationBody}
use Rattle.al_tree_syntax.specs.StatementTrees.OperationBodyTree.{EntryOperation, SubprogramOperation}
use Rattle.al_tree_syntax.specs.Insides.{Nested, Of, roomed}
use Rattle.al_tree_syntax.specs.ExpressionsFrom.{expression_from}
use Rattle.al_tree_syntax.specs.DeclarationsFrom.{compound_from, specification_from}
use Rattle.al_tree_syntax.specs.StatementsFrom.{alternative_from, alternatives_from, block_from, body_from, body_inside, body_or_stub_inside, branch_from, case_inside, choice_from, declare_inside, delay_from, else_from, elsifs_from, entry_body_inside, exit_from, for_inside, handled_from, if_inside, item_from, items_from, labelled_from, loop_end_from, loop_from, more_statements_from, named_from, operation_bodies_from, operation_body_from, plain_block_inside, plain_loop_inside, protected_unit_inside, return_from, statement_from, statements_from, stub_or_body_from, subprogram_from, task_body_from, task_body_inside, when_from, while_inside}
use Rattle.al_tree_syntax.specs.Nesting.{alternative_nesting, alternatives_nesting, block_nesting, body_nesting, branch_nesting, choice_nesting, else_nesting, elsifs_nesting, expression_nesting, handled_nesting, item_nesting, items_nesting, loop_nesting, more_statements_nesting, operation_bodies_nesting, statement_nesting, statements_nesting}
use Rattle.al_tree_syntax.proofs.Making.{Fiber, IsMade, Made, each_within, maybe_made, maybe_within, roomed_made}
use Rattle.al_tree_syntax.proofs.ExpressionsMade.{expression_made, name_rest_made}
use Rattle.al_tree_syntax.proofs.DeclarationsMade.{common_made, compound_made, discrete_range_made, flag_made, initial_made, protected_made, specification_made, task_made}
use Rattle.al_tree_syntax.specs.Symbols.Symbol.{Colon as ColonWord, Is as IsWord}

pub body_deep : (w : ℕ) (b : BodyTree) → 1 ≤ body_nesting w b
body_deep w (Body is l ss e) = omega arith

module _ (w : ℕ) (c : Nested) (d : ℕ) (m : Made w c d) where
  loop_made : (l : LoopTree) → loop_nesting w l ≤ d → Fiber (loop_from c) l
  unfolding loop_rule loop_from construct_at
  loop_made (PlainLoop l ss e) h = let x = m.made (place InPlainLoop) l ss e h in (inl (l, x.0), x.1)
  loop_made (WhileLoop v e l ss n) h = let x = m.made (place InWhileLoop) v e l ss n h in (inr (inl (v, x.0)), x.1)
  loop_made (ForLoop f v r e l ss n) h = let x = m.made (place InForLoop) f v r e l ss n h in (inr (inr (f, x.0)), x.1)

  block_made : (b : BlockTree) → block_nesting w b ≤ d → Fiber (block_from c) b
  unfolding block_rule block_from construct_at
  block_made (DeclareBlock l b) h = let x = m.made (place InDeclareBlock) l b h in (inl (l, x.0), x.1)
  block_made (PlainBlock l ss e) h = let x = m.made (place InPlainBlock) l ss e h in (inr (l, x.0), x.1)

  loop_deep : (l : LoopTree) → 1 ≤ loop_nesting w l
  loop_deep (PlainLoop l ss e) = omega arith
  loop_deep (WhileLoop v e l ss n) = omega arith
  loop_deep (ForLoop f v r e l ss n) = omega arith

  block_deep : (b : BlockTree) → 1 ≤ block_nesting w b
  block_deep (DeclareBlock l b) = omega arith
  block_deep (PlainBlock l ss e) = omega arith

  -- with its name
  labelled_made : (l : Label) (x : Of c (the ColonWord ⨾ (loop_rule ∣ block_rule))) → 1 ≤ d → Fiber (named_from c l) (labelled_from c l x)
  unfolding named_rule named_from
  labelled_made l x h = let y = roomed_made c.room (m.opens h) x in (inr y.0, ap (labelled_from c l) y.1)

  when_made : (e : ExpressionTree) → expression_nesting w e ≤ d → Fiber (when_from c) e
  unfolding when_from
  when_made e h = let x = expression_made w c d m e h in ((tt, x.0), x.1)

  statement_made : (s : StatementTree) → statement_nesting w s ≤ d → Fiber (statement_from c) s
  unfolding statement_rule named_rule return_rule exit_rule delay_rule identifier_rule statement_from named_from labelled_from return_from exit_from delay_from construct_at
  statement_made NullStatement h = (inl (tt, tt), refl)
  statement_made (Assignment n e) h =
      let x = name_rest_made w c d m n (omega arith) in
      let y = initial_made w c d m e (omega arith) in
      (inr (inl (x.0, inl (x.1, (Some y.0, tt)))), λ i. Assignment (x.2 i) (y.1 i))
  statement_made (CallStatement n) h = let x = name_rest_made w c d m n h in (inr (inl (x.0, inl (x.1, (None, tt)))), λ i. CallStatement (x.2 i))
  statement_made (ReturnStatement l e) h =
      let x = maybe_within (expression_from c) (expression_nesting w) d (expression_made w c d m) e h in
      (inr (inr (inl (l, (x.0, tt)))), λ i. ReturnStatement l (x.1 i))
  statement_made (ExitStatement l n e) h =
      let x = maybe_within (when_from c) (expression_nesting w) d when_made e h in
      (inr (inr (inr (inl (l, (n, (x.0, tt)))))), λ i. ExitStatement l n (x.1 i))
  statement_made (DelayStatement l e) h = let x = expression_made w c d m e h in (inr (inr (inr (inr (inl (l, (tt, (x.0, tt))))))), λ i. DelayStatement l (x.1 i))
  statement_made (IfStatement l b bs e n k) h = let x = m.made (place InIfStatement) l b bs e n k h in (inr (inr (inr (inr (inr (inl (l, x.0)))))), x.1)
  statement_made (CaseStatement l e a more n k) h = let x = m.made (place InCaseStatement) l e a more n k h in (inr (inr (inr (inr (inr (inr (inl (l, x.0))))))), x.1)
  statement_made (LoopStatement None l) h = let x = loop_made l h in (inr (inr (inr (inr (inr (inr (inr (inl x.0))))))), λ i. LoopStatement None (x.1 i))
  statement_made (LoopStatement (Some n) l) h =
      let x = loop_made l h in
      let y = labelled_made n (tt, inl x.0) (omega (arith, loop_deep l)) in
      (inr (inl (n, y.0)), y.1 ∙ λ i. LoopStatement (Some n) (x.1 i))
  statement_made (BlockStatement None b) h = let x = block_made b h in (inr (inr (inr (inr (inr (inr (inr (inr x.0))))))), λ i. BlockStatement None (x.1 i))
  statement_made (BlockStatement (Some n) b) h =
      let x = block_made b h in
      let y = labelled_made n (tt, inr x.0) (omega (arith, block_deep b)) in
      (inr (inl (n, y.0)), y.1 ∙ λ i. BlockStatement (Some n) (x.1 i))

  more_statements_made : (ss : MoreStatementsTree) → more_statements_nesting w ss ≤ d → Fiber (more_statements_from c) ss
  unfolding more_statements_from
  more_statements_made NoStatement h = ([], refl)
  more_statements_made (MoreStatements s ss) h =
      let x = statement_made s (omega arith) in
      let y = more_statements_made ss (omega arith) in
      (x.0 ∷ y.0, λ i. MoreStatements (x.1 i) (y.1 i))

  pub statements_made : (ss : StatementsTree) → statements_nesting w ss ≤ d → Fiber (statements_from c) ss
  unfolding statements_rule statements_from
  statements_made (Statements s ss) h =
      let x = statement_made s (omega arith) in
      let y = more_statements_made ss (omega arith) in
      ((x.0, y.0), λ i. Statements (x.1 i) (y.1 i))

  branch_made : (b : BranchTree) → branch_nesting w b ≤ d → Fiber (branch_from c) b
  unfolding branch_rule branch_from
  branch_made (Branch e ss) h =
      let x = expression_made w c d m e (omega arith) in
      let y = statements_made ss (omega arith) in
      ((x.0, (tt, y.0)), λ i. Branch (x.1 i) (y.1 i))

  elsifs_made : (bs : ElsifsTree) → elsifs_nesting w bs ≤ d → Fiber (elsifs_from c) bs
  unfolding elsifs_from
  elsifs_made NoElsif h = ([], refl)
  elsifs_made (MoreElsifs l b bs) h =
      let x = branch_made b (omega arith) in
      let y = elsifs_made bs (omega arith) in
      ((l, x.0) ∷ y.0, λ i. MoreElsifs l (x.1 i) (y.1 i))

  else_made : (e : ElseTree) → else_nesting w e ≤ d → Fiber (else_from c) e
  unfolding else_from
  else_made NoElse h = (None, refl)
  else_made (Else ss) h = let x = statements_made ss h in (Some (tt, x.0), λ i. Else (x.1 i))

  choice_made : (k : ChoiceTree) → choice_nesting w k ≤ d → Fiber (choice_from c) k
  unfolding choice_rule choice_from
  choice_made OthersChoice h = (inl tt, refl)
  choice_made (RangeChoice r) h = let x = discrete_range_made w c d m r h in (inr x.0, λ i. RangeChoice (x.1 i))

  alternative_made : (a : AlternativeTree) → alternative_nesting w a ≤ d → Fiber (alternative_from c) a
  unfolding alternative_rule alternative_from
  alternative_made (Alternative k ks ss) h =
      let x = choice_made k (omega arith) in
      let y = each_within (choice_from c) (choice_nesting w) d choice_made ks (omega arith) in
      let z = statements_made ss (omega arith) in
      ((tt, ((x.0, y.0), (tt, z.0))), λ i. Alternative (x.1 i) (y.1 i) (z.1 i))

  alternatives_made : (more : AlternativesTree) → alternatives_nesting w more ≤ d → Fiber (alternatives_from c) more
  unfolding alternatives_from
  alternatives_made NoAlternative h = ([], refl)
  alternatives_made (MoreAlternatives a more) h =
      let x = alternative_made a (omega arith) in
      let y = alternatives_made more (omega arith) in
      (x.0 ∷ y.0, λ i. MoreAlternatives (x.1 i) (y.1 i))

  stub_made : (room : Bool) → (room ≡ true → 1 ≤ d) → (s : SpecificationTree) (l : Label) → Fiber (stub_or_body_from c room s) (StubItem s l)
  unfolding stub_or_body_from construct_at
  stub_made true o s l = let x = (m.made (place InBodyOrStub)).0 l (o refl) in (x.0, x.1 s)
  stub_made false o s l = ((tt, (l, tt)), refl)

  body_item_made : (room : Bool) → room ≡ true → (s : SpecificationTree) (b : BodyTree) → body_nesting w b ≤ d → Fiber (stub_or_body_from c room s) (BodyItem s b)
  unfolding stub_or_body_from construct_at
  body_item_made true e s b h = let x = (m.made (place InBodyOrStub)).1 b h in (x.0, x.1 s)
  body_item_made false e s b h = absurd (cc)

  after_specification : (f : SpecificationTree → ItemTree) (s : SpecificationTree) (x : Fiber (specification_from c) s) → ((t : SpecificationTree) → Fiber (stub_or_body_from c c.room t) (f t)) → Fiber (item_from c) (f s)
  unfolding item_rule subprogram_rule item_from subprogram_from construct_at
  after_specification f s x g = let y = g (specification_from c x.0) in (inr (inl (x.0, inr y.0)), y.1 ∙ ap f x.1)

  item_made : (k : ItemTree) → item_nesting w k ≤ d → Fiber (item_from c) k
  unfolding item_rule subprogram_rule item_from subprogram_from task_body_from construct_at
  item_made (CommonItem k) h = let x = common_made w c d m k h in (inl x.0, λ i. CommonItem (x.1 i))
  item_made (SubprogramItem s) h = let x = specification_made w c d m s h in (inr (inl (x.0, inl tt)), λ i. SubprogramItem (x.1 i))
  item_made (StubItem s l) h = after_specification (λ t. StubItem t l) s (specification_made w c d m s h) (λ t. stub_made c.room m.opened t l)
  item_made (BodyItem s b) h =
      after_specification (λ t. BodyItem t b) s (specification_made w c d m s (omega arith)) (λ t. body_item_made c.room (m.opens (omega (arith, body_deep w b))) t b (omega arith))
  item_made (TaskItem t) h = let x = task_made w c d m t h in (inr (inr (inl (t.opening, inl x.0))), λ i. TaskItem (x.1 i))
  item_made (TaskBodyItem l n b) h = let x = m.made (place InTaskBody) n b h in (inr (inr (inl (l, inr x.0))), λ i. task_body_from c l (x.1 i))
  item_made (ProtectedItem l p) h = let x = (m.made (place InProtectedUnit)).0 l p h in (inr (inr (inr (l, x.0))), x.1)
  item_made (ProtectedBodyItem l n os e) h = let x = (m.made (place InProtectedUnit)).1 l n os e h in (inr (inr (inr (l, x.0))), x.1)

  pub items_made : (is : ItemsTree) → items_nesting w is ≤ d → Fiber (items_from c) is
  unfolding items_from
  items_made NoItem h = ([], refl)
  items_made (MoreItems k ks) h =
      let x = item_made k (omega arith) in
      let y = items_made ks (omega arith) in
      (x.0 ∷ y.0, λ i. MoreItems (x.1 i) (y.1 i))

  operation_body_made : (s : SpecificationTree) (b : BodyTree) (x : Fiber (specification_from c) s) (y : c.Tree (place InSubprogramBody)) → operation_body_from c (x.0, y) ≡ SubprogramOperation (specification_from c x.0) b → 1 ≤ d
      → (z : Within c.room (Of c (specification_rule ⨾ opens IsWord InSubprogramBody))) × (operation_body_from c (roomed c.room z) ≡ SubprogramOperation s b)
  operation_body_made s b x y e o =
      let r = roomed_made c.room (m.opens o) (x.0, y) in
      (r.0, ap (operation_body_from c) r.1 ∙ e ∙ ap (λ (t : SpecificationTree). SubprogramOperation t b) x.1)

  operation_bodies_made : (os : OperationBodiesTree) → operation_bodies_nesting w os ≤ d → Fiber (operation_bodies_from c) os
  unfolding operation_body_rule operation_bodies_from operation_body_from construct_at
  operation_bodies_made NoOperationBody h = ([], refl)
  operation_bodies_made (MoreOperationBodies (SubprogramOperation s b) os) h =
      let o : 1 ≤ d = omega (arith, body_deep w b) in
      let x = specification_made w c d m s (omega arith) in
      let y = m.made (place InSubprogramBody) b (omega arith) in
      let w = operation_body_made s b x y.0 (λ i. SubprogramOperation (specification_from c x.0) (y.1 i)) o in
      let z = operation_bodies_made os (omega arith) in
      (inl w.0 ∷ z.0, λ i. MoreOperationBodies (w.1 i) (z.1 i))
  operation_bodies_made (MoreOperationBodies (EntryOperation l n e b) os) h =
      let x = m.made (place InEntryBody) l n e b (omega arith) in
      let z = operation_bodies_made os (omega arith) in
      (inr (l, x.0) ∷ z.0, λ i. MoreOperationBodies (x.1 i) (z.1 i))

  handled_made : (b : HandledTree) → handled_nesting w b ≤ d → Fiber (handled_from c) b
  unfolding declare_rule plain_block_rule identifier_rule handled_from
  handled_made (Handled is l ss e) h =
      let x = items_made is (omega arith) in
      let y = statements_made ss (omega arith) in
      ((x.0, (l, (y.0, (e.end, (e.end_name, tt))))), λ i. Handled (x.1 i) l (y.1 i) e)

  body_made : (b : BodyTree) → body_nesting w b ≤ suc d → Fiber (body_from c) b
  unfolding subprogram_body_rule body_from
  body_made (Body is l ss e) h =
      let x = items_made is (omega arith) in
      let y = statements_made ss (omega arith) in
      let z = maybe_made (compound_from c) (compound_made w c d m) e.end_name in
      ((x.0, (l, (y.0, (e.end, (z.0, tt))))), λ i. Body (x.1 i) l (y.1 i) (record { end = e.end; end_name = z.1 i }))

  -- ---- inside the constructs

  pub if_inside_made : IsMade w InIfStatement (Of c (inside InIfStatement)) (if_inside c) (suc d)
  unfolding inside if_rule if_inside
  if_inside_made l b bs e n k h =
      let x = branch_made b (omega arith) in
      let y = elsifs_made bs (omega arith) in
      let z = else_made e (omega arith) in
      ((x.0, (y.0, (z.0, (n, (k, tt))))), λ i. IfStatement l (x.1 i) (y.1 i) (z.1 i) n k)

  pub case_inside_made : IsMade w InCaseStatement (Of c (inside InCaseStatement)) (case_inside c) (suc d)
  unfolding inside case_rule case_inside
  case_inside_made l e a more n k h =
      let x = expression_made w c d m e (omega arith) in
      let y = alternative_made a (omega arith) in
      let z = alternatives_made more (omega arith) in
      ((x.0, (tt, (y.0, (z.0, (n, (k, tt)))))), λ i. CaseStatement l (x.1 i) (y.1 i) (z.1 i) n k)

  pub while_inside_made : IsMade w InWhileLoop (Of c (inside InWhileLoop)) (while_inside c) (suc d)
  unfolding inside while_rule plain_loop_rule identifier_rule while_inside loop_end_from
  while_inside_made v e l ss n h =
      let x = expression_made w c d m e (omega arith) in
      let y = statements_made ss (omega arith) in
      ((x.0, (l, (y.0, (n.end, (n.closing, (n.end_name, tt)))))), λ i. WhileLoop v (x.1 i) l (y.1 i) n)

  pub for_inside_made : IsMade w InForLoop (Of c (inside InForLoop)) (for_inside c) (suc d)
  unfolding inside for_rule plain_loop_rule identifier_rule for_inside loop_end_from
  for_inside_made f v r e l ss n h =
      let x = flag_made w c d m r in
      let y = discrete_range_made w c d m e (omega arith) in
      let z = statements_made ss (omega arith) in
      ((v, (tt, (x.0, (y.0, (l, (z.0, (n.end, (n.closing, (n.end_name, tt))))))))), λ i. ForLoop f v (x.1 i) (y.1 i) l (z.1 i) n)

  pub plain_loop_inside_made : IsMade w InPlainLoop (Of c (inside InPlainLoop)) (plain_loop_inside c) (suc d)
  unfolding inside plain_loop_rule identifier_rule plain_loop_inside loop_end_from
  plain_loop_inside_made l ss n h = let x = statements_made ss (omega arith) in ((x.0, (n.end, (n.closing, (n.end_name, tt)))), λ i. PlainLoop l (x.1 i) n)

  pub declare_inside_made : IsMade w InDeclareBlock (Of c (inside InDeclareBlock)) (declare_inside c) (suc d)
  unfolding inside declare_inside
  declare_inside_made l b h = let x = handled_made b (omega arith) in (x.0, λ i. DeclareBlock l (x.1 i))

  pub plain_block_inside_made : IsMade w InPlainBlock (Of c (inside InPlainBlock)) (plain_block_inside c) (suc d)
  unfolding inside plain_block_rule identifier_rule plain_block_inside
  plain_block_inside_made l ss e h = let x = statements_made ss (omega arith) in ((x.0, (e.end, (e.end_name, tt))), λ i. PlainBlock l (x.1 i) e)

  pub task_body_inside_made : IsMade w InTaskBody (Of c (inside InTaskBody)) (task_body_inside c) (suc d)
  unfolding inside identifier_rule task_body_inside
  task_body_inside_made n b h = let x = handled_made b (omega arith) in ((n, (tt, x.0)), λ i. record { name = n; handled = x.1 i })

  pub entry_body_inside_made : IsMade w InEntryBody (Of c (inside InEntryBody)) (entry_body_inside c) (suc d)
  unfolding inside identifier_rule entry_body_inside
  entry_body_inside_made l n e b h =
      let x = expression_made w c d m e (omega arith) in
      let y = handled_made b (omega arith) in
      ((n, (tt, (x.0, (tt, y.0)))), λ i. EntryOperation l n (x.1 i) (y.1 i))

  pub body_inside_made : IsMade w InSubprogramBody (Of c (inside InSubprogramBody)) (body_inside c) (suc d)
  unfolding inside body_inside
  body_inside_made b h = body_made b h

  pub body_or_stub_inside_made : IsMade w InBodyOrStub (Of c (inside InBodyOrStub)) (body_or_stub_inside c) (suc d)
  unfolding inside body_or_stub_inside
  body_or_stub_inside_made = (λ l h. (inl (l, tt), λ s. refl), λ b h. let x = body_made b h in (inr x.0, λ s i. BodyItem s (x.1 i)))

  pub protected_unit_inside_made : IsMade w InProtectedUnit (Of c (inside InProtectedUnit)) (protected_unit_inside c) (suc d)
  unfolding inside protected_body_rule identifier_rule protected_unit_inside
  protected_unit_inside_made = (
    λ l p h. let x = protected_made w c d m p h in (inl x.0, λ i. ProtectedItem l (x.1 i)),
    λ l n os e h. let x = operation_bodies_made os (omega arith) in (inr (tt, (n, (tt, (x.0, (e.end, (e.end_name, tt)))))), λ i. ProtectedBodyItem l n (x.1 i) e),
  )
