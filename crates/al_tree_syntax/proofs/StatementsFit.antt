-- The trees that the grammar's trees stand for nest no deeper: statements and bodies.
use Rattle.std.proofs.Common.{Bool, List, None, Some, [], false, inl, inr, suc, true, ℕ, ◌∷◌, ◌≤◌}
use Rattle.std.proofs.Math.Nat.{max-le}
use Rattle.al_tree_grammar.specs.Grammar.{ByRoom, Label}
use Rattle.al_tree_grammar.specs.Grammar.Rule.{Opt}
use Rattle.al_tree_syntax.specs.Constructs.Construct.{BodyOrStub as InBodyOrStub, CaseStatement as InCaseStatement, DeclareBlock as InDeclareBlock, EntryBody as InEntryBody, ForLoop as InForLoop, IfStatement as InIfStatement, PlainBlock as InPlainBlock, PlainLoop as InPlainLoop, ProtectedUnit as InProtectedUnit, SubprogramBody as InSubprogramBody, TaskBody as InTaskBody, WhileLoop as InWhileLoop}
use Rattle.al_tree_syntax.specs.Constructs.{construct_at, place}
use Rattle.al_tree_syntax.specs.Notation.{any, opens, the, ◌∣◌, ◌⨾◌}
use Rattle.al_tree_syntax.specs.Expressions.{expression_rule}
use Rattle.al_tree_syntax.specs.Declarations.{item_rule, operation_body_rule, protected_body_rule, specification_rule, subprogram_rule}
use Rattle.al_tree_syntax.specs.Statements.{alternative_rule, block_rule, branch_rule, case_rule, choice_rule, declare_rule, delay_rule, exit_rule, for_rule, if_rule, loop_rule, named_rule, plain_block_rule, plain_loop_rule, return_rule, statement_rule, statements_rule, while_rule}
use Rattle.al_tree_syntax.specs.Units.{subprogram_body_rule}
use Rattle.al_tree_syntax.specs.Rules.{inside}
use Rattle.al_tree_syntax.specs.DeclarationTrees.{SpecificationTree}
use Rattle.al_tree_syntax.specs.Insides.{Nested, Of, roomed}
use Rattle.al_tree_syntax.specs.ExpressionsFrom.{expression_from}
use Rattle.al_tree_syntax.specs.DeclarationsFrom.{specification_from}
use Rattle.al_tree_syntax.specs.StatementsFrom.{alternative_from, alternatives_from, block_from, body_from, body_inside, body_or_stub_inside, branch_from, case_inside, choice_from, declare_inside, delay_from, else_from, elsifs_from, entry_body_inside, exit_from, for_inside, handled_from, if_inside, item_from, items_from, labelled_from, loop_from, more_statements_from, named_from, operation_bodies_from, operation_body_from, plain_block_inside, plain_loop_inside, protected_unit_inside, return_from, statement_from, statements_from, stub_or_body_from, subprogram_from, task_body_from, task_body_inside, when_from, while_inside}
use Rattle.al_tree_syntax.specs.Nesting.{alternative_nesting, alternatives_nesting, block_nesting, body_nesting, branch_nesting, choice_nesting, else_nesting, elsifs_nesting, expression_nesting, handled_nesting, item_nesting, items_nesting, loop_nesting, more_statements_nesting, operation_bodies_nesting, operation_body_nesting, specification_nesting, statement_nesting, statements_nesting}
use Rattle.al_tree_syntax.proofs.ExpressionsFit.{AllFit, Fits, each_fits, expression_fits, maybe_fits, name_rest_fits, none_fits, opened_fits}
use Rattle.al_tree_syntax.proofs.DeclarationsFit.{common_fits, discrete_range_fits, initial_fits, protected_fits, specification_fits, task_fits}
use Rattle.al_tree_syntax.specs.Symbols.Symbol.{Colon as ColonWord, Else as ElseWord, Elsif as ElsifWord, Is as IsWord, Semicolon as SemicolonWord, Separate as SeparateWord, When as WhenWord}

module _ (w : ℕ) (c : Nested) (d : ℕ) (h : AllFit w c d) where
  loop_fits : (x : Of c loop_rule) → loop_nesting w (loop_from c x) ≤ d
  unfolding loop_rule loop_from construct_at
  loop_fits (inl (l, x)) = h (place InPlainLoop) x l
  loop_fits (inr (inl (l, x))) = h (place InWhileLoop) x l
  loop_fits (inr (inr (l, x))) = h (place InForLoop) x l

  block_fits : (x : Of c block_rule) → block_nesting w (block_from c x) ≤ d
  unfolding block_rule block_from construct_at
  block_fits (inl (l, x)) = h (place InDeclareBlock) x l
  block_fits (inr (l, x)) = h (place InPlainBlock) x l

  labelled_fits : (l : Label) (x : Of c (the ColonWord ⨾ (loop_rule ∣ block_rule))) → statement_nesting w (labelled_from c l x) ≤ d
  unfolding labelled_from
  labelled_fits l (colon, inl x) = loop_fits x
  labelled_fits l (colon, inr x) = block_fits x

  named_fits : (l : Label) (x : Of c named_rule) → statement_nesting w (named_from c l x) ≤ d
  unfolding named_rule named_from
  named_fits l (inl (ps, (None, semicolon))) = name_rest_fits w c d h l ps
  named_fits l (inl (ps, (Some e, semicolon))) = max-le (name_rest_fits w c d h l ps) (initial_fits w c d h e)
  named_fits l (inr x) = labelled_fits l (roomed c.room x)

  when_fits : (x : Of c (the WhenWord ⨾ expression_rule)) → expression_nesting w (when_from c x) ≤ d
  unfolding when_from
  when_fits (when, e) = expression_fits w c d h e

  statement_fits : (x : Of c statement_rule) → statement_nesting w (statement_from c x) ≤ d
  unfolding statement_rule return_rule exit_rule delay_rule statement_from return_from exit_from delay_from construct_at
  statement_fits (inl x) = none_fits d
  statement_fits (inr (inl (l, x))) = named_fits l x
  statement_fits (inr (inr (inl (l, (e, semicolon))))) = maybe_fits (expression_from c) (expression_nesting w) d (expression_fits w c d h) e
  statement_fits (inr (inr (inr (inl (l, (n, (e, semicolon))))))) = maybe_fits (when_from c) (expression_nesting w) d when_fits e
  statement_fits (inr (inr (inr (inr (inl (l, (until, (e, semicolon)))))))) = expression_fits w c d h e
  statement_fits (inr (inr (inr (inr (inr (inl (l, x))))))) = h (place InIfStatement) x l
  statement_fits (inr (inr (inr (inr (inr (inr (inl (l, x)))))))) = h (place InCaseStatement) x l
  statement_fits (inr (inr (inr (inr (inr (inr (inr (inl x)))))))) = loop_fits x
  statement_fits (inr (inr (inr (inr (inr (inr (inr (inr x)))))))) = block_fits x

  more_statements_fit : (xs : List (Of c statement_rule)) → more_statements_nesting w (more_statements_from c xs) ≤ d
  unfolding more_statements_from
  more_statements_fit [] = none_fits d
  more_statements_fit (x ∷ xs) = max-le (statement_fits x) (more_statements_fit xs)

  pub statements_fit : (x : Of c statements_rule) → statements_nesting w (statements_from c x) ≤ d
  unfolding statements_rule statements_from
  statements_fit (x, xs) = max-le (statement_fits x) (more_statements_fit xs)

  branch_fits : (x : Of c branch_rule) → branch_nesting w (branch_from c x) ≤ d
  unfolding branch_rule branch_from
  branch_fits (e, (then, ss)) = max-le (expression_fits w c d h e) (statements_fit ss)

  elsifs_fit : (xs : List (Of c (any ElsifWord ⨾ branch_rule))) → elsifs_nesting w (elsifs_from c xs) ≤ d
  unfolding elsifs_from
  elsifs_fit [] = none_fits d
  elsifs_fit ((l, x) ∷ xs) = max-le (branch_fits x) (elsifs_fit xs)

  else_fits : (x : Of c (Opt (the ElseWord ⨾ statements_rule))) → else_nesting w (else_from c x) ≤ d
  unfolding else_from
  else_fits None = none_fits d
  else_fits (Some (mark, ss)) = statements_fit ss

  choice_fits : (x : Of c choice_rule) → choice_nesting w (choice_from c x) ≤ d
  unfolding choice_rule choice_from
  choice_fits (inl others) = none_fits d
  choice_fits (inr r) = discrete_range_fits w c d h r

  alternative_fits : (x : Of c alternative_rule) → alternative_nesting w (alternative_from c x) ≤ d
  unfolding alternative_rule alternative_from
  alternative_fits (when, ((x, xs), (arrow, ss))) = max-le (choice_fits x) (max-le (each_fits (choice_from c) (choice_nesting w) d choice_fits xs) (statements_fit ss))

  alternatives_fit : (xs : List (Of c alternative_rule)) → alternatives_nesting w (alternatives_from c xs) ≤ d
  unfolding alternatives_from
  alternatives_fit [] = none_fits d
  alternatives_fit (x ∷ xs) = max-le (alternative_fits x) (alternatives_fit xs)

  stub_or_body_fits : (room : Bool) (s : SpecificationTree) → specification_nesting w s ≤ d → (x : ByRoom room (c.Tree (place InBodyOrStub)) (Of c (the IsWord ⨾ any SeparateWord ⨾ the SemicolonWord)))
      → item_nesting w (stub_or_body_from c room s x) ≤ d
  unfolding stub_or_body_from construct_at
  stub_or_body_fits true s k x = h (place InBodyOrStub) x s k
  stub_or_body_fits false s k (is, (l, semicolon)) = k

  subprogram_fits : (s : SpecificationTree) → specification_nesting w s ≤ d → (x : Of c subprogram_rule) → item_nesting w (subprogram_from c s x) ≤ d
  unfolding subprogram_rule subprogram_from
  subprogram_fits s k (inl semicolon) = k
  subprogram_fits s k (inr x) = stub_or_body_fits c.room s k x

  item_fits : (x : Of c item_rule) → item_nesting w (item_from c x) ≤ d
  unfolding item_rule item_from task_body_from construct_at
  item_fits (inl x) = common_fits w c d h x
  item_fits (inr (inl (s, x))) = subprogram_fits (specification_from c s) (specification_fits w c d h s) x
  item_fits (inr (inr (inl (l, inl t)))) = task_fits w c d h l t
  item_fits (inr (inr (inl (l, inr x)))) = h (place InTaskBody) x
  item_fits (inr (inr (inr (l, x)))) = h (place InProtectedUnit) x l

  pub items_fit : (xs : List (Of c item_rule)) → items_nesting w (items_from c xs) ≤ d
  unfolding items_from
  items_fit [] = none_fits d
  items_fit (x ∷ xs) = max-le (item_fits x) (items_fit xs)

  operation_body_fits : (x : Of c (specification_rule ⨾ opens IsWord InSubprogramBody)) → operation_body_nesting w (operation_body_from c x) ≤ d
  unfolding operation_body_from construct_at
  operation_body_fits (s, x) = max-le (specification_fits w c d h s) (h (place InSubprogramBody) x)

  operation_bodies_fit : (xs : List (Of c operation_body_rule)) → operation_bodies_nesting w (operation_bodies_from c xs) ≤ d
  unfolding operation_body_rule operation_bodies_from construct_at
  operation_bodies_fit [] = none_fits d
  operation_bodies_fit (inl x ∷ xs) = max-le (operation_body_fits (roomed c.room x)) (operation_bodies_fit xs)
  operation_bodies_fit (inr (l, x) ∷ xs) = max-le (h (place InEntryBody) x l) (operation_bodies_fit xs)

  handled_fits : (x : Of c declare_rule) → handled_nesting w (handled_from c x) ≤ d
  unfolding declare_rule plain_block_rule handled_from
  handled_fits (xs, (l, (ss, (e, (n, semicolon))))) = max-le (items_fit xs) (statements_fit ss)

  body_fits : (x : Of c subprogram_body_rule) → body_nesting w (body_from c x) ≤ suc d
  unfolding subprogram_body_rule body_from
  body_fits (xs, (l, (ss, (e, (n, semicolon))))) = opened_fits (max-le (items_fit xs) (statements_fit ss))

  -- ---- inside the constructs

  pub if_inside_fits : (x : Of c (inside InIfStatement)) → Fits w InIfStatement (if_inside c x) (suc d)
  unfolding inside if_rule if_inside
  if_inside_fits (x, (xs, (y, (e, (m, semicolon))))) = λ l. opened_fits (max-le (branch_fits x) (max-le (elsifs_fit xs) (else_fits y)))

  pub case_inside_fits : (x : Of c (inside InCaseStatement)) → Fits w InCaseStatement (case_inside c x) (suc d)
  unfolding inside case_rule case_inside
  case_inside_fits (x, (is, (a, (xs, (e, (m, semicolon)))))) = λ l. opened_fits (max-le (expression_fits w c d h x) (max-le (alternative_fits a) (alternatives_fit xs)))

  pub while_inside_fits : (x : Of c (inside InWhileLoop)) → Fits w InWhileLoop (while_inside c x) (suc d)
  unfolding inside while_rule plain_loop_rule while_inside
  while_inside_fits (x, (m, (ss, y))) = λ l. opened_fits (max-le (expression_fits w c d h x) (statements_fit ss))

  pub for_inside_fits : (x : Of c (inside InForLoop)) → Fits w InForLoop (for_inside c x) (suc d)
  unfolding inside for_rule plain_loop_rule for_inside
  for_inside_fits (v, (in_word, (r, (e, (m, (ss, y)))))) = λ l. opened_fits (max-le (discrete_range_fits w c d h e) (statements_fit ss))

  pub plain_loop_inside_fits : (x : Of c (inside InPlainLoop)) → Fits w InPlainLoop (plain_loop_inside c x) (suc d)
  unfolding inside plain_loop_rule plain_loop_inside
  plain_loop_inside_fits (ss, y) = λ l. opened_fits (statements_fit ss)

  pub declare_inside_fits : (x : Of c (inside InDeclareBlock)) → Fits w InDeclareBlock (declare_inside c x) (suc d)
  unfolding inside declare_inside
  declare_inside_fits x = λ l. opened_fits (handled_fits x)

  pub plain_block_inside_fits : (x : Of c (inside InPlainBlock)) → Fits w InPlainBlock (plain_block_inside c x) (suc d)
  unfolding inside plain_block_rule plain_block_inside
  plain_block_inside_fits (ss, y) = λ l. opened_fits (statements_fit ss)

  pub task_body_inside_fits : (x : Of c (inside InTaskBody)) → Fits w InTaskBody (task_body_inside c x) (suc d)
  unfolding inside task_body_inside
  task_body_inside_fits (n, (is, x)) = opened_fits (handled_fits x)

  pub entry_body_inside_fits : (x : Of c (inside InEntryBody)) → Fits w InEntryBody (entry_body_inside c x) (suc d)
  unfolding inside entry_body_inside
  entry_body_inside_fits (n, (when, (x, (is, y)))) = λ l. opened_fits (max-le (expression_fits w c d h x) (handled_fits y))

  pub body_inside_fits : (x : Of c (inside InSubprogramBody)) → Fits w InSubprogramBody (body_inside c x) (suc d)
  unfolding inside body_inside
  body_inside_fits x = body_fits x

  pub body_or_stub_inside_fits : (x : Of c (inside InBodyOrStub)) → Fits w InBodyOrStub (body_or_stub_inside c x) (suc d)
  unfolding inside body_or_stub_inside
  body_or_stub_inside_fits (inl (l, semicolon)) = λ s k. k
  body_or_stub_inside_fits (inr x) = λ s k. max-le k (body_fits x)

  pub protected_unit_inside_fits : (x : Of c (inside InProtectedUnit)) → Fits w InProtectedUnit (protected_unit_inside c x) (suc d)
  unfolding inside protected_body_rule protected_unit_inside
  protected_unit_inside_fits (inl x) = λ l. protected_fits w c d h x
  protected_unit_inside_fits (inr (body, (n, (is, (xs, y))))) = λ l. opened_fits (operation_bodies_fit xs)
