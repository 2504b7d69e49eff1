-- Trees of statements and bodies have the lexemes of the grammar's trees.
use Rattle.std.proofs.Common.{Bool, List, None, Option, Some, [], ap, append_assoc, ap₂, false, inl, inr, refl, sym, true, ◌++◌, ◌∙◌, ◌∷◌, ◌≡◌}
use Rattle.std.specs.Prelude.{option_map}
use Rattle.al_tree_grammar.specs.Grammar.{ByRoom, Label, Lexeme, by_room, each, maybe}
use Rattle.al_tree_grammar.specs.Grammar.Rule.{Opt}
use Rattle.al_tree_syntax.specs.Constructs.Construct.{BodyOrStub as InBodyOrStub, CaseStatement as InCaseStatement, DeclareBlock as InDeclareBlock, EntryBody as InEntryBody, ForLoop as InForLoop, IfStatement as InIfStatement, PlainBlock as InPlainBlock, PlainLoop as InPlainLoop, ProtectedUnit as InProtectedUnit, SubprogramBody as InSubprogramBody, TaskBody as InTaskBody, WhileLoop as InWhileLoop}
use Rattle.al_tree_syntax.specs.Constructs.{construct_at, place}
use Rattle.al_tree_syntax.specs.Notation.{any, opens, the, ◌∣◌, ◌⨾◌}
use Rattle.al_tree_syntax.specs.Words.{labelled, word}
use Rattle.al_tree_syntax.specs.Expressions.{expression_rule, identifier_rule}
use Rattle.al_tree_syntax.specs.Declarations.{item_rule, operation_body_rule, protected_body_rule, specification_rule, subprogram_rule}
use Rattle.al_tree_syntax.specs.Statements.{alternative_rule, block_rule, branch_rule, case_rule, choice_rule, declare_rule, delay_rule, exit_rule, for_rule, if_rule, loop_rule, named_rule, plain_block_rule, plain_loop_rule, return_rule, statement_rule, statements_rule, while_rule}
use Rattle.al_tree_syntax.specs.Units.{subprogram_body_rule}
use Rattle.al_tree_syntax.specs.Rules.{inside}
use Rattle.al_tree_syntax.specs.ExpressionTrees.{expression_tokens}
use Rattle.al_tree_syntax.specs.DeclarationTrees.{SpecificationTree, identifier_token, specification_tokens}
use Rattle.al_tree_syntax.specs.StatementTrees.{alternative_tokens, alternatives_tokens, block_tokens, body_tokens, branch_tokens, choice_tokens, else_tokens, elsifs_tokens, handled_tokens, item_tokens, items_tokens, loop_end_tokens, loop_tokens, more_statements_tokens, operation_bodies_tokens, operation_body_tokens, statement_tokens, statements_tokens, when_tokens}
use Rattle.al_tree_syntax.specs.Insides.{NamedHandledTree, Nested, Of, roomed}
use Rattle.al_tree_syntax.specs.ExpressionsFrom.{expression_from}
use Rattle.al_tree_syntax.specs.DeclarationsFrom.{specification_from}
use Rattle.al_tree_syntax.specs.StatementsFrom.{alternative_from, alternatives_from, block_from, body_from, body_inside, body_or_stub_inside, branch_from, case_inside, choice_from, declare_inside, delay_from, else_from, elsifs_from, entry_body_inside, exit_from, for_inside, handled_from, if_inside, item_from, items_from, labelled_from, loop_end_from, loop_from, more_statements_from, named_from, operation_bodies_from, operation_body_from, plain_block_inside, plain_loop_inside, protected_unit_inside, return_from, statement_from, statements_from, stub_or_body_from, subprogram_from, task_body_from, task_body_inside, when_from, while_inside}
use Rattle.al_tree_syntax.proofs.Steps.{HasLexemes, Lexed, each_same, lexed, maybe_same, roomed_same}
use Rattle.al_tree_syntax.proofs.ExpressionsRead.{expression_same, name_rest_same}
use Rattle.al_tree_syntax.proofs.DeclarationsRead.{common_same, compound_end_same, discrete_range_same, end_name_same, flag_same, initial_same, protected_same, specification_same, task_same}
use Rattle.al_tree_syntax.specs.Symbols.Symbol.{Colon as ColonWord, Else as ElseWord, Elsif as ElsifWord, End as EndWord, Identifier as IdentifierWord, Is as IsWord, Loop as LoopWord, Semicolon as SemicolonWord, Separate as SeparateWord, VerticalLine as VerticalLineWord, When as WhenWord}
use Rattle.al_tree_syntax.specs.Symbols.{Symbol as symbols}

module _ (c : Nested) (h : Lexed c) where
  loop_same : (x : Of c loop_rule) → loop_tokens (loop_from c x) ≡ lexed c h loop_rule x
  unfolding loop_rule loop_from construct_at
  loop_same (inl (l, x)) = h.same (place InPlainLoop) x l
  loop_same (inr (inl (l, x))) = h.same (place InWhileLoop) x l
  loop_same (inr (inr (l, x))) = h.same (place InForLoop) x l

  block_same : (x : Of c block_rule) → block_tokens (block_from c x) ≡ lexed c h block_rule x
  unfolding block_rule block_from construct_at
  block_same (inl (l, x)) = h.same (place InDeclareBlock) x l
  block_same (inr (l, x)) = h.same (place InPlainBlock) x l

  labelled_same : (l : Label) (x : Of c (the ColonWord ⨾ (loop_rule ∣ block_rule))) → statement_tokens (labelled_from c l x) ≡ labelled symbols.Identifier l ∷ lexed c h (the ColonWord ⨾ (loop_rule ∣ block_rule)) x
  unfolding labelled_from
  labelled_same l (colon, inl x) = λ i. labelled symbols.Identifier l ∷ word symbols.Colon ∷ loop_same x i
  labelled_same l (colon, inr x) = λ i. labelled symbols.Identifier l ∷ word symbols.Colon ∷ block_same x i

  named_same : (l : Label) (x : Of c named_rule) → statement_tokens (named_from c l x) ≡ labelled symbols.Identifier l ∷ lexed c h named_rule x
  unfolding named_rule named_from
  named_same l (inl (ps, (None, semicolon))) = λ i. name_rest_same c h l ps i ++ word symbols.Semicolon ∷ []
  named_same l (inl (ps, (Some e, semicolon))) = λ i. name_rest_same c h l ps i ++ (initial_same c h e i ++ word symbols.Semicolon ∷ [])
  named_same l (inr x) =
      labelled_same l (roomed c.room x)
      ∙ ap (λ (t : List Lexeme). labelled symbols.Identifier l ∷ t) (roomed_same c.room (lexed c h (the ColonWord ⨾ (loop_rule ∣ block_rule))) x)

  maybe_expression_same : (x : Option (Of c expression_rule)) → maybe expression_tokens (option_map (expression_from c) x) ≡ lexed c h (Opt expression_rule) x
  maybe_expression_same x = maybe_same (expression_from c) expression_tokens (lexed c h expression_rule) (expression_same c h) x

  return_same : (x : Of c return_rule) → statement_tokens (return_from c x) ≡ lexed c h return_rule x
  unfolding return_rule return_from
  return_same (l, (e, semicolon)) = λ i. labelled symbols.Return l ∷ (maybe_expression_same e i ++ word symbols.Semicolon ∷ [])

  when_same : (x : Of c (the WhenWord ⨾ expression_rule)) → when_tokens (when_from c x) ≡ lexed c h (the WhenWord ⨾ expression_rule) x
  unfolding when_from
  when_same (when, e) = λ i. word symbols.When ∷ expression_same c h e i

  exit_same : (x : Of c exit_rule) → statement_tokens (exit_from c x) ≡ lexed c h exit_rule x
  unfolding exit_rule identifier_rule exit_from
  exit_same (l, (n, (e, semicolon))) =
      λ i. labelled symbols.Exit l ∷ (end_name_same c h n i ++ (maybe_same (when_from c) when_tokens (lexed c h (the WhenWord ⨾ expression_rule)) when_same e i ++ word symbols.Semicolon ∷ []))

  delay_same : (x : Of c delay_rule) → statement_tokens (delay_from c x) ≡ lexed c h delay_rule x
  unfolding delay_rule delay_from
  delay_same (l, (until, (e, semicolon))) = λ i. labelled symbols.Delay l ∷ word symbols.Until ∷ (expression_same c h e i ++ word symbols.Semicolon ∷ [])

  statement_same : (x : Of c statement_rule) → statement_tokens (statement_from c x) ≡ lexed c h statement_rule x
  unfolding statement_rule identifier_rule statement_from construct_at
  statement_same (inl x) = refl
  statement_same (inr (inl (l, x))) = named_same l x
  statement_same (inr (inr (inl x))) = return_same x
  statement_same (inr (inr (inr (inl x)))) = exit_same x
  statement_same (inr (inr (inr (inr (inl x))))) = delay_same x
  statement_same (inr (inr (inr (inr (inr (inl (l, x))))))) = h.same (place InIfStatement) x l
  statement_same (inr (inr (inr (inr (inr (inr (inl (l, x)))))))) = h.same (place InCaseStatement) x l
  statement_same (inr (inr (inr (inr (inr (inr (inr (inl x)))))))) = loop_same x
  statement_same (inr (inr (inr (inr (inr (inr (inr (inr x)))))))) = block_same x

  more_statements_same : (xs : List (Of c statement_rule)) → more_statements_tokens (more_statements_from c xs) ≡ each (lexed c h statement_rule) xs
  unfolding more_statements_from
  more_statements_same [] = refl
  more_statements_same (x ∷ xs) = λ i. statement_same x i ++ more_statements_same xs i

  pub statements_same : (x : Of c statements_rule) → statements_tokens (statements_from c x) ≡ lexed c h statements_rule x
  unfolding statements_rule statements_from
  statements_same (x, xs) = λ i. statement_same x i ++ more_statements_same xs i

  branch_same : (x : Of c branch_rule) → branch_tokens (branch_from c x) ≡ lexed c h branch_rule x
  unfolding branch_rule branch_from
  branch_same (e, (then, ss)) = λ i. expression_same c h e i ++ word symbols.Then ∷ statements_same ss i

  elsifs_same : (xs : List (Of c (any ElsifWord ⨾ branch_rule))) → elsifs_tokens (elsifs_from c xs) ≡ each (lexed c h (any ElsifWord ⨾ branch_rule)) xs
  unfolding elsifs_from
  elsifs_same [] = refl
  elsifs_same ((l, x) ∷ xs) = λ i. labelled symbols.Elsif l ∷ (branch_same x i ++ elsifs_same xs i)

  else_same : (x : Of c (Opt (the ElseWord ⨾ statements_rule))) → else_tokens (else_from c x) ≡ lexed c h (Opt (the ElseWord ⨾ statements_rule)) x
  unfolding else_from
  else_same None = refl
  else_same (Some (mark, ss)) = λ i. word symbols.Else ∷ statements_same ss i

  choice_same : (x : Of c choice_rule) → choice_tokens (choice_from c x) ≡ lexed c h choice_rule x
  unfolding choice_rule choice_from
  choice_same (inl others) = refl
  choice_same (inr r) = discrete_range_same c h r

  alternative_same : (x : Of c alternative_rule) → alternative_tokens (alternative_from c x) ≡ lexed c h alternative_rule x
  unfolding alternative_rule alternative_from
  alternative_same (when, ((x, xs), (arrow, ss))) =
      ap₂ (λ (a b : List Lexeme). word symbols.When ∷ (a ++ b)) (choice_same x)
      (λ i. each_same (choice_from c) (λ d. word symbols.VerticalLine ∷ choice_tokens d) (lexed c h (the VerticalLineWord ⨾ choice_rule)) (λ mark y j. word symbols.VerticalLine ∷ choice_same y j) xs i
      ++ word symbols.Arrow ∷ statements_same ss i)
      ∙ ap (λ (a : List Lexeme). word symbols.When ∷ a)
      (sym (append_assoc (lexed c h choice_rule x) (each (lexed c h (the VerticalLineWord ⨾ choice_rule)) xs) (word symbols.Arrow ∷ lexed c h statements_rule ss)))

  alternatives_same : (xs : List (Of c alternative_rule)) → alternatives_tokens (alternatives_from c xs) ≡ each (lexed c h alternative_rule) xs
  unfolding alternatives_from
  alternatives_same [] = refl
  alternatives_same (x ∷ xs) = λ i. alternative_same x i ++ alternatives_same xs i

  task_body_same : (l : Label) (b : NamedHandledTree) (xs : List Lexeme) → identifier_token b.name ∷ word symbols.Is ∷ handled_tokens b.handled ≡ xs → item_tokens (task_body_from c l b) ≡ labelled symbols.Task l ∷ word symbols.Body ∷ xs
  unfolding task_body_from
  task_body_same l b xs e = λ i. labelled symbols.Task l ∷ word symbols.Body ∷ e i

  -- after the specification, where there is room and where there is none
  stub_or_body_same : (room : Bool) (s : SpecificationTree) (x : ByRoom room (c.Tree (place InBodyOrStub)) (Of c (the IsWord ⨾ any SeparateWord ⨾ the SemicolonWord)))
      → item_tokens (stub_or_body_from c room s x)
      ≡ specification_tokens s ++ by_room room (λ y. word symbols.Is ∷ h.lexemes (place InBodyOrStub) y) (lexed c h (the IsWord ⨾ any SeparateWord ⨾ the SemicolonWord)) x
  unfolding stub_or_body_from construct_at
  stub_or_body_same true s x = h.same (place InBodyOrStub) x s
  stub_or_body_same false s (is, (l, semicolon)) = refl

  subprogram_same : (s : SpecificationTree) (x : Of c subprogram_rule) → item_tokens (subprogram_from c s x) ≡ specification_tokens s ++ lexed c h subprogram_rule x
  unfolding subprogram_rule subprogram_from
  subprogram_same s (inl semicolon) = refl
  subprogram_same s (inr x) = stub_or_body_same c.room s x

  item_same : (x : Of c item_rule) → item_tokens (item_from c x) ≡ lexed c h item_rule x
  unfolding item_rule item_from construct_at
  item_same (inl x) = common_same c h x
  item_same (inr (inl (s, x))) = subprogram_same (specification_from c s) x ∙ ap (λ (t : List Lexeme). t ++ lexed c h subprogram_rule x) (specification_same c h s)
  item_same (inr (inr (inl (l, inl t)))) = task_same c h l t
  item_same (inr (inr (inl (l, inr x)))) = task_body_same l (c.from (place InTaskBody) x) (h.lexemes (place InTaskBody) x) (h.same (place InTaskBody) x)
  item_same (inr (inr (inr (l, x)))) = h.same (place InProtectedUnit) x l

  pub items_same : (xs : List (Of c item_rule)) → items_tokens (items_from c xs) ≡ each (lexed c h item_rule) xs
  unfolding items_from
  items_same [] = refl
  items_same (x ∷ xs) = λ i. item_same x i ++ items_same xs i

  operation_body_same : (x : Of c (specification_rule ⨾ opens IsWord InSubprogramBody)) → operation_body_tokens (operation_body_from c x) ≡ lexed c h (specification_rule ⨾ opens IsWord InSubprogramBody) x
  unfolding operation_body_from construct_at
  operation_body_same (s, x) = λ i. specification_same c h s i ++ word symbols.Is ∷ h.same (place InSubprogramBody) x i

  operation_bodies_same : (xs : List (Of c operation_body_rule)) → operation_bodies_tokens (operation_bodies_from c xs) ≡ each (lexed c h operation_body_rule) xs
  unfolding operation_body_rule operation_bodies_from construct_at
  operation_bodies_same [] = refl
  operation_bodies_same (inl x ∷ xs) =
      ap₂ (λ (a b : List Lexeme). a ++ b)
      (operation_body_same (roomed c.room x) ∙ roomed_same c.room (lexed c h (specification_rule ⨾ opens IsWord InSubprogramBody)) x) (operation_bodies_same xs)
  operation_bodies_same (inr (l, x) ∷ xs) = λ i. h.same (place InEntryBody) x l i ++ operation_bodies_same xs i

  handled_same : (x : Of c declare_rule) → handled_tokens (handled_from c x) ≡ lexed c h declare_rule x
  unfolding declare_rule plain_block_rule identifier_rule handled_from
  handled_same (xs, (l, (ss, (e, (n, semicolon))))) = λ i. items_same xs i ++ labelled symbols.Begin l ∷ (statements_same ss i ++ labelled symbols.End e ∷ (end_name_same c h n i ++ word symbols.Semicolon ∷ []))

  body_same : (x : Of c subprogram_body_rule) → body_tokens (body_from c x) ≡ lexed c h subprogram_body_rule x
  unfolding subprogram_body_rule body_from
  body_same (xs, (l, (ss, (e, (n, semicolon))))) = λ i. items_same xs i ++ labelled symbols.Begin l ∷ (statements_same ss i ++ labelled symbols.End e ∷ (compound_end_same c h n i ++ word symbols.Semicolon ∷ []))

  -- ---- inside the constructs

  pub if_inside_same : (x : Of c (inside InIfStatement)) → HasLexemes InIfStatement (if_inside c x) (lexed c h (inside InIfStatement) x)
  unfolding inside if_rule if_inside
  if_inside_same (x, (xs, (y, (e, (m, semicolon))))) =
      λ l i. labelled symbols.If l ∷ (branch_same x i ++ (elsifs_same xs i ++ (else_same y i ++ labelled symbols.End e ∷ labelled symbols.If m ∷ word symbols.Semicolon ∷ [])))

  pub case_inside_same : (x : Of c (inside InCaseStatement)) → HasLexemes InCaseStatement (case_inside c x) (lexed c h (inside InCaseStatement) x)
  unfolding inside case_rule case_inside
  case_inside_same (x, (is, (a, (xs, (e, (m, semicolon)))))) =
      λ l i. labelled symbols.Case l ∷ (expression_same c h x i ++ word symbols.Is ∷ (alternative_same a i ++ (alternatives_same xs i ++ labelled symbols.End e ∷ labelled symbols.Case m ∷ word symbols.Semicolon ∷ [])))

  -- statements end loop [identifier] ;
  looped_same : (ss : Of c statements_rule) (e k : Label) (n : Option Label) → statements_tokens (statements_from c ss) ++ loop_end_tokens (loop_end_from c e k n)
      ≡ lexed c h (statements_rule ⨾ any EndWord ⨾ any LoopWord ⨾ Opt (any IdentifierWord) ⨾ the SemicolonWord) (ss, (e, (k, (n, tt))))
  unfolding loop_end_from
  looped_same ss e k n = λ i. statements_same ss i ++ labelled symbols.End e ∷ labelled symbols.Loop k ∷ (end_name_same c h n i ++ word symbols.Semicolon ∷ [])

  pub while_inside_same : (x : Of c (inside InWhileLoop)) → HasLexemes InWhileLoop (while_inside c x) (lexed c h (inside InWhileLoop) x)
  unfolding inside while_rule plain_loop_rule identifier_rule while_inside
  while_inside_same (x, (m, (ss, (e, (k, (n, semicolon)))))) = λ l i. labelled symbols.While l ∷ (expression_same c h x i ++ labelled symbols.Loop m ∷ looped_same ss e k n i)

  pub for_inside_same : (x : Of c (inside InForLoop)) → HasLexemes InForLoop (for_inside c x) (lexed c h (inside InForLoop) x)
  unfolding inside for_rule plain_loop_rule identifier_rule for_inside
  for_inside_same (v, (in_word, (r, (d, (m, (ss, (e, (k, (n, semicolon))))))))) =
      λ l i. labelled symbols.For l ∷ identifier_token v ∷ word symbols.In ∷ (flag_same c h symbols.Reverse r i ++ (discrete_range_same c h d i ++ labelled symbols.Loop m ∷ looped_same ss e k n i))

  pub plain_loop_inside_same : (x : Of c (inside InPlainLoop)) → HasLexemes InPlainLoop (plain_loop_inside c x) (lexed c h (inside InPlainLoop) x)
  unfolding inside plain_loop_rule identifier_rule plain_loop_inside
  plain_loop_inside_same (ss, (e, (k, (n, semicolon)))) = λ l i. labelled symbols.Loop l ∷ looped_same ss e k n i

  pub declare_inside_same : (x : Of c (inside InDeclareBlock)) → HasLexemes InDeclareBlock (declare_inside c x) (lexed c h (inside InDeclareBlock) x)
  unfolding inside declare_inside
  declare_inside_same x = λ l i. labelled symbols.Declare l ∷ handled_same x i

  pub plain_block_inside_same : (x : Of c (inside InPlainBlock)) → HasLexemes InPlainBlock (plain_block_inside c x) (lexed c h (inside InPlainBlock) x)
  unfolding inside plain_block_rule identifier_rule plain_block_inside
  plain_block_inside_same (ss, (e, (n, semicolon))) = λ l i. labelled symbols.Begin l ∷ (statements_same ss i ++ labelled symbols.End e ∷ (end_name_same c h n i ++ word symbols.Semicolon ∷ []))

  pub task_body_inside_same : (x : Of c (inside InTaskBody)) → HasLexemes InTaskBody (task_body_inside c x) (lexed c h (inside InTaskBody) x)
  unfolding inside identifier_rule task_body_inside
  task_body_inside_same (n, (is, x)) = λ i. identifier_token n ∷ word symbols.Is ∷ handled_same x i

  pub entry_body_inside_same : (x : Of c (inside InEntryBody)) → HasLexemes InEntryBody (entry_body_inside c x) (lexed c h (inside InEntryBody) x)
  unfolding inside identifier_rule entry_body_inside
  entry_body_inside_same (n, (when, (x, (is, y)))) = λ l i. labelled symbols.Entry l ∷ identifier_token n ∷ word symbols.When ∷ (expression_same c h x i ++ word symbols.Is ∷ handled_same y i)

  pub body_inside_same : (x : Of c (inside InSubprogramBody)) → HasLexemes InSubprogramBody (body_inside c x) (lexed c h (inside InSubprogramBody) x)
  unfolding inside body_inside
  body_inside_same x = body_same x

  pub body_or_stub_inside_same : (x : Of c (inside InBodyOrStub)) → HasLexemes InBodyOrStub (body_or_stub_inside c x) (lexed c h (inside InBodyOrStub) x)
  unfolding inside body_or_stub_inside
  body_or_stub_inside_same (inl (l, semicolon)) = λ s. refl
  body_or_stub_inside_same (inr x) = λ s i. specification_tokens s ++ word symbols.Is ∷ body_same x i

  pub protected_unit_inside_same : (x : Of c (inside InProtectedUnit)) → HasLexemes InProtectedUnit (protected_unit_inside c x) (lexed c h (inside InProtectedUnit) x)
  unfolding inside protected_body_rule identifier_rule protected_unit_inside
  protected_unit_inside_same (inl x) = λ l i. labelled symbols.Protected l ∷ protected_same c h x i
  protected_unit_inside_same (inr (body, (n, (is, (xs, (e, (m, semicolon))))))) =
      λ l i. labelled symbols.Protected l ∷ word symbols.Body ∷ identifier_token n ∷ word symbols.Is ∷ (operation_bodies_same xs i ++ labelled symbols.End e ∷ (end_name_same c h m i ++ word symbols.Semicolon ∷ []))
