-- Trees of names and expressions have the lexemes of the grammar's trees.
use Rattle.std.proofs.Common.{true, leb, List, None, Option, Some, [], ap, append-nil, append_assoc, inl, inr, refl, sym, ◌++◌, ◌∙◌, ◌∷◌, ◌≡◌}
use Rattle.al_tree_grammar.specs.Grammar.{Label, Lexeme, each, marked}
use Rattle.al_tree_grammar.specs.Grammar.Rule.{Many, Opt}
use Rattle.al_tree_syntax.specs.Constructs.Construct.{Arguments as InArguments, Parentheses as InParentheses}
use Rattle.al_tree_syntax.specs.Constructs.{construct_at, place}
use Rattle.al_tree_syntax.specs.Notation.{any, the, ◌∣◌, ◌⨾◌}
use Rattle.al_tree_syntax.specs.Words.{labelled, word}
use Rattle.al_tree_syntax.specs.Expressions.{adding_rule, and_rule, designator_rule, expression_rule, expressions_rule, factor_rule, identifier_rule, membership_rule, multiplying_rule, name_rest_rule, name_rule, or_rule, parentheses_rule, primary_rule, relation_rule, relational_rule, selection_rule, simple_expression_rule, term_rule, xor_rule}
use Rattle.al_tree_syntax.specs.Rules.{inside}
use Rattle.al_tree_syntax.specs.ExpressionTrees.{ExpressionTree, ExpressionTree as trees, LogicalOperator, Operator, adding_token, expression_tokens, expressions_tokens, group_tokens, left_level, logical_tokens, multiplying_token, not_tokens, operator_tokens, part_rank, part_tokens, relational_token, right_level, simple_tokens, name_tokens, stands}
use Rattle.al_tree_syntax.specs.ExpressionTrees.Level.{ChainLevel, NameLevel, PrimaryLevel, SimpleLevel, TermLevel}
use Rattle.al_tree_syntax.specs.ExpressionTrees.Operator.{Adding, Logical, Multiplying, Power}
use Rattle.al_tree_syntax.specs.ExpressionTrees.PartTree.{Selector}
use Rattle.al_tree_syntax.proofs.Standing.{attributes_stand, designated_stands, factor_stands, primary_stands, relation_in_chain, relation_stands, same, selections_stand, signed_stands, simple_stands, stands_there, term_stands, factor_is_term}
use Rattle.al_tree_syntax.specs.ExpressionTrees.LogicalOperator.{AndOperator, AndThenOperator, OrElseOperator, OrOperator, XorOperator}
use Rattle.al_tree_syntax.specs.Insides.{Nested, Of}
use Rattle.al_tree_syntax.specs.ExpressionsFrom.{added_from, adding_from, and_from, arguments_inside, attributes_from, designator_from, expression_from, expressions_from, factor_from, multiplied_from, multiplying_from, name_from, name_rest_from, or_from, parentheses_from, parentheses_inside, primary_from, relation_from, relational_from, relations_from, selection_from, selections_from, short_relations_from, signed_from, simple_from, term_from, xor_from}
use Rattle.al_tree_syntax.proofs.Steps.{HasLexemes, Lexed, lexed}
use Rattle.al_tree_syntax.specs.Symbols.Symbol.{Comma as CommaWord, Minus as MinusWord, Not as NotWord, Plus as PlusWord}
use Rattle.al_tree_syntax.specs.Symbols.{Symbol, Symbol as symbols, number}

module _ (c : Nested) (h : Lexed c) where
  pub selection_same : (x : Of c selection_rule) → part_tokens (selection_from c x) ≡ lexed c h selection_rule x
  unfolding selection_rule identifier_rule selection_from construct_at
  selection_same (inl (dot, l)) = refl
  selection_same (inr (l, x)) = (h.same (place InArguments) x l).0

  pub selection_ranks : (x : Of c selection_rule) → part_rank (selection_from c x) ≡ 0
  unfolding selection_rule identifier_rule selection_from construct_at
  selection_ranks (inl (dot, l)) = refl
  selection_ranks (inr (l, x)) = (h.same (place InArguments) x l).1

  pub designator_same : (x : Of c designator_rule) → part_tokens (designator_from c x) ≡ word symbols.Apostrophe ∷ lexed c h designator_rule x
  unfolding designator_rule identifier_rule designator_from
  designator_same (inl l) = refl
  designator_same (inr range) = refl

  -- two operands that stand in their places
  pub infix_same : (e f : ExpressionTree) (o : Operator) → stands (left_level o) e ≡ true → stands (right_level o) f ≡ true → expression_tokens (trees.Infix e o f) ≡ expression_tokens e ++ (operator_tokens o ++ expression_tokens f)
  infix_same e f o j k = λ i. stands_there (left_level o) e j i ++ (operator_tokens o ++ stands_there (right_level o) f k i)

  selections_same : (e : ExpressionTree) (xs : List (Of c selection_rule)) → stands NameLevel e ≡ true → expression_tokens (selections_from c e xs) ≡ expression_tokens e ++ each (lexed c h selection_rule) xs
  unfolding selections_from
  selections_same e [] k = sym (append-nil (expression_tokens e))
  selections_same e (x ∷ xs) k =
      selections_same (trees.Longer e (selection_from c x)) xs (selections_stand c selection_ranks e (x ∷ []) k)
      ∙ (λ i. (stands_there NameLevel e k i ++ selection_same x i) ++ each (lexed c h selection_rule) xs)
      ∙ append_assoc (expression_tokens e) (lexed c h selection_rule x) (each (lexed c h selection_rule) xs)

  attributes_lexed : List (Of c (designator_rule ⨾ Many selection_rule)) → List Lexeme
  attributes_lexed ys = each (marked (number symbols.Apostrophe) (lexed c h (designator_rule ⨾ Many selection_rule))) ys

  attributes_same : (e : ExpressionTree) (ys : List (Of c (designator_rule ⨾ Many selection_rule))) → stands NameLevel e ≡ true → expression_tokens (attributes_from c e ys) ≡ expression_tokens e ++ attributes_lexed ys
  unfolding attributes_from attributes_lexed
  attributes_same e [] k = sym (append-nil (expression_tokens e))
  attributes_same e ((x, xs) ∷ ys) k =
      let f : ExpressionTree = trees.Longer e (designator_from c x) in
      let j = designated_stands c selection_ranks e x in
      attributes_same (selections_from c f xs) ys (selections_stand c selection_ranks f xs j)
      ∙ ap (λ (t : List Lexeme). t ++ attributes_lexed ys)
      (selections_same f xs j ∙ (λ i. (stands_there NameLevel e k i ++ designator_same x i) ++ each (lexed c h selection_rule) xs)
      ∙ append_assoc (expression_tokens e) (word symbols.Apostrophe ∷ lexed c h designator_rule x) (each (lexed c h selection_rule) xs))
      ∙ append_assoc (expression_tokens e) (word symbols.Apostrophe ∷ (lexed c h designator_rule x ++ each (lexed c h selection_rule) xs)) (attributes_lexed ys)

  parts_same : (l : Label) (xs : List (Of c selection_rule)) (ys : List (Of c (designator_rule ⨾ Many selection_rule))) → expression_tokens (attributes_from c (selections_from c (trees.Name l) xs) ys) ≡ labelled symbols.Identifier l ∷ (each (lexed c h selection_rule) xs ++ attributes_lexed ys)
  parts_same l xs ys = attributes_same (selections_from c (trees.Name l) xs) ys (selections_stand c selection_ranks (trees.Name l) xs refl) ∙ ap (λ (t : List Lexeme). t ++ attributes_lexed ys) (selections_same (trees.Name l) xs refl)

  parentheses_same : (x : Of c parentheses_rule) → group_tokens (parentheses_from c x) ≡ lexed c h parentheses_rule x
  unfolding parentheses_rule parentheses_from construct_at
  parentheses_same (l, x) = h.same (place InParentheses) x l

  name_same : (x : Of c name_rule) → expression_tokens (name_from c x) ≡ lexed c h name_rule x
  unfolding name_rule identifier_rule name_from attributes_lexed
  name_same (l, (xs, (ys, None))) =
      parts_same l xs ys ∙ ap (λ (t : List Lexeme). labelled symbols.Identifier l ∷ (each (lexed c h selection_rule) xs ++ t)) (sym (append-nil (attributes_lexed ys)))
  name_same (l, (xs, (ys, Some p))) =
      let e : ExpressionTree = attributes_from c (selections_from c (trees.Name l) xs) ys in
      (λ i. stands_there NameLevel e (attributes_stand c selection_ranks (selections_from c (trees.Name l) xs) ys (selections_stand c selection_ranks (trees.Name l) xs refl)) i ++ word symbols.Apostrophe ∷ parentheses_same p i)
      ∙ ap (λ (t : List Lexeme). t ++ word symbols.Apostrophe ∷ lexed c h parentheses_rule p) (parts_same l xs ys)
      ∙ ap (λ (t : List Lexeme). labelled symbols.Identifier l ∷ t) (append_assoc (each (lexed c h selection_rule) xs) (attributes_lexed ys) (word symbols.Apostrophe ∷ lexed c h parentheses_rule p))

  primary_same : (x : Of c primary_rule) → expression_tokens (primary_from c x) ≡ lexed c h primary_rule x
  unfolding primary_rule primary_from
  primary_same (inl l) = refl
  primary_same (inr (inl l)) = refl
  primary_same (inr (inr (inl x))) = name_same x
  primary_same (inr (inr (inr p))) = parentheses_same p

  factor_same : (x : Of c factor_rule) → expression_tokens (factor_from c x) ≡ lexed c h factor_rule x
  unfolding factor_rule factor_from
  factor_same (inl (p, None)) = primary_same p ∙ sym (append-nil (lexed c h primary_rule p))
  factor_same (inl (p, Some (power, q))) =
      infix_same (primary_from c p) (primary_from c q) Power (primary_stands c selection_ranks p) (primary_stands c selection_ranks q)
      ∙ (λ i. primary_same p i ++ word symbols.DoubleAsterisk ∷ primary_same q i)
  factor_same (inr (inl (l, p))) = (λ i. labelled symbols.Abs l ∷ stands_there PrimaryLevel (primary_from c p) (primary_stands c selection_ranks p) i) ∙ (λ i. labelled symbols.Abs l ∷ primary_same p i)
  factor_same (inr (inr (l, p))) = (λ i. labelled symbols.Not l ∷ stands_there PrimaryLevel (primary_from c p) (primary_stands c selection_ranks p) i) ∙ (λ i. labelled symbols.Not l ∷ primary_same p i)

  multiplying_same : (x : Of c multiplying_rule) → multiplying_token (multiplying_from c x) ∷ [] ≡ lexed c h multiplying_rule x
  unfolding multiplying_rule multiplying_from
  multiplying_same (inl o) = refl
  multiplying_same (inr (inl o)) = refl
  multiplying_same (inr (inr (inl o))) = refl
  multiplying_same (inr (inr (inr o))) = refl

  -- one more operator and operand after the left side
  one_more : (e g : ExpressionTree) (front ops right others : List Lexeme) → expression_tokens g ≡ expression_tokens e ++ (ops ++ right) → front ≡ expression_tokens g ++ others → front ≡ expression_tokens e ++ ((ops ++ right) ++ others)
  one_more e g front ops right others k j = j ∙ ap (λ (t : List Lexeme). t ++ others) k ∙ append_assoc (expression_tokens e) (ops ++ right) others

  multiplied_same : (e : ExpressionTree) (xs : List (Of c (multiplying_rule ⨾ factor_rule))) → stands TermLevel e ≡ true → expression_tokens (multiplied_from c e xs) ≡ expression_tokens e ++ each (lexed c h (multiplying_rule ⨾ factor_rule)) xs
  unfolding multiplied_from
  multiplied_same e [] k = sym (append-nil (expression_tokens e))
  multiplied_same e ((o, f) ∷ fs) k =
      let g : ExpressionTree = trees.Infix e (Multiplying (multiplying_from c o)) (factor_from c f) in
      one_more e g (expression_tokens (multiplied_from c g fs)) (lexed c h multiplying_rule o) (lexed c h factor_rule f) (each (lexed c h (multiplying_rule ⨾ factor_rule)) fs)
      (infix_same e (factor_from c f) (Multiplying (multiplying_from c o)) k (factor_stands c selection_ranks f) ∙ (λ i. expression_tokens e ++ (multiplying_same o i ++ factor_same f i)))
      (multiplied_same g fs refl)

  term_same : (x : Of c term_rule) → expression_tokens (term_from c x) ≡ lexed c h term_rule x
  unfolding term_rule term_from
  term_same (f, fs) =
      multiplied_same (factor_from c f) fs (factor_is_term (factor_from c f) (factor_stands c selection_ranks f))
      ∙ ap (λ (t : List Lexeme). t ++ each (lexed c h (multiplying_rule ⨾ factor_rule)) fs) (factor_same f)

  adding_same : (x : Of c adding_rule) → adding_token (adding_from c x) ∷ [] ≡ lexed c h adding_rule x
  unfolding adding_rule adding_from
  adding_same (inl l) = refl
  adding_same (inr (inl l)) = refl
  adding_same (inr (inr o)) = refl

  added_same : (e : ExpressionTree) (xs : List (Of c (adding_rule ⨾ term_rule))) → stands SimpleLevel e ≡ true → expression_tokens (added_from c e xs) ≡ expression_tokens e ++ each (lexed c h (adding_rule ⨾ term_rule)) xs
  unfolding added_from
  added_same e [] k = sym (append-nil (expression_tokens e))
  added_same e ((o, t) ∷ ts) k =
      let g : ExpressionTree = trees.Infix e (Adding (adding_from c o)) (term_from c t) in
      one_more e g (expression_tokens (added_from c g ts)) (lexed c h adding_rule o) (lexed c h term_rule t) (each (lexed c h (adding_rule ⨾ term_rule)) ts)
      (infix_same e (term_from c t) (Adding (adding_from c o)) k (term_stands c selection_ranks t) ∙ (λ i. expression_tokens e ++ (adding_same o i ++ term_same t i)))
      (added_same g ts refl)

  signed_same : (x : Of c (Opt (any PlusWord ∣ any MinusWord))) (e : ExpressionTree) → stands TermLevel e ≡ true → expression_tokens (signed_from c x e) ≡ lexed c h (Opt (any PlusWord ∣ any MinusWord)) x ++ expression_tokens e
  unfolding signed_from
  signed_same None e k = refl
  signed_same (Some (inl l)) e k = λ i. labelled symbols.Plus l ∷ stands_there TermLevel e k i
  signed_same (Some (inr l)) e k = λ i. labelled symbols.Minus l ∷ stands_there TermLevel e k i

  -- as it stands in other trees
  pub plain_simple_same : (x : Of c simple_expression_rule) → expression_tokens (simple_from c x) ≡ lexed c h simple_expression_rule x
  unfolding simple_expression_rule simple_from
  plain_simple_same (s, (t, ts)) =
      let f : ExpressionTree = term_from c t in
      added_same (signed_from c s f) ts (signed_stands c selection_ranks s f (term_stands c selection_ranks t))
      ∙ (λ i. (signed_same s f (term_stands c selection_ranks t) ∙ ap (λ (u : List Lexeme). lexed c h (Opt (any PlusWord ∣ any MinusWord)) s ++ u) (term_same t)) i ++ each (lexed c h (adding_rule ⨾ term_rule)) ts)
      ∙ append_assoc (lexed c h (Opt (any PlusWord ∣ any MinusWord)) s) (lexed c h term_rule t) (each (lexed c h (adding_rule ⨾ term_rule)) ts)

  pub simple_same : (x : Of c simple_expression_rule) → simple_tokens (simple_from c x) ≡ lexed c h simple_expression_rule x
  simple_same x = stands_there SimpleLevel (simple_from c x) (simple_stands c selection_ranks x) ∙ plain_simple_same x

  relational_same : (x : Of c relational_rule) → relational_token (relational_from c x) ∷ [] ≡ lexed c h relational_rule x
  unfolding relational_rule relational_from
  relational_same (inl o) = refl
  relational_same (inr (inl o)) = refl
  relational_same (inr (inr (inl o))) = refl
  relational_same (inr (inr (inr (inl o)))) = refl
  relational_same (inr (inr (inr (inr (inl o))))) = refl
  relational_same (inr (inr (inr (inr (inr o))))) = refl

  not_same : (x : Option Label) → not_tokens x ≡ lexed c h (Opt (any NotWord)) x
  not_same None = refl
  not_same (Some l) = refl

  relation_same : (x : Of c relation_rule) → expression_tokens (relation_from c x) ≡ lexed c h relation_rule x
  unfolding relation_rule membership_rule relation_from
  relation_same (s, None) = plain_simple_same s ∙ sym (append-nil (lexed c h simple_expression_rule s))
  relation_same (s, Some (inl (o, t))) = λ i. simple_same s i ++ (relational_same o i ++ simple_same t i)
  relation_same (s, Some (inr (n, (isin, (t, None))))) =
      (λ i. simple_same s i ++ (not_same n i ++ word symbols.In ∷ simple_same t i))
      ∙ ap (λ (r : List Lexeme). lexed c h simple_expression_rule s ++ (lexed c h (Opt (any NotWord)) n ++ word symbols.In ∷ r)) (sym (append-nil (lexed c h simple_expression_rule t)))
  relation_same (s, Some (inr (n, (isin, (t, Some (dots, u)))))) =
      λ i. simple_same s i ++ (not_same n i ++ word symbols.In ∷ (simple_same t i ++ word symbols.DoubleDot ∷ simple_same u i))

  joined_same : (o : LogicalOperator) (ops : List Lexeme) → logical_tokens o ≡ ops → (e : ExpressionTree) (r : Of c relation_rule) → stands (ChainLevel o) e ≡ true → expression_tokens (trees.Infix e (Logical o) (relation_from c r)) ≡ expression_tokens e ++ (ops ++ lexed c h relation_rule r)
  joined_same o ops k e r j = infix_same e (relation_from c r) (Logical o) j (relation_stands c selection_ranks r) ∙ (λ i. expression_tokens e ++ (k i ++ relation_same r i))

  relations_same : (s : Symbol) (o : LogicalOperator) → logical_tokens o ≡ word s ∷ [] → (e : ExpressionTree) (xs : List (Of c (the s ⨾ relation_rule))) → stands (ChainLevel o) e ≡ true → expression_tokens (relations_from c o e xs) ≡ expression_tokens e ++ each (lexed c h (the s ⨾ relation_rule)) xs
  unfolding relations_from
  relations_same s o k e [] j = sym (append-nil (expression_tokens e))
  relations_same s o k e ((mark, r) ∷ rs) j =
      let g : ExpressionTree = trees.Infix e (Logical o) (relation_from c r) in
      one_more e g (expression_tokens (relations_from c o g rs)) (word s ∷ []) (lexed c h relation_rule r) (each (lexed c h (the s ⨾ relation_rule)) rs) (joined_same o (word s ∷ []) k e r j) (relations_same s o k g rs (same o))

  short_relations_same : (s t : Symbol) (o : LogicalOperator) → logical_tokens o ≡ word s ∷ word t ∷ [] → (e : ExpressionTree) (xs : List (Of c (the s ⨾ the t ⨾ relation_rule))) → stands (ChainLevel o) e ≡ true → expression_tokens (short_relations_from c o e xs) ≡ expression_tokens e ++ each (lexed c h (the s ⨾ the t ⨾ relation_rule)) xs
  unfolding short_relations_from
  short_relations_same s t o k e [] j = sym (append-nil (expression_tokens e))
  short_relations_same s t o k e ((mark, (second, r)) ∷ rs) j =
      let g : ExpressionTree = trees.Infix e (Logical o) (relation_from c r) in
      one_more e g (expression_tokens (short_relations_from c o g rs)) (word s ∷ word t ∷ []) (lexed c h relation_rule r) (each (lexed c h (the s ⨾ the t ⨾ relation_rule)) rs) (joined_same o (word s ∷ word t ∷ []) k e r j) (short_relations_same s t o k g rs (same o))

  -- the first relation, the operator and the second one, and the others
  chain_same : (o : LogicalOperator) (ops others whole : List Lexeme) → logical_tokens o ≡ ops → (x y : Of c relation_rule) → whole ≡ expression_tokens (trees.Infix (relation_from c x) (Logical o) (relation_from c y)) ++ others → whole ≡ lexed c h relation_rule x ++ (ops ++ (lexed c h relation_rule y ++ others))
  chain_same o ops others whole k x y j =
      j
      ∙ ap (λ (t : List Lexeme). t ++ others) (joined_same o ops k (relation_from c x) y (relation_in_chain o (relation_from c x) (relation_stands c selection_ranks x)) ∙ ap (λ (t : List Lexeme). t ++ (ops ++ lexed c h relation_rule y)) (relation_same x))
      ∙ append_assoc (lexed c h relation_rule x) (ops ++ lexed c h relation_rule y) others
      ∙ ap (λ (t : List Lexeme). lexed c h relation_rule x ++ t) (append_assoc ops (lexed c h relation_rule y) others)

  and_same : (x : Of c relation_rule) (y : Of c and_rule) → expression_tokens (and_from c (relation_from c x) y) ≡ lexed c h relation_rule x ++ word symbols.And ∷ lexed c h and_rule y
  unfolding and_rule and_from
  and_same x (inl (s, ss)) =
      let g : ExpressionTree = trees.Infix (relation_from c x) (Logical AndOperator) (relation_from c s) in
      chain_same AndOperator (word symbols.And ∷ []) (each (lexed c h (the symbols.And ⨾ relation_rule)) ss) (expression_tokens (relations_from c AndOperator g ss)) refl x s (relations_same symbols.And AndOperator refl g ss refl)
  and_same x (inr (o, (s, ss))) =
      let g : ExpressionTree = trees.Infix (relation_from c x) (Logical AndThenOperator) (relation_from c s) in
      chain_same AndThenOperator (word symbols.And ∷ word symbols.Then ∷ []) (each (lexed c h (the symbols.And ⨾ the symbols.Then ⨾ relation_rule)) ss) (expression_tokens (short_relations_from c AndThenOperator g ss)) refl x s (short_relations_same symbols.And symbols.Then AndThenOperator refl g ss refl)

  or_same : (x : Of c relation_rule) (y : Of c or_rule) → expression_tokens (or_from c (relation_from c x) y) ≡ lexed c h relation_rule x ++ word symbols.Or ∷ lexed c h or_rule y
  unfolding or_rule or_from
  or_same x (inl (s, ss)) =
      let g : ExpressionTree = trees.Infix (relation_from c x) (Logical OrOperator) (relation_from c s) in
      chain_same OrOperator (word symbols.Or ∷ []) (each (lexed c h (the symbols.Or ⨾ relation_rule)) ss) (expression_tokens (relations_from c OrOperator g ss)) refl x s (relations_same symbols.Or OrOperator refl g ss refl)
  or_same x (inr (o, (s, ss))) =
      let g : ExpressionTree = trees.Infix (relation_from c x) (Logical OrElseOperator) (relation_from c s) in
      chain_same OrElseOperator (word symbols.Or ∷ word symbols.Else ∷ []) (each (lexed c h (the symbols.Or ⨾ the symbols.Else ⨾ relation_rule)) ss) (expression_tokens (short_relations_from c OrElseOperator g ss)) refl x s (short_relations_same symbols.Or symbols.Else OrElseOperator refl g ss refl)

  xor_same : (x : Of c relation_rule) (y : Of c xor_rule) → expression_tokens (xor_from c (relation_from c x) y) ≡ lexed c h relation_rule x ++ word symbols.Xor ∷ lexed c h xor_rule y
  unfolding xor_rule xor_from
  xor_same x (s, ss) =
      let g : ExpressionTree = trees.Infix (relation_from c x) (Logical XorOperator) (relation_from c s) in
      chain_same XorOperator (word symbols.Xor ∷ []) (each (lexed c h (the symbols.Xor ⨾ relation_rule)) ss) (expression_tokens (relations_from c XorOperator g ss)) refl x s (relations_same symbols.Xor XorOperator refl g ss refl)

  pub expression_same : (x : Of c expression_rule) → expression_tokens (expression_from c x) ≡ lexed c h expression_rule x
  unfolding expression_rule expression_from
  expression_same (r, None) = relation_same r ∙ sym (append-nil (lexed c h relation_rule r))
  expression_same (r, Some (inl (o, x))) = and_same r x
  expression_same (r, Some (inr (inl (o, x)))) = or_same r x
  expression_same (r, Some (inr (inr (o, x)))) = xor_same r x

  expressions_same : (xs : List (Of c (the CommaWord ⨾ expression_rule))) → expressions_tokens (expressions_from c xs) ≡ each (lexed c h (the CommaWord ⨾ expression_rule)) xs
  unfolding expressions_from
  expressions_same [] = refl
  expressions_same ((comma, e) ∷ es) = λ i. word symbols.Comma ∷ (expression_same e i ++ expressions_same es i)

  -- e {, e} )
  positional_same : (e : Of c expression_rule) (es : List (Of c (the CommaWord ⨾ expression_rule)))
      → expression_tokens (expression_from c e) ++ (expressions_tokens (expressions_from c es) ++ word symbols.RightParenthesis ∷ [])
      ≡ lexed c h (expression_rule ⨾ Many (the CommaWord ⨾ expression_rule)) (e, es) ++ word symbols.RightParenthesis ∷ []
  positional_same e es =
      (λ i. expression_same e i ++ (expressions_same es i ++ word symbols.RightParenthesis ∷ []))
      ∙ sym (append_assoc (lexed c h expression_rule e) (each (lexed c h (the CommaWord ⨾ expression_rule)) es) (word symbols.RightParenthesis ∷ []))

  pub parentheses_inside_same : (x : Of c (inside InParentheses)) → HasLexemes InParentheses (parentheses_inside c x) (lexed c h (inside InParentheses) x)
  unfolding inside expressions_rule parentheses_inside
  parentheses_inside_same (inl (e, es), closing) = λ l. ap (λ (t : List Lexeme). labelled symbols.LeftParenthesis l ∷ t) (positional_same e es)
  parentheses_inside_same (inr (others, (arrow, e)), closing) = λ l i. labelled symbols.LeftParenthesis l ∷ word symbols.Others ∷ word symbols.Arrow ∷ (expression_same e i ++ word symbols.RightParenthesis ∷ [])

  pub arguments_inside_same : (x : Of c (inside InArguments)) → HasLexemes InArguments (arguments_inside c x) (lexed c h (inside InArguments) x)
  unfolding inside expressions_rule arguments_inside
  arguments_inside_same ((e, es), closing) = λ l. (ap (λ (t : List Lexeme). labelled symbols.LeftParenthesis l ∷ t) (positional_same e es), refl)

  rest_stands : (e : ExpressionTree) (x : Of c name_rest_rule) → stands NameLevel e ≡ true → stands NameLevel (name_rest_from c e x) ≡ true
  unfolding name_rest_rule name_rest_from construct_at
  rest_stands e [] k = k
  rest_stands e (inl (dot, l) ∷ xs) k = rest_stands (trees.Longer e (Selector l)) xs refl
  rest_stands e (inr (inl (l, x)) ∷ xs) k = rest_stands (trees.Longer e (c.from (place InArguments) x l)) xs (ap (λ n. leb n 0) (h.same (place InArguments) x l).1)
  rest_stands e (inr (inr (apostrophe, d)) ∷ xs) k = rest_stands (trees.Longer e (designator_from c d)) xs (designated_stands c selection_ranks e d)

  rest_same : (e : ExpressionTree) (x : Of c name_rest_rule) → stands NameLevel e ≡ true → expression_tokens (name_rest_from c e x) ≡ expression_tokens e ++ lexed c h name_rest_rule x
  unfolding name_rest_rule identifier_rule name_rest_from construct_at
  rest_same e [] k = sym (append-nil (expression_tokens e))
  rest_same e (inl (dot, l) ∷ xs) k =
      rest_same (trees.Longer e (Selector l)) xs refl
      ∙ (λ i. (stands_there NameLevel e k i ++ word symbols.Dot ∷ labelled symbols.Identifier l ∷ []) ++ lexed c h name_rest_rule xs)
      ∙ append_assoc (expression_tokens e) (word symbols.Dot ∷ labelled symbols.Identifier l ∷ []) (lexed c h name_rest_rule xs)
  rest_same e (inr (inl (l, x)) ∷ xs) k =
      rest_same (trees.Longer e (c.from (place InArguments) x l)) xs (ap (λ n. leb n 0) (h.same (place InArguments) x l).1)
      ∙ (λ i. (stands_there NameLevel e k i ++ (h.same (place InArguments) x l).0 i) ++ lexed c h name_rest_rule xs)
      ∙ append_assoc (expression_tokens e) (labelled symbols.LeftParenthesis l ∷ h.lexemes (place InArguments) x) (lexed c h name_rest_rule xs)
  rest_same e (inr (inr (apostrophe, d)) ∷ xs) k =
      rest_same (trees.Longer e (designator_from c d)) xs (designated_stands c selection_ranks e d)
      ∙ (λ i. (stands_there NameLevel e k i ++ designator_same d i) ++ lexed c h name_rest_rule xs)
      ∙ append_assoc (expression_tokens e) (word symbols.Apostrophe ∷ lexed c h designator_rule d) (lexed c h name_rest_rule xs)

  -- as in other trees
  pub name_rest_same : (l : Label) (x : Of c name_rest_rule) → name_tokens (name_rest_from c (trees.Name l) x) ≡ labelled symbols.Identifier l ∷ lexed c h name_rest_rule x
  name_rest_same l x = stands_there NameLevel (name_rest_from c (trees.Name l) x) (rest_stands (trees.Name l) x refl) ∙ rest_same (trees.Name l) x refl
