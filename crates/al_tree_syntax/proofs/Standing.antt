-- Each tree of an expression that is made stands at its level.
use Rattle.std.proofs.Common.{ℕ, ◌≡◌, ◌≤◌, ◌||◌, true, List, Some, None, [], ◌∷◌, inl, inr, leb, refl, ap, arith, leb-true, le-leb}
use Rattle.al_tree_grammar.specs.Grammar.Rule.{Many, Opt}
use Rattle.al_tree_syntax.specs.Symbols.Symbol.{Minus as MinusWord, Plus as PlusWord}
use Rattle.al_tree_syntax.specs.Notation.{any, ◌∣◌, ◌⨾◌}
use Rattle.al_tree_syntax.specs.Expressions.{adding_rule, designator_rule, factor_rule, membership_rule, multiplying_rule, name_rule, primary_rule, relation_rule, selection_rule, simple_expression_rule, term_rule}
use Rattle.al_tree_syntax.specs.ExpressionTrees.{ExpressionTree, Level, LogicalOperator, LogicalOperator as operators, is_joined, part_rank, placed, rank, same_operator, stands, expression_tokens, tokens_at}
use Rattle.al_tree_syntax.specs.ExpressionTrees.ExpressionTree.{Infix, Longer, Name}
use Rattle.al_tree_syntax.specs.ExpressionTrees.Operator.{Adding, Multiplying}
use Rattle.al_tree_syntax.specs.ExpressionTrees.Level.{ChainLevel, FactorLevel, NameLevel, PrimaryLevel, RelationLevel, SimpleLevel, TermLevel}
use Rattle.al_tree_syntax.specs.Insides.{Nested, Of}
use Rattle.al_tree_syntax.specs.Nesting.{expression_nesting, nested_in_place, nesting_at}
use Rattle.al_tree_syntax.specs.ExpressionsFrom.{added_from, adding_from, attributes_from, designator_from, factor_from, multiplied_from, multiplying_from, name_from, primary_from, relation_from, selection_from, selections_from, signed_from, simple_from, term_from}

-- ---- a level has what those below it have

higher : (n a b : ℕ) → a ≤ b → leb n a ≡ true → leb n b ≡ true
higher n a b h k = let j = leb-true n a k in le-leb n b (omega (arith, h, j))

pub name_is_primary : (e : ExpressionTree) → stands NameLevel e ≡ true → stands PrimaryLevel e ≡ true
name_is_primary e h = higher (rank e) 0 1 (omega arith) h

pub primary_is_factor : (e : ExpressionTree) → stands PrimaryLevel e ≡ true → stands FactorLevel e ≡ true
primary_is_factor e h = higher (rank e) 1 2 (omega arith) h

pub factor_is_term : (e : ExpressionTree) → stands FactorLevel e ≡ true → stands TermLevel e ≡ true
factor_is_term e h = higher (rank e) 2 3 (omega arith) h

pub term_is_simple : (e : ExpressionTree) → stands TermLevel e ≡ true → stands SimpleLevel e ≡ true
term_is_simple e h = higher (rank e) 3 4 (omega arith) h

pub simple_is_relation : (e : ExpressionTree) → stands SimpleLevel e ≡ true → stands RelationLevel e ≡ true
simple_is_relation e h = higher (rank e) 4 5 (omega arith) h

pub relation_in_chain : (o : LogicalOperator) (e : ExpressionTree) → stands RelationLevel e ≡ true → stands (ChainLevel o) e ≡ true
relation_in_chain o e h = ap (λ b. b || is_joined o e) h

pub same : (o : LogicalOperator) → same_operator o o ≡ true
same operators.AndOperator = refl
same operators.AndThenOperator = refl
same operators.OrOperator = refl
same operators.OrElseOperator = refl
same operators.XorOperator = refl

-- what stands at a level has its lexemes and its nesting there
pub stands_there : (k : Level) (e : ExpressionTree) → stands k e ≡ true → tokens_at k e ≡ expression_tokens e
stands_there k e h = ap (λ b. placed b (expression_tokens e)) h

pub nests_there : (w : ℕ) (k : Level) (e : ExpressionTree) → stands k e ≡ true → nesting_at w k e ≡ expression_nesting w e
nests_there w k e h = ap (λ b. nested_in_place w b (expression_nesting w e)) h

-- ---- the trees

module _ (c : Nested) (s : (x : Of c selection_rule) → part_rank (selection_from c x) ≡ 0) where
  designator_ranks : (x : Of c designator_rule) → part_rank (designator_from c x) ≡ 0
  unfolding designator_rule designator_from
  designator_ranks (inl l) = refl
  designator_ranks (inr range) = refl

  pub selections_stand : (e : ExpressionTree) (xs : List (Of c selection_rule)) → stands NameLevel e ≡ true → stands NameLevel (selections_from c e xs) ≡ true
  unfolding selections_from
  selections_stand e [] h = h
  selections_stand e (x ∷ xs) h = selections_stand (Longer e (selection_from c x)) xs (ap (λ n. leb n 0) (s x))

  pub designated_stands : (e : ExpressionTree) (x : Of c designator_rule) → stands NameLevel (Longer e (designator_from c x)) ≡ true
  designated_stands e x = ap (λ n. leb n 0) (designator_ranks x)

  pub attributes_stand : (e : ExpressionTree) (ys : List (Of c (designator_rule ⨾ Many selection_rule))) → stands NameLevel e ≡ true → stands NameLevel (attributes_from c e ys) ≡ true
  unfolding attributes_from
  attributes_stand e [] h = h
  attributes_stand e ((x, xs) ∷ ys) h = attributes_stand (selections_from c (Longer e (designator_from c x)) xs) ys (selections_stand (Longer e (designator_from c x)) xs (designated_stands e x))

  pub name_stands : (x : Of c name_rule) → stands PrimaryLevel (name_from c x) ≡ true
  unfolding name_rule name_from
  name_stands (l, (xs, (ys, None))) = name_is_primary (attributes_from c (selections_from c (Name l) xs) ys) (attributes_stand (selections_from c (Name l) xs) ys (selections_stand (Name l) xs refl))
  name_stands (l, (xs, (ys, Some p))) = refl

  pub primary_stands : (x : Of c primary_rule) → stands PrimaryLevel (primary_from c x) ≡ true
  unfolding primary_rule primary_from
  primary_stands (inl l) = refl
  primary_stands (inr (inl l)) = refl
  primary_stands (inr (inr (inl x))) = name_stands x
  primary_stands (inr (inr (inr p))) = refl

  pub factor_stands : (x : Of c factor_rule) → stands FactorLevel (factor_from c x) ≡ true
  unfolding factor_rule factor_from
  factor_stands (inl (p, None)) = primary_is_factor (primary_from c p) (primary_stands p)
  factor_stands (inl (p, Some (power, q))) = refl
  factor_stands (inr (inl (l, p))) = refl
  factor_stands (inr (inr (l, p))) = refl

  pub multiplied_stands : (e : ExpressionTree) (fs : List (Of c (multiplying_rule ⨾ factor_rule))) → stands TermLevel e ≡ true → stands TermLevel (multiplied_from c e fs) ≡ true
  unfolding multiplied_from
  multiplied_stands e [] h = h
  multiplied_stands e ((o, f) ∷ fs) h = multiplied_stands (Infix e (Multiplying (multiplying_from c o)) (factor_from c f)) fs refl

  pub term_stands : (x : Of c term_rule) → stands TermLevel (term_from c x) ≡ true
  unfolding term_rule term_from
  term_stands (f, fs) = multiplied_stands (factor_from c f) fs (factor_is_term (factor_from c f) (factor_stands f))

  pub added_stands : (e : ExpressionTree) (ts : List (Of c (adding_rule ⨾ term_rule))) → stands SimpleLevel e ≡ true → stands SimpleLevel (added_from c e ts) ≡ true
  unfolding added_from
  added_stands e [] h = h
  added_stands e ((o, t) ∷ ts) h = added_stands (Infix e (Adding (adding_from c o)) (term_from c t)) ts refl

  pub signed_stands : (x : Of c (Opt (any PlusWord ∣ any MinusWord))) (e : ExpressionTree) → stands TermLevel e ≡ true → stands SimpleLevel (signed_from c x e) ≡ true
  unfolding signed_from
  signed_stands None e h = term_is_simple e h
  signed_stands (Some (inl l)) e h = refl
  signed_stands (Some (inr l)) e h = refl

  pub simple_stands : (x : Of c simple_expression_rule) → stands SimpleLevel (simple_from c x) ≡ true
  unfolding simple_expression_rule simple_from
  simple_stands (g, (t, ts)) = added_stands (signed_from c g (term_from c t)) ts (signed_stands g (term_from c t) (term_stands t))

  pub relation_stands : (x : Of c relation_rule) → stands RelationLevel (relation_from c x) ≡ true
  unfolding relation_rule membership_rule relation_from
  relation_stands (t, None) = simple_is_relation (simple_from c t) (simple_stands t)
  relation_stands (t, Some (inl (o, u))) = refl
  relation_stands (t, Some (inr (n, (isin, (u, None))))) = refl
  relation_stands (t, Some (inr (n, (isin, (u, Some (dots, v)))))) = refl
