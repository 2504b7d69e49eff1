-- What the grammar's trees of names and expressions stand for, if it is known of the constructs inside.
use Rattle.std.specs.Prelude.{List, [], ◌∷◌, Some, None}
use Rattle.std.proofs.Common.{inl, inr}
use Rattle.al_tree_grammar.specs.Grammar.{Label}
use Rattle.al_tree_grammar.specs.Grammar.Rule.{Opt, Many}
use Rattle.al_tree_syntax.specs.Symbols.Symbol.{Comma, Plus, Minus}
use Rattle.al_tree_syntax.specs.Constructs.{construct_at, place}
use Rattle.al_tree_syntax.specs.Constructs.Construct.{Parentheses as InParentheses, Arguments as InArguments}
use Rattle.al_tree_syntax.specs.Notation.{◌⨾◌, ◌∣◌, the, any}
use Rattle.al_tree_syntax.specs.Expressions.{identifier_rule, selection_rule, designator_rule, name_rest_rule, parentheses_rule, name_rule, primary_rule, factor_rule, multiplying_rule, term_rule, adding_rule, simple_expression_rule, relational_rule, membership_rule, relation_rule, and_rule, or_rule, xor_rule, expression_rule, expressions_rule}
use Rattle.al_tree_syntax.specs.Rules.{inside}
use Rattle.al_tree_syntax.specs.ExpressionTrees.{LogicalOperator, RelationalOperator, AddingOperator, MultiplyingOperator, ExpressionTree, GroupTree, ExpressionsTree, PartTree}
use Rattle.al_tree_syntax.specs.ExpressionTrees.LogicalOperator.{AndOperator, AndThenOperator, OrOperator, OrElseOperator, XorOperator}
use Rattle.al_tree_syntax.specs.ExpressionTrees.RelationalOperator.{EqualOperator, NotEqualOperator, LessOperator, LessOrEqualOperator, GreaterOperator, GreaterOrEqualOperator}
use Rattle.al_tree_syntax.specs.ExpressionTrees.AddingOperator.{PlusOperator, MinusOperator, ConcatenationOperator}
use Rattle.al_tree_syntax.specs.ExpressionTrees.MultiplyingOperator.{TimesOperator, DivideOperator, ModOperator, RemOperator}
use Rattle.al_tree_syntax.specs.ExpressionTrees.Sign.{PlusSign, MinusSign}
use Rattle.al_tree_syntax.specs.ExpressionTrees.Operator.{Logical, Relational, Adding, Multiplying, Power}
use Rattle.al_tree_syntax.specs.ExpressionTrees.Prefix.{Signed, Absolute, Negation}
use Rattle.al_tree_syntax.specs.ExpressionTrees.ExpressionTree.{Number, Text, Name, Longer, Prefixed, Infix, InMark, InRange, Group}
use Rattle.al_tree_syntax.specs.ExpressionTrees.GroupTree.{Positional, OthersAggregate}
use Rattle.al_tree_syntax.specs.ExpressionTrees.ExpressionsTree.{NoExpression, MoreExpressions}
use Rattle.al_tree_syntax.specs.ExpressionTrees.PartTree.{Selector, Arguments, Attribute, RangeAttribute, Operand}
use Rattle.al_tree_syntax.specs.Insides.{Nested, Of}

module _ (c : Nested) where
  unfoldable pub selection_from : Of c selection_rule → PartTree
  unfolding selection_rule identifier_rule construct_at
  selection_from (inl (dot, l)) = Selector l
  selection_from (inr (l, x)) = c.from (place InArguments) x l

  unfoldable pub designator_from : Of c designator_rule → PartTree
  unfolding designator_rule identifier_rule
  designator_from (inl l) = Attribute l
  designator_from (inr range) = RangeAttribute

  -- after a name
  unfoldable pub selections_from : ExpressionTree → List (Of c selection_rule) → ExpressionTree
  selections_from e [] = e
  selections_from e (x ∷ xs) = selections_from (Longer e (selection_from x)) xs

  unfoldable pub attributes_from : ExpressionTree → List (Of c (designator_rule ⨾ Many selection_rule)) → ExpressionTree
  attributes_from e [] = e
  attributes_from e ((x, xs) ∷ ys) = attributes_from (selections_from (Longer e (designator_from x)) xs) ys

  unfoldable pub parentheses_from : Of c parentheses_rule → GroupTree
  unfolding parentheses_rule construct_at
  parentheses_from (l, x) = c.from (place InParentheses) x l

  -- a name, or a qualified expression
  unfoldable pub name_from : Of c name_rule → ExpressionTree
  unfolding name_rule identifier_rule
  name_from (l, (xs, (ys, None))) = attributes_from (selections_from (Name l) xs) ys
  name_from (l, (xs, (ys, Some p))) = Longer (attributes_from (selections_from (Name l) xs) ys) (Operand (parentheses_from p))

  unfoldable pub primary_from : Of c primary_rule → ExpressionTree
  unfolding primary_rule
  primary_from (inl l) = Number l
  primary_from (inr (inl l)) = Text l
  primary_from (inr (inr (inl x))) = name_from x
  primary_from (inr (inr (inr p))) = Group (parentheses_from p)

  unfoldable pub factor_from : Of c factor_rule → ExpressionTree
  unfolding factor_rule
  factor_from (inl (p, None)) = primary_from p
  factor_from (inl (p, Some (power, q))) = Infix (primary_from p) Power (primary_from q)
  factor_from (inr (inl (l, p))) = Prefixed (Absolute l) (primary_from p)
  factor_from (inr (inr (l, p))) = Prefixed (Negation l) (primary_from p)

  unfoldable pub multiplying_from : Of c multiplying_rule → MultiplyingOperator
  unfolding multiplying_rule
  multiplying_from (inl o) = TimesOperator
  multiplying_from (inr (inl o)) = DivideOperator
  multiplying_from (inr (inr (inl o))) = ModOperator
  multiplying_from (inr (inr (inr o))) = RemOperator

  -- after what is at the left
  unfoldable pub multiplied_from : ExpressionTree → List (Of c (multiplying_rule ⨾ factor_rule)) → ExpressionTree
  multiplied_from e [] = e
  multiplied_from e ((o, f) ∷ fs) = multiplied_from (Infix e (Multiplying (multiplying_from o)) (factor_from f)) fs

  unfoldable pub term_from : Of c term_rule → ExpressionTree
  unfolding term_rule
  term_from (f, fs) = multiplied_from (factor_from f) fs

  unfoldable pub adding_from : Of c adding_rule → AddingOperator
  unfolding adding_rule
  adding_from (inl l) = PlusOperator l
  adding_from (inr (inl l)) = MinusOperator l
  adding_from (inr (inr o)) = ConcatenationOperator

  unfoldable pub added_from : ExpressionTree → List (Of c (adding_rule ⨾ term_rule)) → ExpressionTree
  added_from e [] = e
  added_from e ((o, t) ∷ ts) = added_from (Infix e (Adding (adding_from o)) (term_from t)) ts

  unfoldable pub signed_from : Of c (Opt (any Plus ∣ any Minus)) → ExpressionTree → ExpressionTree
  signed_from None e = e
  signed_from (Some (inl l)) e = Prefixed (Signed (PlusSign l)) e
  signed_from (Some (inr l)) e = Prefixed (Signed (MinusSign l)) e

  unfoldable pub simple_from : Of c simple_expression_rule → ExpressionTree
  unfolding simple_expression_rule
  simple_from (s, (t, ts)) = added_from (signed_from s (term_from t)) ts

  unfoldable pub relational_from : Of c relational_rule → RelationalOperator
  unfolding relational_rule
  relational_from (inl o) = EqualOperator
  relational_from (inr (inl o)) = NotEqualOperator
  relational_from (inr (inr (inl o))) = LessOperator
  relational_from (inr (inr (inr (inl o)))) = LessOrEqualOperator
  relational_from (inr (inr (inr (inr (inl o))))) = GreaterOperator
  relational_from (inr (inr (inr (inr (inr o))))) = GreaterOrEqualOperator

  unfoldable pub relation_from : Of c relation_rule → ExpressionTree
  unfolding relation_rule membership_rule
  relation_from (s, None) = simple_from s
  relation_from (s, Some (inl (o, t))) = Infix (simple_from s) (Relational (relational_from o)) (simple_from t)
  relation_from (s, Some (inr (n, (isin, (t, None))))) = InMark (simple_from s) n (simple_from t)
  relation_from (s, Some (inr (n, (isin, (t, Some (dots, u)))))) = InRange (simple_from s) n (simple_from t) (simple_from u)

  -- each after an operator of one word, and of two
  unfoldable pub relations_from : {A : Type 0} → LogicalOperator → ExpressionTree → List (A × Of c relation_rule) → ExpressionTree
  relations_from o e [] = e
  relations_from o e ((mark, r) ∷ rs) = relations_from o (Infix e (Logical o) (relation_from r)) rs

  unfoldable pub short_relations_from : {A B : Type 0} → LogicalOperator → ExpressionTree → List (A × (B × Of c relation_rule)) → ExpressionTree
  short_relations_from o e [] = e
  short_relations_from o e ((mark, (second, r)) ∷ rs) = short_relations_from o (Infix e (Logical o) (relation_from r)) rs

  -- after the first relation
  unfoldable pub and_from : ExpressionTree → Of c and_rule → ExpressionTree
  unfolding and_rule
  and_from r (inl (s, rs)) = relations_from AndOperator (Infix r (Logical AndOperator) (relation_from s)) rs
  and_from r (inr (o, (s, rs))) = short_relations_from AndThenOperator (Infix r (Logical AndThenOperator) (relation_from s)) rs

  unfoldable pub or_from : ExpressionTree → Of c or_rule → ExpressionTree
  unfolding or_rule
  or_from r (inl (s, rs)) = relations_from OrOperator (Infix r (Logical OrOperator) (relation_from s)) rs
  or_from r (inr (o, (s, rs))) = short_relations_from OrElseOperator (Infix r (Logical OrElseOperator) (relation_from s)) rs

  unfoldable pub xor_from : ExpressionTree → Of c xor_rule → ExpressionTree
  unfolding xor_rule
  xor_from r (s, rs) = relations_from XorOperator (Infix r (Logical XorOperator) (relation_from s)) rs

  unfoldable pub expression_from : Of c expression_rule → ExpressionTree
  unfolding expression_rule
  expression_from (r, None) = relation_from r
  expression_from (r, Some (inl (o, x))) = and_from (relation_from r) x
  expression_from (r, Some (inr (inl (o, x)))) = or_from (relation_from r) x
  expression_from (r, Some (inr (inr (o, x)))) = xor_from (relation_from r) x

  unfoldable pub expressions_from : List (Of c (the Comma ⨾ expression_rule)) → ExpressionsTree
  expressions_from [] = NoExpression
  expressions_from ((comma, e) ∷ es) = MoreExpressions (expression_from e) (expressions_from es)

  unfoldable pub parentheses_inside : Of c (inside InParentheses) → Label → GroupTree
  unfolding inside expressions_rule
  parentheses_inside (inl (e, es), closing) l = Positional l (expression_from e) (expressions_from es)
  parentheses_inside (inr (others, (arrow, e)), closing) l = OthersAggregate l (expression_from e)

  unfoldable pub arguments_inside : Of c (inside InArguments) → Label → PartTree
  unfolding inside expressions_rule
  arguments_inside ((e, es), closing) l = Arguments l (expression_from e) (expressions_from es)

  -- after the identifier of the name that a statement begins with
  unfoldable pub name_rest_from : ExpressionTree → Of c name_rest_rule → ExpressionTree
  unfolding name_rest_rule identifier_rule construct_at
  name_rest_from e [] = e
  name_rest_from e (inl (dot, l) ∷ xs) = name_rest_from (Longer e (Selector l)) xs
  name_rest_from e (inr (inl (l, x)) ∷ xs) = name_rest_from (Longer e (c.from (place InArguments) x l)) xs
  name_rest_from e (inr (inr (apostrophe, d)) ∷ xs) = name_rest_from (Longer e (designator_from d)) xs
