-- Each tree of a name or an expression that nests no deeper is made from one of the grammar's.
use Rattle.std.proofs.Common.{Bool, List, None, Some, [], arith, false, inl, inr, leb, refl, suc, true, ℕ, ◌++◌, ◌∙◌, ◌∷◌, ◌≡◌, ◌≤◌}
use Rattle.al_tree_grammar.specs.Grammar.{Label}
use Rattle.al_tree_grammar.specs.Grammar.Rule.{Many}
use Rattle.al_tree_syntax.specs.Constructs.Construct.{Arguments as InArguments, Parentheses as InParentheses}
use Rattle.al_tree_syntax.specs.Constructs.{construct_at, place}
use Rattle.al_tree_syntax.specs.Notation.{opens_at, the, ◌∣◌, ◌⨾◌}
use Rattle.al_tree_syntax.specs.Symbols.Symbol.{Apostrophe, Dot, LeftParenthesis}
use Rattle.al_tree_syntax.specs.Expressions.{adding_rule, and_rule, designator_rule, expression_rule, expressions_rule, factor_rule, identifier_rule, membership_rule, multiplying_rule, name_rest_rule, name_rule, or_rule, parentheses_rule, primary_rule, relation_rule, relational_rule, selection_rule, simple_expression_rule, term_rule, xor_rule}
use Rattle.al_tree_syntax.specs.Rules.{inside}
use Rattle.al_tree_syntax.specs.ExpressionTrees.{AddingOperator, ExpressionTree, ExpressionsTree, GroupTree, Level, LogicalOperator, MultiplyingOperator, PartTree, RelationalOperator, Sign, part_rank, stands}
use Rattle.al_tree_syntax.specs.ExpressionTrees.Level.{ChainLevel, FactorLevel, NameLevel, PrimaryLevel, RelationLevel, SimpleLevel, TermLevel}
use Rattle.al_tree_syntax.specs.ExpressionTrees.LogicalOperator.{AndOperator, AndThenOperator, OrElseOperator, OrOperator, XorOperator}
use Rattle.al_tree_syntax.specs.ExpressionTrees.RelationalOperator.{EqualOperator, GreaterOperator, GreaterOrEqualOperator, LessOperator, LessOrEqualOperator, NotEqualOperator}
use Rattle.al_tree_syntax.specs.ExpressionTrees.AddingOperator.{ConcatenationOperator, MinusOperator, PlusOperator}
use Rattle.al_tree_syntax.specs.ExpressionTrees.MultiplyingOperator.{DivideOperator, ModOperator, RemOperator, TimesOperator}
use Rattle.al_tree_syntax.specs.ExpressionTrees.Sign.{MinusSign, PlusSign}
use Rattle.al_tree_syntax.specs.ExpressionTrees.Operator.{Adding, Logical, Multiplying, Power, Relational}
use Rattle.al_tree_syntax.specs.ExpressionTrees.Prefix.{Absolute, Negation, Signed}
use Rattle.al_tree_syntax.specs.ExpressionTrees.ExpressionTree.{Group, InMark, InRange, Infix, Longer, Name, Number, Prefixed, Text}
use Rattle.al_tree_syntax.specs.ExpressionTrees.GroupTree.{OthersAggregate, Positional}
use Rattle.al_tree_syntax.specs.ExpressionTrees.ExpressionsTree.{MoreExpressions, NoExpression}
use Rattle.al_tree_syntax.specs.ExpressionTrees.PartTree.{Arguments, Attribute, Operand, RangeAttribute, Selector}
use Rattle.al_tree_syntax.specs.Insides.{Nested, Of}
use Rattle.al_tree_syntax.specs.ExpressionsFrom.{added_from, adding_from, and_from, arguments_inside, attributes_from, designator_from, expression_from, expressions_from, factor_from, multiplied_from, multiplying_from, name_from, name_rest_from, or_from, parentheses_from, parentheses_inside, primary_from, relation_from, relational_from, relations_from, selection_from, selections_from, short_relations_from, signed_from, simple_from, term_from, xor_from}
use Rattle.al_tree_syntax.specs.Nesting.{expression_nesting, expressions_nesting, group_nesting, name_nesting, nested_in_place, nesting_at, part_nesting, simple_nesting}
use Rattle.al_tree_syntax.proofs.Standing.{primary_is_factor, factor_is_term, term_is_simple, simple_is_relation}
use Rattle.al_tree_syntax.proofs.Making.{Fiber, IsMade, Made}

part_low : (p : PartTree) → leb (part_rank p) 1 ≡ true
part_low (Selector l) = refl
part_low (Arguments l e es) = refl
part_low (Attribute l) = refl
part_low RangeAttribute = refl
part_low (Operand g) = refl

module _ (w : ℕ) (c : Nested) (d : ℕ) (m : Made w c d) where
  -- What nests no deeper than may be stands in its place.
  pub in_place : (k : Level) (e : ExpressionTree) → nesting_at w k e ≤ d → (stands k e ≡ true) × (expression_nesting w e ≤ d)
  in_place k e h = go (stands k e) refl h
    where
      go : (b : Bool) → stands k e ≡ b → nested_in_place w b (expression_nesting w e) ≤ d → (stands k e ≡ true) × (expression_nesting w e ≤ d)
      go true s j = (s, j)
      go false s j = let few = m.few in absurd (omega (arith, few, j))

  -- ---- names

  selections_snoc : (e : ExpressionTree) (xs : List (Of c selection_rule)) (x : Of c selection_rule) → selections_from c e (xs ++ x ∷ []) ≡ Longer (selections_from c e xs) (selection_from c x)
  unfolding selections_from
  selections_snoc e [] x = refl
  selections_snoc e (y ∷ ys) x = selections_snoc (Longer e (selection_from c y)) ys x

  attributes_snoc : (e : ExpressionTree) (ys : List (Of c (designator_rule ⨾ Many selection_rule))) (a : Of c designator_rule) → attributes_from c e (ys ++ (a, []) ∷ []) ≡ Longer (attributes_from c e ys) (designator_from c a)
  unfolding attributes_from selections_from
  attributes_snoc e [] a = refl
  attributes_snoc e ((b, xs) ∷ ys) a = attributes_snoc (selections_from c (Longer e (designator_from c b)) xs) ys a

  -- after the last attribute
  put : Of c designator_rule → List (Of c selection_rule) → List (Of c (designator_rule ⨾ Many selection_rule)) → Of c selection_rule → List (Of c (designator_rule ⨾ Many selection_rule))
  put a xs [] x = (a, xs ++ x ∷ []) ∷ []
  put a xs ((b, ys) ∷ zs) x = (a, xs) ∷ put b ys zs x

  put_made : (e : ExpressionTree) (a : Of c designator_rule) (xs : List (Of c selection_rule)) (ys : List (Of c (designator_rule ⨾ Many selection_rule))) (x : Of c selection_rule) → attributes_from c e (put a xs ys x) ≡ Longer (attributes_from c e ((a, xs) ∷ ys)) (selection_from c x)
  unfolding attributes_from put
  put_made e a xs [] x = selections_snoc (Longer e (designator_from c a)) xs x
  put_made e a xs ((b, ys) ∷ zs) x = put_made (selections_from c (Longer e (designator_from c a)) xs) b ys zs x

  abbrev NameOf : ExpressionTree → Type 0
  NameOf e = (l : Label) × (xs : List (Of c selection_rule)) × (ys : List (Of c (designator_rule ⨾ Many selection_rule))) × (attributes_from c (selections_from c (Name l) xs) ys ≡ e)

  selected : (l : Label) (xs : List (Of c selection_rule)) (ys : List (Of c (designator_rule ⨾ Many selection_rule))) (x : Of c selection_rule) → NameOf (Longer (attributes_from c (selections_from c (Name l) xs) ys) (selection_from c x))
  unfolding attributes_from
  selected l xs [] x = (l, xs ++ x ∷ [], [], selections_snoc (Name l) xs x)
  selected l xs ((a, zs) ∷ ys) x = (l, xs, put a zs ys x, put_made (selections_from c (Name l) xs) a zs ys x)

  with_selection : (e : ExpressionTree) (p : PartTree) → NameOf e → Fiber (selection_from c) p → NameOf (Longer e p)
  with_selection e p z x = let y = selected z.0 z.1 z.2 x.0 in (y.0, y.1, y.2, y.3 ∙ λ i. Longer (z.3 i) (x.1 i))

  with_attribute : (e : ExpressionTree) (p : PartTree) → NameOf e → Fiber (designator_from c) p → NameOf (Longer e p)
  with_attribute e p z x = (z.0, z.1, z.2 ++ (x.0, []) ∷ [], attributes_snoc (selections_from c (Name z.0) z.1) z.2 x.0 ∙ λ i. Longer (z.3 i) (x.1 i))

  pub selection_made : (l : Label) (e : ExpressionTree) (es : ExpressionsTree) → part_nesting w (Arguments l e es) ≤ d → Fiber (selection_from c) (Arguments l e es)
  unfolding selection_rule selection_from construct_at
  selection_made l e es h = let a = m.made (place InArguments) l e es h in (inr (l, a.0), a.1)

  selector_made : (l : Label) → Fiber (selection_from c) (Selector l)
  unfolding selection_rule identifier_rule selection_from
  selector_made l = (inl (tt, l), refl)

  attribute_made : (l : Label) → Fiber (designator_from c) (Attribute l)
  unfolding designator_rule identifier_rule designator_from
  attribute_made l = (inl l, refl)

  range_attribute_made : Fiber (designator_from c) RangeAttribute
  unfolding designator_rule identifier_rule designator_from
  range_attribute_made = (inr tt, refl)

  name_made : (e : ExpressionTree) → stands NameLevel e ≡ true → expression_nesting w e ≤ d → NameOf e
  unfolding attributes_from selections_from
  name_made (Name l) s h = (l, [], [], refl)
  name_made (Longer e (Selector k)) s h = let p = in_place NameLevel e (omega (arith, h)) in with_selection e (Selector k) (name_made e p.0 p.1) (selector_made k)
  name_made (Longer e (Arguments k f es)) s h = let p = in_place NameLevel e (omega (arith, h)) in with_selection e (Arguments k f es) (name_made e p.0 p.1) (selection_made k f es (omega (arith, h)))
  name_made (Longer e (Attribute k)) s h = let p = in_place NameLevel e (omega (arith, h)) in with_attribute e (Attribute k) (name_made e p.0 p.1) (attribute_made k)
  name_made (Longer e RangeAttribute) s h = let p = in_place NameLevel e (omega (arith, h)) in with_attribute e RangeAttribute (name_made e p.0 p.1) range_attribute_made
  name_made (Longer e (Operand g)) s h = absurd (cc)
  name_made (Number l) s h = absurd (cc)
  name_made (Text l) s h = absurd (cc)
  name_made (Prefixed (Signed g) e) s h = absurd (cc)
  name_made (Prefixed (Absolute l) e) s h = absurd (cc)
  name_made (Prefixed (Negation l) e) s h = absurd (cc)
  name_made (Infix e (Logical o) f) s h = absurd (cc)
  name_made (Infix e (Relational o) f) s h = absurd (cc)
  name_made (Infix e (Adding o) f) s h = absurd (cc)
  name_made (Infix e (Multiplying o) f) s h = absurd (cc)
  name_made (Infix e Power f) s h = absurd (cc)
  name_made (InMark e n f) s h = absurd (cc)
  name_made (InRange e n f g) s h = absurd (cc)
  name_made (Group g) s h = absurd (cc)

  parentheses_made : (p : GroupTree) → group_nesting w p ≤ d → Fiber (parentheses_from c) p
  unfolding parentheses_rule parentheses_from construct_at
  parentheses_made p h = let x = m.made (place InParentheses) p h in ((x.0, x.1), x.2)

  -- ---- a name alone, and a qualified expression

  sole_name : (e : ExpressionTree) → NameOf e → Fiber (primary_from c) e
  unfolding primary_rule name_rule identifier_rule primary_from name_from
  sole_name e z = (inr (inr (inl (z.0, (z.1, (z.2, None))))), z.3)

  qualified : (e : ExpressionTree) (g : GroupTree) → NameOf e → Fiber (parentheses_from c) g → Fiber (primary_from c) (Longer e (Operand g))
  unfolding primary_rule name_rule identifier_rule primary_from name_from
  qualified e g z x = (inr (inr (inl (z.0, (z.1, (z.2, Some x.0))))), λ i. Longer (z.3 i) (Operand (x.1 i)))

  primary_made : (e : ExpressionTree) → stands PrimaryLevel e ≡ true → expression_nesting w e ≤ d → Fiber (primary_from c) e
  unfolding primary_rule primary_from
  primary_made (Number l) s h = (inl l, refl)
  primary_made (Text l) s h = (inr (inl l), refl)
  primary_made (Name l) s h = sole_name (Name l) (name_made (Name l) refl h)
  primary_made (Longer e (Selector k)) s h = sole_name (Longer e (Selector k)) (name_made (Longer e (Selector k)) refl h)
  primary_made (Longer e (Arguments k f es)) s h = sole_name (Longer e (Arguments k f es)) (name_made (Longer e (Arguments k f es)) refl h)
  primary_made (Longer e (Attribute k)) s h = sole_name (Longer e (Attribute k)) (name_made (Longer e (Attribute k)) refl h)
  primary_made (Longer e RangeAttribute) s h = sole_name (Longer e RangeAttribute) (name_made (Longer e RangeAttribute) refl h)
  primary_made (Longer e (Operand g)) s h =
      let p = in_place NameLevel e (omega (arith, h)) in
      qualified e g (name_made e p.0 p.1) (parentheses_made g (omega (arith, h)))
  primary_made (Group g) s h = let x = parentheses_made g h in (inr (inr (inr x.0)), λ i. Group (x.1 i))
  primary_made (Prefixed (Signed g) e) s h = absurd (cc)
  primary_made (Prefixed (Absolute l) e) s h = absurd (cc)
  primary_made (Prefixed (Negation l) e) s h = absurd (cc)
  primary_made (Infix e (Logical o) f) s h = absurd (cc)
  primary_made (Infix e (Relational o) f) s h = absurd (cc)
  primary_made (Infix e (Adding o) f) s h = absurd (cc)
  primary_made (Infix e (Multiplying o) f) s h = absurd (cc)
  primary_made (Infix e Power f) s h = absurd (cc)
  primary_made (InMark e n f) s h = absurd (cc)
  primary_made (InRange e n f g) s h = absurd (cc)

  factor_made : (e : ExpressionTree) → stands FactorLevel e ≡ true → expression_nesting w e ≤ d → Fiber (factor_from c) e
  unfolding factor_rule factor_from
  factor_made (Number l) s h = let x = primary_made (Number l) refl h in (inl (x.0, None), x.1)
  factor_made (Text l) s h = let x = primary_made (Text l) refl h in (inl (x.0, None), x.1)
  factor_made (Name l) s h = let x = primary_made (Name l) refl h in (inl (x.0, None), x.1)
  factor_made (Longer e p) s h = let x = primary_made (Longer e p) (part_low p) h in (inl (x.0, None), x.1)
  factor_made (Prefixed (Signed g) e) s h = absurd (cc)
  factor_made (Prefixed (Absolute l) e) s h = let p = in_place PrimaryLevel e h in let x = primary_made e p.0 p.1 in (inr (inl (l, x.0)), λ i. Prefixed (Absolute l) (x.1 i))
  factor_made (Prefixed (Negation l) e) s h = let p = in_place PrimaryLevel e h in let x = primary_made e p.0 p.1 in (inr (inr (l, x.0)), λ i. Prefixed (Negation l) (x.1 i))
  factor_made (Infix e (Logical o) f) s h = absurd (cc)
  factor_made (Infix e (Relational o) f) s h = absurd (cc)
  factor_made (Infix e (Adding o) f) s h = absurd (cc)
  factor_made (Infix e (Multiplying o) f) s h = absurd (cc)
  factor_made (Infix e Power f) s h =
      let p = in_place PrimaryLevel e (omega (arith, h)) in
      let q = in_place PrimaryLevel f (omega (arith, h)) in
      let x = primary_made e p.0 p.1 in
      let y = primary_made f q.0 q.1 in
      (inl (x.0, Some (tt, y.0)), λ i. Infix (x.1 i) Power (y.1 i))
  factor_made (InMark e n f) s h = absurd (cc)
  factor_made (InRange e n f g) s h = absurd (cc)
  factor_made (Group g) s h = let x = primary_made (Group g) refl h in (inl (x.0, None), x.1)

  multiplying_made : (o : MultiplyingOperator) → Fiber (multiplying_from c) o
  unfolding multiplying_rule multiplying_from
  multiplying_made TimesOperator = (inl tt, refl)
  multiplying_made DivideOperator = (inr (inl tt), refl)
  multiplying_made ModOperator = (inr (inr (inl tt)), refl)
  multiplying_made RemOperator = (inr (inr (inr tt)), refl)

  multiplied_snoc : (e : ExpressionTree) (fs : List (Of c (multiplying_rule ⨾ factor_rule))) (p : Of c multiplying_rule) (f : Of c factor_rule) → multiplied_from c e (fs ++ (p, f) ∷ []) ≡ Infix (multiplied_from c e fs) (Multiplying (multiplying_from c p)) (factor_from c f)
  unfolding multiplied_from
  multiplied_snoc e [] p f = refl
  multiplied_snoc e ((q, g) ∷ fs) p f = multiplied_snoc (Infix e (Multiplying (multiplying_from c q)) (factor_from c g)) fs p f

  term_made : (e : ExpressionTree) → stands TermLevel e ≡ true → expression_nesting w e ≤ d → Fiber (term_from c) e
  unfolding term_rule term_from multiplied_from
  term_made (Number l) s h = let x = factor_made (Number l) refl h in ((x.0, []), x.1)
  term_made (Text l) s h = let x = factor_made (Text l) refl h in ((x.0, []), x.1)
  term_made (Name l) s h = let x = factor_made (Name l) refl h in ((x.0, []), x.1)
  term_made (Longer e p) s h = let x = factor_made (Longer e p) (primary_is_factor (Longer e p) (part_low p)) h in ((x.0, []), x.1)
  term_made (Prefixed (Signed g) e) s h = absurd (cc)
  term_made (Prefixed (Absolute l) e) s h = let x = factor_made (Prefixed (Absolute l) e) refl h in ((x.0, []), x.1)
  term_made (Prefixed (Negation l) e) s h = let x = factor_made (Prefixed (Negation l) e) refl h in ((x.0, []), x.1)
  term_made (Infix e (Logical o) f) s h = absurd (cc)
  term_made (Infix e (Relational o) f) s h = absurd (cc)
  term_made (Infix e (Adding o) f) s h = absurd (cc)
  term_made (Infix e (Multiplying o) f) s h =
      let p = in_place TermLevel e (omega (arith, h)) in
      let q = in_place FactorLevel f (omega (arith, h)) in
      let x = term_made e p.0 p.1 in
      let y = multiplying_made o in
      let z = factor_made f q.0 q.1 in
      ((x.0.0, x.0.1 ++ (y.0, z.0) ∷ []), multiplied_snoc (factor_from c x.0.0) x.0.1 y.0 z.0 ∙ λ i. Infix (x.1 i) (Multiplying (y.1 i)) (z.1 i))
  term_made (Infix e Power f) s h = let x = factor_made (Infix e Power f) refl h in ((x.0, []), x.1)
  term_made (InMark e n f) s h = absurd (cc)
  term_made (InRange e n f g) s h = absurd (cc)
  term_made (Group g) s h = let x = factor_made (Group g) refl h in ((x.0, []), x.1)

  adding_made : (o : AddingOperator) → Fiber (adding_from c) o
  unfolding adding_rule adding_from
  adding_made (PlusOperator l) = (inl l, refl)
  adding_made (MinusOperator l) = (inr (inl l), refl)
  adding_made ConcatenationOperator = (inr (inr tt), refl)

  added_snoc : (e : ExpressionTree) (ts : List (Of c (adding_rule ⨾ term_rule))) (p : Of c adding_rule) (t : Of c term_rule) → added_from c e (ts ++ (p, t) ∷ []) ≡ Infix (added_from c e ts) (Adding (adding_from c p)) (term_from c t)
  unfolding added_from
  added_snoc e [] p t = refl
  added_snoc e ((q, u) ∷ ts) p t = added_snoc (Infix e (Adding (adding_from c q)) (term_from c u)) ts p t

  signed_made : (g : Sign) (e : ExpressionTree) → stands TermLevel e ≡ true → expression_nesting w e ≤ d → Fiber (simple_from c) (Prefixed (Signed g) e)
  unfolding simple_expression_rule simple_from signed_from added_from
  signed_made (PlusSign l) e s h = let x = term_made e s h in ((Some (inl l), (x.0, [])), λ i. Prefixed (Signed (PlusSign l)) (x.1 i))
  signed_made (MinusSign l) e s h = let x = term_made e s h in ((Some (inr l), (x.0, [])), λ i. Prefixed (Signed (MinusSign l)) (x.1 i))

  plain_simple_made : (e : ExpressionTree) → stands SimpleLevel e ≡ true → expression_nesting w e ≤ d → Fiber (simple_from c) e
  unfolding simple_expression_rule simple_from signed_from added_from
  plain_simple_made (Number l) s h = let x = term_made (Number l) refl h in ((None, (x.0, [])), x.1)
  plain_simple_made (Text l) s h = let x = term_made (Text l) refl h in ((None, (x.0, [])), x.1)
  plain_simple_made (Name l) s h = let x = term_made (Name l) refl h in ((None, (x.0, [])), x.1)
  plain_simple_made (Longer e p) s h = let x = term_made (Longer e p) (factor_is_term (Longer e p) (primary_is_factor (Longer e p) (part_low p))) h in ((None, (x.0, [])), x.1)
  plain_simple_made (Prefixed (Signed g) e) s h = let p = in_place TermLevel e h in signed_made g e p.0 p.1
  plain_simple_made (Prefixed (Absolute l) e) s h = let x = term_made (Prefixed (Absolute l) e) refl h in ((None, (x.0, [])), x.1)
  plain_simple_made (Prefixed (Negation l) e) s h = let x = term_made (Prefixed (Negation l) e) refl h in ((None, (x.0, [])), x.1)
  plain_simple_made (Infix e (Logical o) f) s h = absurd (cc)
  plain_simple_made (Infix e (Relational o) f) s h = absurd (cc)
  plain_simple_made (Infix e (Adding o) f) s h =
      let p = in_place SimpleLevel e (omega (arith, h)) in
      let q = in_place TermLevel f (omega (arith, h)) in
      let x = plain_simple_made e p.0 p.1 in
      let y = adding_made o in
      let z = term_made f q.0 q.1 in
      ((x.0.0, (x.0.1.0, x.0.1.1 ++ (y.0, z.0) ∷ [])), added_snoc (signed_from c x.0.0 (term_from c x.0.1.0)) x.0.1.1 y.0 z.0 ∙ λ i. Infix (x.1 i) (Adding (y.1 i)) (z.1 i))
  plain_simple_made (Infix e (Multiplying o) f) s h = let x = term_made (Infix e (Multiplying o) f) refl h in ((None, (x.0, [])), x.1)
  plain_simple_made (Infix e Power f) s h = let x = term_made (Infix e Power f) refl h in ((None, (x.0, [])), x.1)
  plain_simple_made (InMark e n f) s h = absurd (cc)
  plain_simple_made (InRange e n f g) s h = absurd (cc)
  plain_simple_made (Group g) s h = let x = term_made (Group g) refl h in ((None, (x.0, [])), x.1)

  pub simple_made : (e : ExpressionTree) → simple_nesting w e ≤ d → Fiber (simple_from c) e
  simple_made e h = let p = in_place SimpleLevel e h in plain_simple_made e p.0 p.1

  relational_made : (o : RelationalOperator) → Fiber (relational_from c) o
  unfolding relational_rule relational_from
  relational_made EqualOperator = (inl tt, refl)
  relational_made NotEqualOperator = (inr (inl tt), refl)
  relational_made LessOperator = (inr (inr (inl tt)), refl)
  relational_made LessOrEqualOperator = (inr (inr (inr (inl tt))), refl)
  relational_made GreaterOperator = (inr (inr (inr (inr (inl tt)))), refl)
  relational_made GreaterOrEqualOperator = (inr (inr (inr (inr (inr tt)))), refl)

  relation_made : (e : ExpressionTree) → stands RelationLevel e ≡ true → expression_nesting w e ≤ d → Fiber (relation_from c) e
  unfolding relation_rule membership_rule relation_from
  relation_made (Number l) s h = let x = plain_simple_made (Number l) refl h in ((x.0, None), x.1)
  relation_made (Text l) s h = let x = plain_simple_made (Text l) refl h in ((x.0, None), x.1)
  relation_made (Name l) s h = let x = plain_simple_made (Name l) refl h in ((x.0, None), x.1)
  relation_made (Longer e p) s h = let x = plain_simple_made (Longer e p) (term_is_simple (Longer e p) (factor_is_term (Longer e p) (primary_is_factor (Longer e p) (part_low p)))) h in ((x.0, None), x.1)
  relation_made (Prefixed (Signed g) e) s h = let x = plain_simple_made (Prefixed (Signed g) e) refl h in ((x.0, None), x.1)
  relation_made (Prefixed (Absolute l) e) s h = let x = plain_simple_made (Prefixed (Absolute l) e) refl h in ((x.0, None), x.1)
  relation_made (Prefixed (Negation l) e) s h = let x = plain_simple_made (Prefixed (Negation l) e) refl h in ((x.0, None), x.1)
  relation_made (Infix e (Logical o) f) s h = absurd (cc)
  relation_made (Infix e (Relational o) f) s h =
      let x = simple_made e (omega (arith, h)) in
      let p = relational_made o in
      let y = simple_made f (omega (arith, h)) in
      ((x.0, Some (inl (p.0, y.0))), λ i. Infix (x.1 i) (Relational (p.1 i)) (y.1 i))
  relation_made (Infix e (Adding o) f) s h = let x = plain_simple_made (Infix e (Adding o) f) refl h in ((x.0, None), x.1)
  relation_made (Infix e (Multiplying o) f) s h = let x = plain_simple_made (Infix e (Multiplying o) f) refl h in ((x.0, None), x.1)
  relation_made (Infix e Power f) s h = let x = plain_simple_made (Infix e Power f) refl h in ((x.0, None), x.1)
  relation_made (InMark e n f) s h =
      let x = simple_made e (omega (arith, h)) in
      let y = simple_made f (omega (arith, h)) in
      ((x.0, Some (inr (n, (tt, (y.0, None))))), λ i. InMark (x.1 i) n (y.1 i))
  relation_made (InRange e n f g) s h =
      let x = simple_made e (omega (arith, h)) in
      let y = simple_made f (omega (arith, h)) in
      let z = simple_made g (omega (arith, h)) in
      ((x.0, Some (inr (n, (tt, (y.0, Some (tt, z.0)))))), λ i. InRange (x.1 i) n (y.1 i) (z.1 i))
  relation_made (Group g) s h = let x = plain_simple_made (Group g) refl h in ((x.0, None), x.1)

  -- ---- relations joined by one operator

  joined : LogicalOperator → ExpressionTree → List (Of c relation_rule) → ExpressionTree
  joined o e [] = e
  joined o e (r ∷ rs) = joined o (Infix e (Logical o) (relation_from c r)) rs

  joined_snoc : (o : LogicalOperator) (e : ExpressionTree) (rs : List (Of c relation_rule)) (r : Of c relation_rule) → joined o e (rs ++ r ∷ []) ≡ Infix (joined o e rs) (Logical o) (relation_from c r)
  unfolding joined
  joined_snoc o e [] r = refl
  joined_snoc o e (t ∷ rs) r = joined_snoc o (Infix e (Logical o) (relation_from c t)) rs r

  abbrev ChainOf : LogicalOperator → ExpressionTree → ExpressionTree → Type 0
  ChainOf o e f = (x : Of c relation_rule) × (y : Of c relation_rule) × (rs : List (Of c relation_rule)) × (joined o (Infix (relation_from c x) (Logical o) (relation_from c y)) rs ≡ Infix e (Logical o) f)

  two_relations : (o : LogicalOperator) (e f : ExpressionTree) → Fiber (relation_from c) e → Fiber (relation_from c) f → ChainOf o e f
  unfolding joined
  two_relations o e f x y = (x.0, y.0, [], λ i. Infix (x.1 i) (Logical o) (y.1 i))

  one_relation_more : (o : LogicalOperator) (e f g : ExpressionTree) → ChainOf o e f → Fiber (relation_from c) g → ChainOf o (Infix e (Logical o) f) g
  one_relation_more o e f g z y = (z.0, z.1, z.2 ++ y.0 ∷ [], joined_snoc o (Infix (relation_from c z.0) (Logical o) (relation_from c z.1)) z.2 y.0 ∙ λ i. Infix (z.3 i) (Logical o) (y.1 i))

  logical_made : (o : LogicalOperator) (e g : ExpressionTree) → stands (ChainLevel o) e ≡ true → expression_nesting w e ≤ d → Fiber (relation_from c) g → ChainOf o e g
  logical_made o (Number l) g s h y = two_relations o (Number l) g (relation_made (Number l) refl h) y
  logical_made o (Text l) g s h y = two_relations o (Text l) g (relation_made (Text l) refl h) y
  logical_made o (Name l) g s h y = two_relations o (Name l) g (relation_made (Name l) refl h) y
  logical_made o (Longer e p) g s h y = two_relations o (Longer e p) g (relation_made (Longer e p) (simple_is_relation (Longer e p) (term_is_simple (Longer e p) (factor_is_term (Longer e p) (primary_is_factor (Longer e p) (part_low p))))) h) y
  logical_made o (Prefixed (Signed a) e) g s h y = two_relations o (Prefixed (Signed a) e) g (relation_made (Prefixed (Signed a) e) refl h) y
  logical_made o (Prefixed (Absolute l) e) g s h y = two_relations o (Prefixed (Absolute l) e) g (relation_made (Prefixed (Absolute l) e) refl h) y
  logical_made o (Prefixed (Negation l) e) g s h y = two_relations o (Prefixed (Negation l) e) g (relation_made (Prefixed (Negation l) e) refl h) y
  logical_made o (Infix e (Relational b) f) g s h y = two_relations o (Infix e (Relational b) f) g (relation_made (Infix e (Relational b) f) refl h) y
  logical_made o (Infix e (Adding b) f) g s h y = two_relations o (Infix e (Adding b) f) g (relation_made (Infix e (Adding b) f) refl h) y
  logical_made o (Infix e (Multiplying b) f) g s h y = two_relations o (Infix e (Multiplying b) f) g (relation_made (Infix e (Multiplying b) f) refl h) y
  logical_made o (Infix e Power f) g s h y = two_relations o (Infix e Power f) g (relation_made (Infix e Power f) refl h) y
  logical_made o (InMark e n f) g s h y = two_relations o (InMark e n f) g (relation_made (InMark e n f) refl h) y
  logical_made o (InRange e n f a) g s h y = two_relations o (InRange e n f a) g (relation_made (InRange e n f a) refl h) y
  logical_made o (Group a) g s h y = two_relations o (Group a) g (relation_made (Group a) refl h) y
  logical_made AndOperator (Infix e (Logical AndOperator) f) g s h y =
      let p = in_place (ChainLevel AndOperator) e (omega (arith, h)) in
      let q = in_place RelationLevel f (omega (arith, h)) in
      one_relation_more AndOperator e f g (logical_made AndOperator e f p.0 p.1 (relation_made f q.0 q.1)) y
  logical_made AndOperator (Infix e (Logical AndThenOperator) f) g s h y = absurd (cc)
  logical_made AndOperator (Infix e (Logical OrOperator) f) g s h y = absurd (cc)
  logical_made AndOperator (Infix e (Logical OrElseOperator) f) g s h y = absurd (cc)
  logical_made AndOperator (Infix e (Logical XorOperator) f) g s h y = absurd (cc)
  logical_made AndThenOperator (Infix e (Logical AndOperator) f) g s h y = absurd (cc)
  logical_made AndThenOperator (Infix e (Logical AndThenOperator) f) g s h y =
      let p = in_place (ChainLevel AndThenOperator) e (omega (arith, h)) in
      let q = in_place RelationLevel f (omega (arith, h)) in
      one_relation_more AndThenOperator e f g (logical_made AndThenOperator e f p.0 p.1 (relation_made f q.0 q.1)) y
  logical_made AndThenOperator (Infix e (Logical OrOperator) f) g s h y = absurd (cc)
  logical_made AndThenOperator (Infix e (Logical OrElseOperator) f) g s h y = absurd (cc)
  logical_made AndThenOperator (Infix e (Logical XorOperator) f) g s h y = absurd (cc)
  logical_made OrOperator (Infix e (Logical AndOperator) f) g s h y = absurd (cc)
  logical_made OrOperator (Infix e (Logical AndThenOperator) f) g s h y = absurd (cc)
  logical_made OrOperator (Infix e (Logical OrOperator) f) g s h y =
      let p = in_place (ChainLevel OrOperator) e (omega (arith, h)) in
      let q = in_place RelationLevel f (omega (arith, h)) in
      one_relation_more OrOperator e f g (logical_made OrOperator e f p.0 p.1 (relation_made f q.0 q.1)) y
  logical_made OrOperator (Infix e (Logical OrElseOperator) f) g s h y = absurd (cc)
  logical_made OrOperator (Infix e (Logical XorOperator) f) g s h y = absurd (cc)
  logical_made OrElseOperator (Infix e (Logical AndOperator) f) g s h y = absurd (cc)
  logical_made OrElseOperator (Infix e (Logical AndThenOperator) f) g s h y = absurd (cc)
  logical_made OrElseOperator (Infix e (Logical OrOperator) f) g s h y = absurd (cc)
  logical_made OrElseOperator (Infix e (Logical OrElseOperator) f) g s h y =
      let p = in_place (ChainLevel OrElseOperator) e (omega (arith, h)) in
      let q = in_place RelationLevel f (omega (arith, h)) in
      one_relation_more OrElseOperator e f g (logical_made OrElseOperator e f p.0 p.1 (relation_made f q.0 q.1)) y
  logical_made OrElseOperator (Infix e (Logical XorOperator) f) g s h y = absurd (cc)
  logical_made XorOperator (Infix e (Logical AndOperator) f) g s h y = absurd (cc)
  logical_made XorOperator (Infix e (Logical AndThenOperator) f) g s h y = absurd (cc)
  logical_made XorOperator (Infix e (Logical OrOperator) f) g s h y = absurd (cc)
  logical_made XorOperator (Infix e (Logical OrElseOperator) f) g s h y = absurd (cc)
  logical_made XorOperator (Infix e (Logical XorOperator) f) g s h y =
      let p = in_place (ChainLevel XorOperator) e (omega (arith, h)) in
      let q = in_place RelationLevel f (omega (arith, h)) in
      one_relation_more XorOperator e f g (logical_made XorOperator e f p.0 p.1 (relation_made f q.0 q.1)) y

  marked_once : {A : Type 0} → List A → List (Unit {0} × A)
  marked_once [] = []
  marked_once (x ∷ xs) = (tt, x) ∷ marked_once xs

  marked_twice : {A : Type 0} → List A → List (Unit {0} × (Unit {0} × A))
  marked_twice [] = []
  marked_twice (x ∷ xs) = (tt, (tt, x)) ∷ marked_twice xs

  joined_once : (o : LogicalOperator) (e : ExpressionTree) (rs : List (Of c relation_rule)) → relations_from c o e (marked_once rs) ≡ joined o e rs
  unfolding relations_from joined marked_once
  joined_once o e [] = refl
  joined_once o e (r ∷ rs) = joined_once o (Infix e (Logical o) (relation_from c r)) rs

  joined_twice : (o : LogicalOperator) (e : ExpressionTree) (rs : List (Of c relation_rule)) → short_relations_from c o e (marked_twice rs) ≡ joined o e rs
  unfolding short_relations_from joined marked_twice
  joined_twice o e [] = refl
  joined_twice o e (r ∷ rs) = joined_twice o (Infix e (Logical o) (relation_from c r)) rs

  chain_made : (o : LogicalOperator) (e f : ExpressionTree) → ChainOf o e f → Fiber (expression_from c) (Infix e (Logical o) f)
  unfolding expression_rule and_rule or_rule xor_rule expression_from and_from or_from xor_from
  chain_made AndOperator e f z = ((z.0, Some (inl (tt, inl (z.1, marked_once z.2)))), joined_once AndOperator (Infix (relation_from c z.0) (Logical AndOperator) (relation_from c z.1)) z.2 ∙ z.3)
  chain_made AndThenOperator e f z = ((z.0, Some (inl (tt, inr (tt, (z.1, marked_twice z.2))))), joined_twice AndThenOperator (Infix (relation_from c z.0) (Logical AndThenOperator) (relation_from c z.1)) z.2 ∙ z.3)
  chain_made OrOperator e f z = ((z.0, Some (inr (inl (tt, inl (z.1, marked_once z.2))))), joined_once OrOperator (Infix (relation_from c z.0) (Logical OrOperator) (relation_from c z.1)) z.2 ∙ z.3)
  chain_made OrElseOperator e f z = ((z.0, Some (inr (inl (tt, inr (tt, (z.1, marked_twice z.2)))))), joined_twice OrElseOperator (Infix (relation_from c z.0) (Logical OrElseOperator) (relation_from c z.1)) z.2 ∙ z.3)
  chain_made XorOperator e f z = ((z.0, Some (inr (inr (tt, (z.1, marked_once z.2))))), joined_once XorOperator (Infix (relation_from c z.0) (Logical XorOperator) (relation_from c z.1)) z.2 ∙ z.3)

  pub expression_made : (e : ExpressionTree) → expression_nesting w e ≤ d → Fiber (expression_from c) e
  unfolding expression_rule expression_from
  expression_made (Infix e (Logical o) f) h =
      let p = in_place (ChainLevel o) e (omega (arith, h)) in
      let q = in_place RelationLevel f (omega (arith, h)) in
      chain_made o e f (logical_made o e f p.0 p.1 (relation_made f q.0 q.1))
  expression_made (Number l) h = let x = relation_made (Number l) refl h in ((x.0, None), x.1)
  expression_made (Text l) h = let x = relation_made (Text l) refl h in ((x.0, None), x.1)
  expression_made (Name l) h = let x = relation_made (Name l) refl h in ((x.0, None), x.1)
  expression_made (Longer e p) h = let x = relation_made (Longer e p) (simple_is_relation (Longer e p) (term_is_simple (Longer e p) (factor_is_term (Longer e p) (primary_is_factor (Longer e p) (part_low p))))) h in ((x.0, None), x.1)
  expression_made (Prefixed (Signed g) e) h = let x = relation_made (Prefixed (Signed g) e) refl h in ((x.0, None), x.1)
  expression_made (Prefixed (Absolute l) e) h = let x = relation_made (Prefixed (Absolute l) e) refl h in ((x.0, None), x.1)
  expression_made (Prefixed (Negation l) e) h = let x = relation_made (Prefixed (Negation l) e) refl h in ((x.0, None), x.1)
  expression_made (Infix e (Relational o) f) h = let x = relation_made (Infix e (Relational o) f) refl h in ((x.0, None), x.1)
  expression_made (Infix e (Adding o) f) h = let x = relation_made (Infix e (Adding o) f) refl h in ((x.0, None), x.1)
  expression_made (Infix e (Multiplying o) f) h = let x = relation_made (Infix e (Multiplying o) f) refl h in ((x.0, None), x.1)
  expression_made (Infix e Power f) h = let x = relation_made (Infix e Power f) refl h in ((x.0, None), x.1)
  expression_made (InMark e n f) h = let x = relation_made (InMark e n f) refl h in ((x.0, None), x.1)
  expression_made (InRange e n f g) h = let x = relation_made (InRange e n f g) refl h in ((x.0, None), x.1)
  expression_made (Group g) h = let x = relation_made (Group g) refl h in ((x.0, None), x.1)

  expressions_made : (es : ExpressionsTree) → expressions_nesting w es ≤ d → Fiber (expressions_from c) es
  unfolding expressions_from
  expressions_made NoExpression h = ([], refl)
  expressions_made (MoreExpressions e es) h =
      let x = expression_made e (omega arith) in
      let y = expressions_made es (omega arith) in
      ((tt, x.0) ∷ y.0, λ i. MoreExpressions (x.1 i) (y.1 i))

  pub parentheses_inside_made : IsMade w InParentheses (Of c (inside InParentheses)) (parentheses_inside c) (suc d)
  unfolding inside expressions_rule parentheses_inside
  parentheses_inside_made (Positional l e es) h =
      let x = expression_made e (omega arith) in
      let y = expressions_made es (omega arith) in
      (l, (inl (x.0, y.0), tt), λ i. Positional l (x.1 i) (y.1 i))
  parentheses_inside_made (OthersAggregate l e) h = let x = expression_made e (omega arith) in (l, (inr (tt, (tt, x.0)), tt), λ i. OthersAggregate l (x.1 i))

  pub arguments_inside_made : IsMade w InArguments (Of c (inside InArguments)) (arguments_inside c) (suc d)
  unfolding inside expressions_rule arguments_inside
  arguments_inside_made l e es h =
      let x = expression_made e (omega arith) in
      let y = expressions_made es (omega arith) in
      (((x.0, y.0), tt), λ i. Arguments l (x.1 i) (y.1 i))

  -- ---- the name that a statement begins with

  abbrev RestItem : Type 0
  RestItem = Of c (the Dot ⨾ identifier_rule ∣ opens_at LeftParenthesis InArguments ∣ the Apostrophe ⨾ designator_rule)

  item_from : RestItem → PartTree
  unfolding identifier_rule construct_at
  item_from (inl (dot, l)) = Selector l
  item_from (inr (inl (l, x))) = c.from (place InArguments) x l
  item_from (inr (inr (apostrophe, a))) = designator_from c a

  rest_of : ExpressionTree → List RestItem → ExpressionTree
  unfolding name_rest_rule
  rest_of e xs = name_rest_from c e xs

  rest_snoc : (e : ExpressionTree) (xs : List RestItem) (x : RestItem) → rest_of e (xs ++ x ∷ []) ≡ Longer (rest_of e xs) (item_from x)
  unfolding name_rest_rule identifier_rule name_rest_from rest_of item_from construct_at
  rest_snoc e [] (inl (dot, l)) = refl
  rest_snoc e [] (inr (inl (l, x))) = refl
  rest_snoc e [] (inr (inr (apostrophe, a))) = refl
  rest_snoc e (inl (dot, k) ∷ xs) x = rest_snoc (Longer e (Selector k)) xs x
  rest_snoc e (inr (inl (k, z)) ∷ xs) x = rest_snoc (Longer e (c.from (place InArguments) z k)) xs x
  rest_snoc e (inr (inr (apostrophe, a)) ∷ xs) x = rest_snoc (Longer e (designator_from c a)) xs x

  abbrev RestOf : ExpressionTree → Type 0
  RestOf e = (l : Label) × (xs : List RestItem) × (rest_of (Name l) xs ≡ e)

  with_item : (e : ExpressionTree) (p : PartTree) → RestOf e → Fiber item_from p → RestOf (Longer e p)
  with_item e p z x = (z.0, z.1 ++ x.0 ∷ [], rest_snoc (Name z.0) z.1 x.0 ∙ λ i. Longer (z.2 i) (x.1 i))

  item_made : (l : Label) (e : ExpressionTree) (es : ExpressionsTree) → part_nesting w (Arguments l e es) ≤ d → Fiber item_from (Arguments l e es)
  unfolding item_from construct_at
  item_made l e es h = let a = m.made (place InArguments) l e es h in (inr (inl (l, a.0)), a.1)

  plain_rest_made : (e : ExpressionTree) → stands NameLevel e ≡ true → expression_nesting w e ≤ d → RestOf e
  unfolding name_rest_rule identifier_rule designator_rule name_rest_from designator_from rest_of item_from construct_at
  plain_rest_made (Name l) s h = (l, [], refl)
  plain_rest_made (Longer e (Selector k)) s h = let p = in_place NameLevel e (omega (arith, h)) in with_item e (Selector k) (plain_rest_made e p.0 p.1) (inl (tt, k), refl)
  plain_rest_made (Longer e (Arguments k f es)) s h = let p = in_place NameLevel e (omega (arith, h)) in with_item e (Arguments k f es) (plain_rest_made e p.0 p.1) (item_made k f es (omega (arith, h)))
  plain_rest_made (Longer e (Attribute k)) s h = let p = in_place NameLevel e (omega (arith, h)) in with_item e (Attribute k) (plain_rest_made e p.0 p.1) (inr (inr (tt, inl k)), refl)
  plain_rest_made (Longer e RangeAttribute) s h = let p = in_place NameLevel e (omega (arith, h)) in with_item e RangeAttribute (plain_rest_made e p.0 p.1) (inr (inr (tt, inr tt)), refl)
  plain_rest_made (Longer e (Operand g)) s h = absurd (cc)
  plain_rest_made (Number l) s h = absurd (cc)
  plain_rest_made (Text l) s h = absurd (cc)
  plain_rest_made (Prefixed (Signed g) e) s h = absurd (cc)
  plain_rest_made (Prefixed (Absolute l) e) s h = absurd (cc)
  plain_rest_made (Prefixed (Negation l) e) s h = absurd (cc)
  plain_rest_made (Infix e (Logical o) f) s h = absurd (cc)
  plain_rest_made (Infix e (Relational o) f) s h = absurd (cc)
  plain_rest_made (Infix e (Adding o) f) s h = absurd (cc)
  plain_rest_made (Infix e (Multiplying o) f) s h = absurd (cc)
  plain_rest_made (Infix e Power f) s h = absurd (cc)
  plain_rest_made (InMark e n f) s h = absurd (cc)
  plain_rest_made (InRange e n f g) s h = absurd (cc)
  plain_rest_made (Group g) s h = absurd (cc)

  pub name_rest_made : (e : ExpressionTree) → name_nesting w e ≤ d → (l : Label) × (xs : Of c name_rest_rule) × (name_rest_from c (Name l) xs ≡ e)
  unfolding name_rest_rule rest_of
  name_rest_made e h = let p = in_place NameLevel e h in plain_rest_made e p.0 p.1
