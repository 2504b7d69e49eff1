-- The trees that the grammar's trees stand for nest no deeper: names and expressions.
use Rattle.std.proofs.Common.{ap, leb, refl, true, ◌≡◌, List, None, Option, Some, [], arith, inl, inr, map, suc, ℕ, ◌∷◌, ◌≤◌}
use Rattle.std.specs.Prelude.{option_map}
use Rattle.std.proofs.Math.Nat.{max-le}
use Rattle.al_tree_grammar.specs.Grammar.{Label}
use Rattle.al_tree_grammar.specs.Grammar.Rule.{Many}
use Rattle.al_tree_syntax.specs.Constructs.Construct.{Arguments as InArguments, ArrayIndex as InArrayIndex, BodyOrStub as InBodyOrStub, CaseStatement as InCaseStatement, DeclareBlock as InDeclareBlock, EntryBody as InEntryBody, EnumerationLiterals as InEnumerationLiterals, ForLoop as InForLoop, FormalPart as InFormalPart, IfStatement as InIfStatement, PackageDeclaration as InPackageDeclaration, PackageUnit as InPackageUnit, ParentName as InParentName, Parentheses as InParentheses, PlainBlock as InPlainBlock, PlainLoop as InPlainLoop, PragmaArguments as InPragmaArguments, ProtectedDeclaration as InProtectedDeclaration, ProtectedUnit as InProtectedUnit, RecordDefinition as InRecordDefinition, SubprogramBody as InSubprogramBody, TaskBody as InTaskBody, WhileLoop as InWhileLoop}
use Rattle.al_tree_syntax.specs.Constructs.{Construct, construct_at, place}
use Rattle.al_tree_syntax.specs.Notation.{the, ◌⨾◌}
use Rattle.al_tree_syntax.specs.Expressions.{adding_rule, and_rule, designator_rule, expression_rule, expressions_rule, factor_rule, membership_rule, multiplying_rule, name_rest_rule, name_rule, or_rule, parentheses_rule, primary_rule, relation_rule, selection_rule, simple_expression_rule, term_rule, xor_rule}
use Rattle.al_tree_syntax.specs.Rules.{inside}
use Rattle.al_tree_syntax.specs.ExpressionTrees.{ExpressionTree, Level, LogicalOperator, LogicalOperator as operators, Operator, left_level, part_rank, right_level, stands}
use Rattle.al_tree_syntax.specs.ExpressionTrees.Level.{ChainLevel, NameLevel, PrimaryLevel, SimpleLevel, TermLevel}
use Rattle.al_tree_syntax.specs.ExpressionTrees.Operator.{Adding, Logical, Multiplying}
use Rattle.al_tree_syntax.specs.ExpressionTrees.ExpressionTree.{Infix, Longer, Name}
use Rattle.al_tree_syntax.specs.ExpressionTrees.PartTree.{Selector}
use Rattle.al_tree_syntax.proofs.Standing.{attributes_stand, designated_stands, factor_is_term, factor_stands, nests_there, primary_stands, relation_in_chain, relation_stands, same, selections_stand, signed_stands, simple_stands, term_stands}
use Rattle.al_tree_syntax.specs.DeclarationTrees.{SpecificationTree}
use Rattle.al_tree_syntax.specs.Insides.{InsideTree, Nested, Of, each_from}
use Rattle.al_tree_syntax.specs.ExpressionsFrom.{added_from, adding_from, multiplying_from, and_from, arguments_inside, attributes_from, designator_from, expression_from, expressions_from, factor_from, multiplied_from, name_from, name_rest_from, or_from, parentheses_from, parentheses_inside, primary_from, relation_from, relations_from, selection_from, selections_from, short_relations_from, signed_from, simple_from, term_from, xor_from}
use Rattle.al_tree_syntax.specs.Nesting.{at_least, block_nesting, body_nesting, deepest, discrete_range_nesting, expression_nesting, expressions_nesting, group_nesting, handled_nesting, item_nesting, library_item_nesting, loop_nesting, name_nesting, nesting_at, operation_body_nesting, package_nesting, part_nesting, protected_nesting, simple_nesting, specification_nesting, statement_nesting, type_definition_nesting}
use Rattle.al_tree_syntax.specs.Notation.{any, ◌∣◌}
use Rattle.al_tree_grammar.specs.Grammar.Rule.{Opt}
use Rattle.al_tree_syntax.specs.Symbols.Symbol.{Comma as CommaWord, Minus as MinusWord, Plus as PlusWord}

-- The tree that an inside becomes nests at most d deep, its construct counted.
abbrev pub Fits : ℕ → (k : Construct) → InsideTree k → ℕ → Type 0
Fits w InParentheses t d = (l : Label) → group_nesting w (t l) ≤ d
Fits w InArguments t d = (l : Label) → (part_nesting w (t l) ≤ d) × (part_rank (t l) ≡ 0)
Fits w InPragmaArguments t d = 1 ≤ d
Fits w InParentName t d = 1 ≤ d
Fits w InFormalPart t d = 1 ≤ d
Fits w InEnumerationLiterals t d = 1 ≤ d
Fits w InArrayIndex t d = suc (discrete_range_nesting w t) ≤ d
Fits w InRecordDefinition t d = type_definition_nesting w t ≤ d
Fits w InProtectedDeclaration t d = protected_nesting w t ≤ d
Fits w InProtectedUnit t d = (l : Label) → item_nesting w (t l) ≤ d
Fits w InEntryBody t d = (l : Label) → operation_body_nesting w (t l) ≤ d
Fits w InTaskBody t d = suc (handled_nesting w t.handled) ≤ d
Fits w InSubprogramBody t d = body_nesting w t ≤ d
Fits w InBodyOrStub t d = (s : SpecificationTree) → specification_nesting w s ≤ d → item_nesting w (t s) ≤ d
Fits w InPackageDeclaration t d = package_nesting w t ≤ d
Fits w InPackageUnit t d = (l : Label) → library_item_nesting w (t l) ≤ d
Fits w InIfStatement t d = (l : Label) → statement_nesting w (t l) ≤ d
Fits w InCaseStatement t d = (l : Label) → statement_nesting w (t l) ≤ d
Fits w InWhileLoop t d = (l : Label) → loop_nesting w (t l) ≤ d
Fits w InForLoop t d = (l : Label) → loop_nesting w (t l) ≤ d
Fits w InPlainLoop t d = (l : Label) → loop_nesting w (t l) ≤ d
Fits w InDeclareBlock t d = (l : Label) → block_nesting w (t l) ≤ d
Fits w InPlainBlock t d = (l : Label) → block_nesting w (t l) ≤ d

-- of all constructs
abbrev pub AllFit : ℕ → Nested → ℕ → Type 0
AllFit w c d = (n : ℕ) (x : c.Tree n) → Fits w (construct_at n) (c.from n x) d

pub none_fits : (d : ℕ) → 0 ≤ d
none_fits d = omega arith

pub opened_fits : {n d : ℕ} → n ≤ d → suc n ≤ suc d
opened_fits h = omega arith

pub each_fits : {A B C : Type 0} (f : B → C) (n : C → ℕ) (d : ℕ) → ((x : B) → n (f x) ≤ d) → (xs : List (A × B)) → deepest n (each_from f xs) ≤ d
unfolding each_from
each_fits f n d g [] = none_fits d
each_fits f n d g ((a, x) ∷ xs) = max-le (g x) (each_fits f n d g xs)

pub map_fits : {A B : Type 0} (f : A → B) (n : B → ℕ) (d : ℕ) → ((x : A) → n (f x) ≤ d) → (xs : List A) → deepest n (map f xs) ≤ d
map_fits f n d g [] = none_fits d
map_fits f n d g (x ∷ xs) = max-le (g x) (map_fits f n d g xs)

pub maybe_fits : {A B : Type 0} (f : A → B) (n : B → ℕ) (d : ℕ) → ((x : A) → n (f x) ≤ d) → (o : Option A) → at_least n (option_map f o) ≤ d
maybe_fits f n d g None = none_fits d
maybe_fits f n d g (Some x) = g x

-- ---- names and expressions

module _ (w : ℕ) (c : Nested) (d : ℕ) (h : AllFit w c d) where
  selection_fits : (x : Of c selection_rule) → part_nesting w (selection_from c x) ≤ d
  unfolding selection_rule selection_from construct_at
  selection_fits (inl (dot, l)) = none_fits d
  selection_fits (inr (l, x)) = (h (place InArguments) x l).0

  selection_ranks : (x : Of c selection_rule) → part_rank (selection_from c x) ≡ 0
  unfolding selection_rule selection_from construct_at
  selection_ranks (inl (dot, l)) = refl
  selection_ranks (inr (l, x)) = (h (place InArguments) x l).1

  designator_fits : (x : Of c designator_rule) → part_nesting w (designator_from c x) ≤ d
  unfolding designator_rule designator_from
  designator_fits (inl l) = none_fits d
  designator_fits (inr range) = none_fits d

  -- in its place
  there : (k : Level) (e : ExpressionTree) → stands k e ≡ true → expression_nesting w e ≤ d → nesting_at w k e ≤ d
  there k e s f = let same_depth = nests_there w k e s in omega (arith, same_depth, f)

  selections_fit : (e : ExpressionTree) (xs : List (Of c selection_rule)) → stands NameLevel e ≡ true → expression_nesting w e ≤ d → expression_nesting w (selections_from c e xs) ≤ d
  unfolding selections_from
  selections_fit e [] s f = f
  selections_fit e (x ∷ xs) s f = selections_fit (Longer e (selection_from c x)) xs (ap (λ n. leb n 0) (selection_ranks x)) (max-le (there NameLevel e s f) (selection_fits x))

  attributes_fit : (e : ExpressionTree) (ys : List (Of c (designator_rule ⨾ Many selection_rule))) → stands NameLevel e ≡ true → expression_nesting w e ≤ d → expression_nesting w (attributes_from c e ys) ≤ d
  unfolding attributes_from
  attributes_fit e [] s f = f
  attributes_fit e ((x, xs) ∷ ys) s f =
      let g : ExpressionTree = Longer e (designator_from c x) in
      let j = designated_stands c selection_ranks e x in
      attributes_fit (selections_from c g xs) ys (selections_stand c selection_ranks g xs j) (selections_fit g xs j (max-le (there NameLevel e s f) (designator_fits x)))

  parentheses_fit : (x : Of c parentheses_rule) → group_nesting w (parentheses_from c x) ≤ d
  unfolding parentheses_rule parentheses_from construct_at
  parentheses_fit (l, x) = h (place InParentheses) x l

  whole_name_stands : (l : Label) (xs : List (Of c selection_rule)) (ys : List (Of c (designator_rule ⨾ Many selection_rule))) → stands NameLevel (attributes_from c (selections_from c (Name l) xs) ys) ≡ true
  whole_name_stands l xs ys = attributes_stand c selection_ranks (selections_from c (Name l) xs) ys (selections_stand c selection_ranks (Name l) xs refl)

  whole_name_fits : (l : Label) (xs : List (Of c selection_rule)) (ys : List (Of c (designator_rule ⨾ Many selection_rule))) → expression_nesting w (attributes_from c (selections_from c (Name l) xs) ys) ≤ d
  whole_name_fits l xs ys = attributes_fit (selections_from c (Name l) xs) ys (selections_stand c selection_ranks (Name l) xs refl) (selections_fit (Name l) xs refl (none_fits d))

  name_fits : (x : Of c name_rule) → expression_nesting w (name_from c x) ≤ d
  unfolding name_rule name_from
  name_fits (l, (xs, (ys, None))) = whole_name_fits l xs ys
  name_fits (l, (xs, (ys, Some p))) = max-le (there NameLevel (attributes_from c (selections_from c (Name l) xs) ys) (whole_name_stands l xs ys) (whole_name_fits l xs ys)) (parentheses_fit p)

  primary_fits : (x : Of c primary_rule) → expression_nesting w (primary_from c x) ≤ d
  unfolding primary_rule primary_from
  primary_fits (inl l) = none_fits d
  primary_fits (inr (inl l)) = none_fits d
  primary_fits (inr (inr (inl x))) = name_fits x
  primary_fits (inr (inr (inr p))) = parentheses_fit p

  primary_there : (x : Of c primary_rule) → nesting_at w PrimaryLevel (primary_from c x) ≤ d
  primary_there x = there PrimaryLevel (primary_from c x) (primary_stands c selection_ranks x) (primary_fits x)

  factor_fits : (x : Of c factor_rule) → expression_nesting w (factor_from c x) ≤ d
  unfolding factor_rule factor_from
  factor_fits (inl (p, None)) = primary_fits p
  factor_fits (inl (p, Some (power, q))) = max-le (primary_there p) (primary_there q)
  factor_fits (inr (inl (l, p))) = primary_there p
  factor_fits (inr (inr (l, p))) = primary_there p

  infix_fits : (e f : ExpressionTree) (o : Operator) → stands (left_level o) e ≡ true → expression_nesting w e ≤ d → stands (right_level o) f ≡ true → expression_nesting w f ≤ d → expression_nesting w (Infix e o f) ≤ d
  infix_fits e f o s j t k = max-le (there (left_level o) e s j) (there (right_level o) f t k)

  multiplied_fits : (e : ExpressionTree) (xs : List (Of c (multiplying_rule ⨾ factor_rule))) → stands TermLevel e ≡ true → expression_nesting w e ≤ d → expression_nesting w (multiplied_from c e xs) ≤ d
  unfolding multiplied_from
  multiplied_fits e [] s k = k
  multiplied_fits e ((o, f) ∷ fs) s k =
      multiplied_fits (Infix e (Multiplying (multiplying_from c o)) (factor_from c f)) fs refl (infix_fits e (factor_from c f) (Multiplying (multiplying_from c o)) s k (factor_stands c selection_ranks f) (factor_fits f))

  term_fits : (x : Of c term_rule) → expression_nesting w (term_from c x) ≤ d
  unfolding term_rule term_from
  term_fits (f, fs) = multiplied_fits (factor_from c f) fs (factor_is_term (factor_from c f) (factor_stands c selection_ranks f)) (factor_fits f)

  added_fits : (e : ExpressionTree) (xs : List (Of c (adding_rule ⨾ term_rule))) → stands SimpleLevel e ≡ true → expression_nesting w e ≤ d → expression_nesting w (added_from c e xs) ≤ d
  unfolding added_from
  added_fits e [] s k = k
  added_fits e ((o, t) ∷ ts) s k =
      added_fits (Infix e (Adding (adding_from c o)) (term_from c t)) ts refl (infix_fits e (term_from c t) (Adding (adding_from c o)) s k (term_stands c selection_ranks t) (term_fits t))

  signed_fits : (x : Of c (Opt (any PlusWord ∣ any MinusWord))) (e : ExpressionTree) → stands TermLevel e ≡ true → expression_nesting w e ≤ d → expression_nesting w (signed_from c x e) ≤ d
  unfolding signed_from
  signed_fits None e s k = k
  signed_fits (Some (inl l)) e s k = there TermLevel e s k
  signed_fits (Some (inr l)) e s k = there TermLevel e s k

  plain_simple_fits : (x : Of c simple_expression_rule) → expression_nesting w (simple_from c x) ≤ d
  unfolding simple_expression_rule simple_from
  plain_simple_fits (s, (t, ts)) =
      added_fits (signed_from c s (term_from c t)) ts (signed_stands c selection_ranks s (term_from c t) (term_stands c selection_ranks t)) (signed_fits s (term_from c t) (term_stands c selection_ranks t) (term_fits t))

  pub simple_fits : (x : Of c simple_expression_rule) → simple_nesting w (simple_from c x) ≤ d
  simple_fits x = there SimpleLevel (simple_from c x) (simple_stands c selection_ranks x) (plain_simple_fits x)

  relation_fits : (x : Of c relation_rule) → expression_nesting w (relation_from c x) ≤ d
  unfolding relation_rule membership_rule relation_from
  relation_fits (s, None) = plain_simple_fits s
  relation_fits (s, Some (inl (o, t))) = max-le (simple_fits s) (simple_fits t)
  relation_fits (s, Some (inr (n, (isin, (t, None))))) = max-le (simple_fits s) (simple_fits t)
  relation_fits (s, Some (inr (n, (isin, (t, Some (dots, u)))))) = max-le (simple_fits s) (max-le (simple_fits t) (simple_fits u))

  joined_fits : (o : LogicalOperator) (e : ExpressionTree) (r : Of c relation_rule) → stands (ChainLevel o) e ≡ true → expression_nesting w e ≤ d → expression_nesting w (Infix e (Logical o) (relation_from c r)) ≤ d
  joined_fits o e r s k = infix_fits e (relation_from c r) (Logical o) s k (relation_stands c selection_ranks r) (relation_fits r)

  two_fit : (o : LogicalOperator) (x y : Of c relation_rule) → expression_nesting w (Infix (relation_from c x) (Logical o) (relation_from c y)) ≤ d
  two_fit o x y = joined_fits o (relation_from c x) y (relation_in_chain o (relation_from c x) (relation_stands c selection_ranks x)) (relation_fits x)

  relations_fit : {A : Type 0} (o : LogicalOperator) (e : ExpressionTree) (xs : List (A × Of c relation_rule)) → stands (ChainLevel o) e ≡ true → expression_nesting w e ≤ d → expression_nesting w (relations_from c o e xs) ≤ d
  unfolding relations_from
  relations_fit o e [] s k = k
  relations_fit o e ((mark, r) ∷ rs) s k = relations_fit o (Infix e (Logical o) (relation_from c r)) rs (same o) (joined_fits o e r s k)

  short_relations_fit : {A B : Type 0} (o : LogicalOperator) (e : ExpressionTree) (xs : List (A × (B × Of c relation_rule))) → stands (ChainLevel o) e ≡ true → expression_nesting w e ≤ d → expression_nesting w (short_relations_from c o e xs) ≤ d
  unfolding short_relations_from
  short_relations_fit o e [] s k = k
  short_relations_fit o e ((mark, (second, r)) ∷ rs) s k = short_relations_fit o (Infix e (Logical o) (relation_from c r)) rs (same o) (joined_fits o e r s k)

  and_fits : (r : Of c relation_rule) (x : Of c and_rule) → expression_nesting w (and_from c (relation_from c r) x) ≤ d
  unfolding and_rule and_from
  and_fits r (inl (s, rs)) = relations_fit operators.AndOperator (Infix (relation_from c r) (Logical operators.AndOperator) (relation_from c s)) rs refl (two_fit operators.AndOperator r s)
  and_fits r (inr (o, (s, rs))) = short_relations_fit operators.AndThenOperator (Infix (relation_from c r) (Logical operators.AndThenOperator) (relation_from c s)) rs refl (two_fit operators.AndThenOperator r s)

  or_fits : (r : Of c relation_rule) (x : Of c or_rule) → expression_nesting w (or_from c (relation_from c r) x) ≤ d
  unfolding or_rule or_from
  or_fits r (inl (s, rs)) = relations_fit operators.OrOperator (Infix (relation_from c r) (Logical operators.OrOperator) (relation_from c s)) rs refl (two_fit operators.OrOperator r s)
  or_fits r (inr (o, (s, rs))) = short_relations_fit operators.OrElseOperator (Infix (relation_from c r) (Logical operators.OrElseOperator) (relation_from c s)) rs refl (two_fit operators.OrElseOperator r s)

  xor_fits : (r : Of c relation_rule) (x : Of c xor_rule) → expression_nesting w (xor_from c (relation_from c r) x) ≤ d
  unfolding xor_rule xor_from
  xor_fits r (s, rs) = relations_fit operators.XorOperator (Infix (relation_from c r) (Logical operators.XorOperator) (relation_from c s)) rs refl (two_fit operators.XorOperator r s)

  pub expression_fits : (x : Of c expression_rule) → expression_nesting w (expression_from c x) ≤ d
  unfolding expression_rule expression_from
  expression_fits (r, None) = relation_fits r
  expression_fits (r, Some (inl (o, x))) = and_fits r x
  expression_fits (r, Some (inr (inl (o, x)))) = or_fits r x
  expression_fits (r, Some (inr (inr (o, x)))) = xor_fits r x

  expressions_fit : (xs : List (Of c (the CommaWord ⨾ expression_rule))) → expressions_nesting w (expressions_from c xs) ≤ d
  unfolding expressions_from
  expressions_fit [] = none_fits d
  expressions_fit ((comma, e) ∷ es) = max-le (expression_fits e) (expressions_fit es)

  pub parentheses_inside_fits : (x : Of c (inside InParentheses)) → Fits w InParentheses (parentheses_inside c x) (suc d)
  unfolding inside expressions_rule parentheses_inside
  parentheses_inside_fits (inl (e, es), closing) = λ l. opened_fits (max-le (expression_fits e) (expressions_fit es))
  parentheses_inside_fits (inr (others, (arrow, e)), closing) = λ l. opened_fits (expression_fits e)

  pub arguments_inside_fits : (x : Of c (inside InArguments)) → Fits w InArguments (arguments_inside c x) (suc d)
  unfolding inside expressions_rule arguments_inside
  arguments_inside_fits ((e, es), closing) = λ l. (opened_fits (max-le (expression_fits e) (expressions_fit es)), refl)

  -- ---- the name that a statement begins with

  rest_stands : (e : ExpressionTree) (x : Of c name_rest_rule) → stands NameLevel e ≡ true → stands NameLevel (name_rest_from c e x) ≡ true
  unfolding name_rest_rule name_rest_from construct_at
  rest_stands e [] k = k
  rest_stands e (inl (dot, l) ∷ xs) k = rest_stands (Longer e (Selector l)) xs refl
  rest_stands e (inr (inl (l, x)) ∷ xs) k = rest_stands (Longer e (c.from (place InArguments) x l)) xs (ap (λ n. leb n 0) (h (place InArguments) x l).1)
  rest_stands e (inr (inr (apostrophe, a)) ∷ xs) k = rest_stands (Longer e (designator_from c a)) xs (designated_stands c selection_ranks e a)

  rest_fits : (e : ExpressionTree) (x : Of c name_rest_rule) → stands NameLevel e ≡ true → expression_nesting w e ≤ d → expression_nesting w (name_rest_from c e x) ≤ d
  unfolding name_rest_rule name_rest_from construct_at
  rest_fits e [] k f = f
  rest_fits e (inl (dot, l) ∷ xs) k f = rest_fits (Longer e (Selector l)) xs refl (max-le (there NameLevel e k f) (none_fits d))
  rest_fits e (inr (inl (l, x)) ∷ xs) k f = rest_fits (Longer e (c.from (place InArguments) x l)) xs (ap (λ n. leb n 0) (h (place InArguments) x l).1) (max-le (there NameLevel e k f) (h (place InArguments) x l).0)
  rest_fits e (inr (inr (apostrophe, a)) ∷ xs) k f = rest_fits (Longer e (designator_from c a)) xs (designated_stands c selection_ranks e a) (max-le (there NameLevel e k f) (designator_fits a))

  pub name_rest_fits : (l : Label) (x : Of c name_rest_rule) → name_nesting w (name_rest_from c (Name l) x) ≤ d
  name_rest_fits l x = there NameLevel (name_rest_from c (Name l) x) (rest_stands (Name l) x refl) (rest_fits (Name l) x refl (none_fits d))
