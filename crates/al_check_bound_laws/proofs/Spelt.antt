-- The names that a text asks for are spelt by its lexemes.
use Rattle.std.proofs.Common.{ℕ, Bool, true, false, List, Option, Some, None, codes}
use Rattle.al_tree_grammar.specs.Grammar.{Label, Lexeme}
use Rattle.al_tree_syntax.specs.Symbols.{Symbol as symbols}
use Rattle.al_tree_syntax.specs.Words.{labelled, word}
use Rattle.al_tree_syntax.specs.ExpressionTrees.{ExpressionTree, ExpressionTree as e, ExpressionsTree, ExpressionsTree as es, GroupTree, GroupTree as g, Level, PartTree, PartTree as part, expression_tokens, expressions_tokens, group_tokens, left_level, not_tokens, operand_level, operator_tokens, part_tokens, placed, prefix_tokens, right_level, stands, tokens_at}
use Rattle.al_tree_syntax.specs.ExpressionTrees.Level.{NameLevel, SimpleLevel}
use Rattle.al_tree_syntax.specs.ExpressionTrees.{Prefix, Prefix as prefix, Sign as sign, Operator, Operator as o, LogicalOperator as l, RelationalOperator as r, AddingOperator as a, MultiplyingOperator as m}
use Rattle.al_overload_lookup.specs.Keys.{key_of}
use Rattle.al_overload_lookup.specs.Lookups.{asked_name}
use Rattle.al_overload_lookup.specs.TextNames.{all_names, group_names, names_in, operator_sign, part_names, prefix_sign, sign_names}
use Rattle.al_overload_lookup.specs.declared.name.TextName.{TextName}
use Rattle.al_check_bound_laws.proofs.AllLemmas.{All, all-append, all-left, all-right}

-- what each lexeme spells may be asked for; no lexeme of a text is an identifier without a label
pub record Spells (Q : Lexeme → Type 0) (MayName : List ℕ → Type 0) : Type 0 where
  pub never : Q (word symbols.Identifier) → ⊥
  pub identifier : (x : Label) → Q (labelled symbols.Identifier x) → MayName x.text
  pub plus : (x : Label) → Q (labelled symbols.Plus x) → MayName (codes "+")
  pub minus : (x : Label) → Q (labelled symbols.Minus x) → MayName (codes "-")
  pub absolute : (x : Label) → Q (labelled symbols.Abs x) → MayName (codes "abs")
  pub negation : (x : Label) → Q (labelled symbols.Not x) → MayName (codes "not")
  pub and_word : Q (word symbols.And) → MayName (codes "and")
  pub or_word : Q (word symbols.Or) → MayName (codes "or")
  pub xor_word : Q (word symbols.Xor) → MayName (codes "xor")
  pub equal : Q (word symbols.Equal) → MayName (codes "=")
  pub not_equal : Q (word symbols.NotEqual) → MayName (codes "/=")
  pub less : Q (word symbols.Less) → MayName (codes "<")
  pub less_or_equal : Q (word symbols.LessOrEqual) → MayName (codes "<=")
  pub greater : Q (word symbols.Greater) → MayName (codes ">")
  pub greater_or_equal : Q (word symbols.GreaterOrEqual) → MayName (codes ">=")
  pub times : Q (word symbols.Asterisk) → MayName (codes "*")
  pub divide : Q (word symbols.Slash) → MayName (codes "/")
  pub modulo : Q (word symbols.Mod) → MayName (codes "mod")
  pub remainder : Q (word symbols.Rem) → MayName (codes "rem")
  pub power : Q (word symbols.DoubleAsterisk) → MayName (codes "**")

module _ (Q : Lexeme → Type 0) (MayName : List ℕ → Type 0) (spells : Spells Q MayName) where
  abbrev pub May : TextName → Type 0
  May x = MayName (asked_name x)

  -- an expression that stands where it may
  pub of-placed : (b : Bool) (xs : List Lexeme) → All Q (placed b xs) → All Q xs
  of-placed true xs k = k
  of-placed false xs k = absurd (spells.never k.0)

  prefix-may : (p : Prefix) → All Q (prefix_tokens p) → MayName (prefix_sign p)
  prefix-may (prefix.Signed (sign.PlusSign x)) k = spells.plus x k.0
  prefix-may (prefix.Signed (sign.MinusSign x)) k = spells.minus x k.0
  prefix-may (prefix.Absolute x) k = spells.absolute x k.0
  prefix-may (prefix.Negation x) k = spells.negation x k.0

  operator-may : (x : Operator) → All Q (operator_tokens x) → All May (sign_names (operator_sign x))
  operator-may (o.Logical l.AndOperator) k = (spells.and_word k.0, tt)
  operator-may (o.Logical l.AndThenOperator) k = tt
  operator-may (o.Logical l.OrOperator) k = (spells.or_word k.0, tt)
  operator-may (o.Logical l.OrElseOperator) k = tt
  operator-may (o.Logical l.XorOperator) k = (spells.xor_word k.0, tt)
  operator-may (o.Relational r.EqualOperator) k = (spells.equal k.0, tt)
  operator-may (o.Relational r.NotEqualOperator) k = (spells.not_equal k.0, tt)
  operator-may (o.Relational r.LessOperator) k = (spells.less k.0, tt)
  operator-may (o.Relational r.LessOrEqualOperator) k = (spells.less_or_equal k.0, tt)
  operator-may (o.Relational r.GreaterOperator) k = (spells.greater k.0, tt)
  operator-may (o.Relational r.GreaterOrEqualOperator) k = (spells.greater_or_equal k.0, tt)
  operator-may (o.Adding (a.PlusOperator x)) k = (spells.plus x k.0, tt)
  operator-may (o.Adding (a.MinusOperator x)) k = (spells.minus x k.0, tt)
  operator-may (o.Adding a.ConcatenationOperator) k = tt
  operator-may (o.Multiplying m.TimesOperator) k = (spells.times k.0, tt)
  operator-may (o.Multiplying m.DivideOperator) k = (spells.divide k.0, tt)
  operator-may (o.Multiplying m.ModOperator) k = (spells.modulo k.0, tt)
  operator-may (o.Multiplying m.RemOperator) k = (spells.remainder k.0, tt)
  operator-may o.Power k = (spells.power k.0, tt)

  mutual
    unfolding names_in part_names group_names all_names

    pub names-may : (x : ExpressionTree) → All Q (expression_tokens x) → All May (names_in x)
    names-may (e.Number x) k = tt
    names-may (e.Text x) k = tt
    names-may (e.Name x) k = (spells.identifier x k.0, tt)
    names-may (e.Longer before p) k =
        let b = placed (stands NameLevel before) (expression_tokens before) in
        all-append May (names_in before) (part_names (key_of before) p) (names-may before (of-placed (stands NameLevel before) (expression_tokens before) (all-left Q b (part_tokens p) k))) (part-may (key_of before) p (all-right Q b (part_tokens p) k))
    names-may (e.Prefixed p x) k =
        let b = prefix_tokens p in
        (prefix-may p (all-left Q b _ k), names-may x (of-placed (stands (operand_level p) x) (expression_tokens x) (all-right Q b _ k)))
    names-may (e.Infix x y z) k =
        let b = placed (stands (left_level y) x) (expression_tokens x) in
        let rest = all-right Q b _ k in
        all-append May (names_in x) _ (names-may x (of-placed (stands (left_level y) x) (expression_tokens x) (all-left Q b _ k)))
        (all-append May (sign_names (operator_sign y)) (names_in z) (operator-may y (all-left Q (operator_tokens y) _ rest)) (names-may z (of-placed (stands (right_level y) z) (expression_tokens z) (all-right Q (operator_tokens y) _ rest))))
    names-may (e.InMark x n y) k =
        let b = placed (stands SimpleLevel x) (expression_tokens x) in
        let rest = all-right Q b _ k in
        all-append May (names_in x) (names_in y) (names-may x (of-placed (stands SimpleLevel x) (expression_tokens x) (all-left Q b _ k)))
        (names-may y (of-placed (stands SimpleLevel y) (expression_tokens y) (all-right Q (not_tokens n) _ rest).1))
    names-may (e.InRange x n y z) k =
        let b = placed (stands SimpleLevel x) (expression_tokens x) in
        let c = placed (stands SimpleLevel y) (expression_tokens y) in
        let rest = (all-right Q (not_tokens n) _ (all-right Q b _ k)).1 in
        all-append May (names_in x) _ (names-may x (of-placed (stands SimpleLevel x) (expression_tokens x) (all-left Q b _ k)))
        (all-append May (names_in y) (names_in z) (names-may y (of-placed (stands SimpleLevel y) (expression_tokens y) (all-left Q c _ rest))) (names-may z (of-placed (stands SimpleLevel z) (expression_tokens z) (all-right Q c _ rest).1)))
    names-may (e.Group x) k = group-may x k

    part-may : (key : Option (List ℕ)) (p : PartTree) → All Q (part_tokens p) → All May (part_names key p)
    part-may (Some key) (part.Selector x) k = (spells.identifier x k.1.0, tt)
    part-may None (part.Selector x) k = tt
    part-may key (part.Arguments p x xs) k =
        all-append May (names_in x) (all_names xs) (names-may x (all-left Q (expression_tokens x) _ k.1)) (all-may xs (all-left Q (expressions_tokens xs) _ (all-right Q (expression_tokens x) _ k.1)))
    part-may key (part.Attribute x) k = tt
    part-may key part.RangeAttribute k = tt
    part-may key (part.Operand x) k = group-may x k.1

    group-may : (x : GroupTree) → All Q (group_tokens x) → All May (group_names x)
    group-may (g.Positional p x xs) k =
        all-append May (names_in x) (all_names xs) (names-may x (all-left Q (expression_tokens x) _ k.1)) (all-may xs (all-left Q (expressions_tokens xs) _ (all-right Q (expression_tokens x) _ k.1)))
    group-may (g.OthersAggregate p x) k = names-may x (all-left Q (expression_tokens x) _ k.1.1.1)

    all-may : (xs : ExpressionsTree) → All Q (expressions_tokens xs) → All May (all_names xs)
    all-may es.NoExpression k = tt
    all-may (es.MoreExpressions x xs) k = all-append May (names_in x) (all_names xs) (names-may x (all-left Q (expression_tokens x) _ k.1)) (all-may xs (all-right Q (expression_tokens x) _ k.1))

  -- of what stands at a level
  pub names-at-may : (level : Level) (x : ExpressionTree) → All Q (tokens_at level x) → All May (names_in x)
  names-at-may level x k = names-may x (of-placed (stands level x) (expression_tokens x) k)
