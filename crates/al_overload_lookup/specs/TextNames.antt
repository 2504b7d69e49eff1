-- The names and signs in an expression, in source order (ARM 4.1, 4.5).
use Rattle.std.specs.Prelude.{ℕ, List, [], ◌∷◌, ◌++◌, codes, Option, Some, None}
use Rattle.al_tree_grammar.specs.Grammar.{Label}
use Rattle.al_overload_lookup.specs.Keys.{dotted, key_of}
use Rattle.al_overload_lookup.specs.declared.name.TextName.{TextName}
use Rattle.al_overload_lookup.specs.declared.name.TextName.TheVariants.{Simple, Selected}
use Rattle.al_tree_syntax.specs.ExpressionTrees.{ExpressionTree, ExpressionTree as e, ExpressionsTree, ExpressionsTree as es, GroupTree, GroupTree as g, PartTree, PartTree as part}
use Rattle.al_tree_syntax.specs.ExpressionTrees.{Prefix, Prefix as prefix, Sign as sign, Operator, Operator as o, LogicalOperator, LogicalOperator as l, RelationalOperator, RelationalOperator as r, AddingOperator, AddingOperator as a, MultiplyingOperator, MultiplyingOperator as m}

abbrev pub prefix_sign : Prefix → List ℕ
prefix_sign (prefix.Signed (sign.PlusSign p)) = codes "+"
prefix_sign (prefix.Signed (sign.MinusSign p)) = codes "-"
prefix_sign (prefix.Absolute p) = codes "abs"
prefix_sign (prefix.Negation p) = codes "not"

-- short-circuit forms are declared nowhere
abbrev pub logical_sign : LogicalOperator → Option (List ℕ)
logical_sign l.AndOperator = Some (codes "and")
logical_sign l.OrOperator = Some (codes "or")
logical_sign l.XorOperator = Some (codes "xor")
logical_sign l.AndThenOperator = None
logical_sign l.OrElseOperator = None

abbrev pub relational_sign : RelationalOperator → List ℕ
relational_sign r.EqualOperator = codes "="
relational_sign r.NotEqualOperator = codes "/="
relational_sign r.LessOperator = codes "<"
relational_sign r.LessOrEqualOperator = codes "<="
relational_sign r.GreaterOperator = codes ">"
relational_sign r.GreaterOrEqualOperator = codes ">="

-- nor is `&`
abbrev pub adding_sign : AddingOperator → Option (List ℕ)
adding_sign (a.PlusOperator p) = Some (codes "+")
adding_sign (a.MinusOperator p) = Some (codes "-")
adding_sign a.ConcatenationOperator = None

abbrev pub multiplying_sign : MultiplyingOperator → List ℕ
multiplying_sign m.TimesOperator = codes "*"
multiplying_sign m.DivideOperator = codes "/"
multiplying_sign m.ModOperator = codes "mod"
multiplying_sign m.RemOperator = codes "rem"

abbrev pub operator_sign : Operator → Option (List ℕ)
operator_sign (o.Logical x) = logical_sign x
operator_sign (o.Relational x) = Some (relational_sign x)
operator_sign (o.Adding x) = adding_sign x
operator_sign (o.Multiplying x) = Some (multiplying_sign x)
operator_sign o.Power = Some (codes "**")

abbrev pub sign_names : Option (List ℕ) → List TextName
sign_names (Some s) = Simple s ∷ []
sign_names None = []

-- a selector after a name; after all else it names a component
abbrev pub selected_names : Option (List ℕ) → List ℕ → List TextName
selected_names (Some key) name = Selected key name ∷ []
selected_names None name = []

unfoldable mutual
  pub names_in : ExpressionTree → List TextName
  names_in (e.Number x) = []
  names_in (e.Text x) = []
  names_in (e.Name x) = Simple x.text ∷ []
  names_in (e.Longer before p) = names_in before ++ part_names (key_of before) p
  names_in (e.Prefixed p operand) = Simple (prefix_sign p) ∷ names_in operand
  names_in (e.Infix left operator right) = names_in left ++ (sign_names (operator_sign operator) ++ names_in right)
  names_in (e.InMark left n mark) = names_in left ++ names_in mark
  names_in (e.InRange left n low high) = names_in left ++ (names_in low ++ names_in high)
  names_in (e.Group group) = group_names group

  -- after a name
  pub part_names : Option (List ℕ) → PartTree → List TextName
  part_names key (part.Selector x) = selected_names key x.text
  part_names key (part.Arguments p first others) = names_in first ++ all_names others
  part_names key (part.Attribute x) = []
  part_names key part.RangeAttribute = []
  part_names key (part.Operand group) = group_names group

  pub group_names : GroupTree → List TextName
  group_names (g.Positional p first others) = names_in first ++ all_names others
  group_names (g.OthersAggregate p value) = names_in value

  pub all_names : ExpressionsTree → List TextName
  all_names es.NoExpression = []
  all_names (es.MoreExpressions x xs) = names_in x ++ all_names xs

-- the names of the selectors of a name of identifiers, each in what comes before it
abbrev pub selector_names : List ℕ → List Label → List TextName
selector_names key [] = []
selector_names key (l ∷ ls) = Selected key l.text ∷ selector_names (dotted key l.text) ls

-- the names in a name of identifiers
abbrev pub identifier_names : Label → List Label → List TextName
identifier_names first selectors = Simple first.text ∷ selector_names first.text selectors
