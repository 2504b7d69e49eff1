-- What the loops read can be told by the next lexeme.
use Rattle.std.proofs.Common.{ℕ, ◌≡◌, ◌++◌, true, false, Ok, refl, sym, ap, ◌∙◌, append_assoc}
use Rattle.al_tree_grammar.specs.Grammar.Rule.{Many, Opt}
use Rattle.al_tree_grammar.specs.Reading.{◌>>=◌, begins, first, is_clear}
use Rattle.al_tree_grammar.proofs.Steps.{many_stops}
use Rattle.al_tree_syntax.specs.ExpressionTrees.{LogicalOperator, LogicalOperator as operators}
use Rattle.al_tree_syntax.specs.Expressions.{identifier_rule, compound_name_rule, selection_rule, designator_rule, parentheses_rule, name_rule, primary_rule, factor_rule, multiplying_rule, term_rule, adding_rule, simple_expression_rule, relational_rule, membership_rule, relation_rule, and_rule, or_rule, xor_rule, expression_rule, name_rest_rule}
use Rattle.al_tree_syntax.specs.Notation.{◌⨾◌, ◌∣◌, any, the}
use Rattle.al_tree_syntax.specs.Symbols.Symbol.{Comma, Minus, Plus}
use Rattle.al_tree_syntax.specs.Rules.{grammar}
use Rattle.al_parse.specs.Logical.{after_rule}
use Rattle.al_parse.specs.Names.{part_rule}
use Rattle.al_parse.specs.Parses.{Lexemes, Took, reading}

pub relations_clear : (o : LogicalOperator) → is_clear false (Many (after_rule o)) ≡ true
unfolding identifier_rule selection_rule designator_rule parentheses_rule name_rule primary_rule factor_rule multiplying_rule term_rule adding_rule simple_expression_rule relational_rule membership_rule relation_rule
relations_clear operators.AndOperator = refl
relations_clear operators.AndThenOperator = refl
relations_clear operators.OrOperator = refl
relations_clear operators.OrElseOperator = refl
relations_clear operators.XorOperator = refl

pub terms_clear : is_clear false (Many (adding_rule ⨾ term_rule)) ≡ true
unfolding identifier_rule selection_rule designator_rule parentheses_rule name_rule primary_rule factor_rule multiplying_rule term_rule adding_rule
terms_clear = refl

pub factors_clear : is_clear false (Many (multiplying_rule ⨾ factor_rule)) ≡ true
unfolding identifier_rule selection_rule designator_rule parentheses_rule name_rule primary_rule factor_rule multiplying_rule
factors_clear = refl

pub parts_clear : is_clear false (Many part_rule) ≡ true
unfolding identifier_rule designator_rule part_rule
parts_clear = refl

pub expressions_clear : is_clear false (Many (the Comma ⨾ expression_rule)) ≡ true
unfolding identifier_rule selection_rule designator_rule parentheses_rule name_rule primary_rule factor_rule multiplying_rule term_rule adding_rule simple_expression_rule relational_rule membership_rule relation_rule and_rule or_rule xor_rule expression_rule
expressions_clear = refl

pub names_clear : is_clear false (Many (the Comma ⨾ compound_name_rule)) ≡ true
unfolding identifier_rule compound_name_rule
names_clear = refl

-- ---- where none begins, none is read

pub terms_stop : (d : ℕ) (xs : Lexemes) → begins (first adding_rule) xs ≡ false → reading d (Many (adding_rule ⨾ term_rule)) xs ≡ Ok xs
unfolding adding_rule
terms_stop d xs h = many_stops grammar d (adding_rule ⨾ term_rule) xs h

pub factors_stop : (d : ℕ) (xs : Lexemes) → begins (first multiplying_rule) xs ≡ false → reading d (Many (multiplying_rule ⨾ factor_rule)) xs ≡ Ok xs
unfolding multiplying_rule
factors_stop d xs h = many_stops grammar d (multiplying_rule ⨾ factor_rule) xs h

pub parts_stop : (d : ℕ) (xs : Lexemes) → begins (first part_rule) xs ≡ false → reading d name_rest_rule xs ≡ Ok xs
unfolding name_rest_rule part_rule
parts_stop d xs h = many_stops grammar d part_rule xs h
