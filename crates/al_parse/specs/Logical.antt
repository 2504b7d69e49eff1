-- Relations joined by one logical operator.
use Rattle.std.specs.Prelude.{ℕ, ◌≡◌, ◌++◌, Option, Some, None, Result, Ok, Err}
use Rattle.al_tree_grammar.specs.Grammar.{Rule}
use Rattle.al_tree_grammar.specs.Grammar.Rule.{Opt, Many}
use Rattle.al_tree_syntax.specs.ExpressionTrees.{LogicalOperator, LogicalOperator as operators, logical_tokens}
use Rattle.al_tree_syntax.specs.Expressions.{relation_rule, and_rule, or_rule, xor_rule}
use Rattle.al_tree_syntax.specs.Notation.{◌⨾◌, ◌∣◌, the}
use Rattle.al_tree_syntax.specs.Symbols.Symbol.{And, Else, Or, Then, Xor}
use Rattle.al_parse.specs.declared.stop.Stop.{Stop}
use Rattle.al_parse.specs.Parses.{Lexemes, Stops, reading}

-- what may come after the first relation of an expression
unfoldable pub logical_rule : Rule
logical_rule = Opt (the And ⨾ and_rule ∣ the Or ⨾ or_rule ∣ the Xor ⨾ xor_rule)

-- a relation after the operator
abbrev pub after_rule : LogicalOperator → Rule
after_rule operators.AndOperator = the And ⨾ relation_rule
after_rule operators.AndThenOperator = the And ⨾ the Then ⨾ relation_rule
after_rule operators.OrOperator = the Or ⨾ relation_rule
after_rule operators.OrElseOperator = the Or ⨾ the Else ⨾ relation_rule
after_rule operators.XorOperator = the Xor ⨾ relation_rule

-- the relations after the first operator
abbrev pub chain_rule : LogicalOperator → Rule
chain_rule o = relation_rule ⨾ Many (after_rule o)

-- The operator there, if there is one, decides what to read after it.
abbrev pub Decides : {X : Type 0} → (X → LogicalOperator) → (X → Lexemes) → Result (Option X) Stop → Lexemes → Type 0
Decides operator rest (Ok None) xs = (d : ℕ) → reading d logical_rule xs ≡ Ok xs
Decides operator rest (Ok (Some x)) xs = (xs ≡ logical_tokens (operator x) ++ rest x) × ((d : ℕ) → reading d logical_rule xs ≡ reading d (chain_rule (operator x)) (rest x))
Decides operator rest (Err e) xs = (d : ℕ) → Stops e (reading d logical_rule xs)
