-- What stands at a level stands at those above.
use Rattle.std.proofs.Common.{ℕ, ◌≡◌, ◌≤◌, ◌||◌, Bool, true, leb, List, refl, ap, ◌∙◌, sym, arith, leb-true, le-leb}
use Rattle.al_tree_grammar.specs.Grammar.{Lexeme}
use Rattle.al_tree_syntax.specs.ExpressionTrees.{AddingOperator, ExpressionTree, Level, LogicalOperator, LogicalOperator as operators, MultiplyingOperator, expression_tokens, is_joined, placed, rank, same_operator, stands, tokens_at}
use Rattle.al_tree_syntax.specs.ExpressionTrees.Level.{ChainLevel, FactorLevel, NameLevel, PrimaryLevel, RelationLevel, SimpleLevel, TermLevel}
use Rattle.al_tree_syntax.specs.ExpressionTrees.Operator.{Adding, Logical, Multiplying}
use Rattle.al_parse.specs.Chains.{Joins}

higher : (n a b : ℕ) → a ≤ b → leb n a ≡ true → leb n b ≡ true
higher n a b h k = let j = leb-true n a k in le-leb n b (omega (arith, h, j))

pub name_is_primary : (e : ExpressionTree) → stands NameLevel e ≡ true → stands PrimaryLevel e ≡ true
name_is_primary e h = higher (rank e) 0 1 (omega arith) h

pub primary_is_factor : (e : ExpressionTree) → stands PrimaryLevel e ≡ true → stands FactorLevel e ≡ true
primary_is_factor e h = higher (rank e) 1 2 (omega arith) h

pub factor_is_term : (e : ExpressionTree) → stands FactorLevel e ≡ true → stands TermLevel e ≡ true
factor_is_term e h = higher (rank e) 2 3 (omega arith) h

pub term_is_simple : (e : ExpressionTree) → stands TermLevel e ≡ true → stands SimpleLevel e ≡ true
term_is_simple e h = higher (rank e) 3 4 (omega arith) h

pub simple_is_relation : (e : ExpressionTree) → stands SimpleLevel e ≡ true → stands RelationLevel e ≡ true
simple_is_relation e h = higher (rank e) 4 5 (omega arith) h

pub relation_in_chain : (o : LogicalOperator) (e : ExpressionTree) → stands RelationLevel e ≡ true → stands (ChainLevel o) e ≡ true
relation_in_chain o e h = ap (λ b. b || is_joined o e) h

-- the lexemes of what stands at a level
pub stands_there : (k : Level) (e : ExpressionTree) → stands k e ≡ true → tokens_at k e ≡ expression_tokens e
stands_there k e h = ap (λ b. placed b (expression_tokens e)) h

same : (o : LogicalOperator) → same_operator o o ≡ true
same operators.AndOperator = refl
same operators.AndThenOperator = refl
same operators.OrOperator = refl
same operators.OrElseOperator = refl
same operators.XorOperator = refl

pub product_joins : (o : MultiplyingOperator) (e : ExpressionTree) → stands FactorLevel e ≡ true → Joins TermLevel (Multiplying o) e
product_joins o e h = record { leans = refl; stood = h; whole = λ l. refl }

pub sum_joins : (o : AddingOperator) (e : ExpressionTree) → stands TermLevel e ≡ true → Joins SimpleLevel (Adding o) e
sum_joins o e h = record { leans = refl; stood = h; whole = λ l. refl }

pub logical_joins : (o : LogicalOperator) (e : ExpressionTree) → stands RelationLevel e ≡ true → Joins (ChainLevel o) (Logical o) e
logical_joins o e h = record { leans = refl; stood = h; whole = λ l. same o }
