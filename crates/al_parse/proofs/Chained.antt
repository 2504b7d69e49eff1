-- What a loop has joined to the left, and that reading goes on with the rest.
use Rattle.std.proofs.Common.{ℕ, ◌≡◌, true, false, [], ◌∷◌, ◌++◌, Ok, refl, sym, ap, ◌∙◌, append_assoc, leb}
use Rattle.al_tree_grammar.specs.Grammar.{Rule}
use Rattle.al_tree_grammar.specs.Grammar.Rule.{Many}
use Rattle.al_tree_grammar.specs.Reading.{begins, first, is_clear}
use Rattle.al_tree_grammar.proofs.Steps.{many_goes, many_fails, many_stops}
use Rattle.al_tree_syntax.specs.ExpressionTrees.{ExpressionTree, ExpressionTree as trees, Operator, PartTree, expression_tokens, operator_tokens, part_rank, part_tokens, stands}
use Rattle.al_tree_syntax.specs.ExpressionTrees.Level.{NameLevel}
use Rattle.al_tree_syntax.specs.Rules.{grammar}
use Rattle.al_tree_syntax.proofs.Clear.{closed}
use Rattle.al_tree.specs.ExpressionViews.{logical_model}
use Rattle.al_parse.specs.declared.chain.Chain.{Chain}
use Rattle.al_parse.specs.declared.chain.Chain.TheVariants as chains
use Rattle.al_parse.specs.declared.stop.Stop.{Stop}
use Rattle.al_parse.specs.declared.stop.Stop.TheVariants.{Memory, Fault}
use Rattle.al_parse.specs.Chains.{Joins, level_of, link_rule}
use Rattle.al_parse.specs.Parses.{Lexemes, Stops, Took, reading}
use Rattle.al_parse.proofs.ExprClear.{factors_clear, relations_clear, terms_clear}

pub links_clear : (links : Chain) → is_clear false (Many (link_rule links)) ≡ true
links_clear chains.Product = factors_clear
links_clear chains.Sum = terms_clear
links_clear (chains.Logical o) = relations_clear (logical_model o)

-- of all after what was there before, the whole is joined
pub record Linked (links : Chain) (d : ℕ) (before all : Lexemes) (whole : ExpressionTree) (rest : Lexemes) : Type 0 where
  pub taken : before ++ all ≡ expression_tokens whole ++ rest
  pub goes_on : reading d (Many (link_rule links)) all ≡ reading d (Many (link_rule links)) rest
  pub level : stands (level_of links) whole ≡ true

-- more is taken after what was
longer : (before all front more rest last next : Lexemes) → before ++ all ≡ front ++ rest → rest ≡ more ++ last → next ≡ front ++ more → before ++ all ≡ next ++ last
longer before all front more rest last next h k j = h ∙ ap (λ (t : Lexemes). front ++ t) k ∙ sym (append_assoc front more last) ∙ ap (λ (t : Lexemes). t ++ last) (sym j)

module _ (links : Chain) (d : ℕ) (before all : Lexemes) where
  pub linked_first : (whole : ExpressionTree) → before ≡ expression_tokens whole → stands (level_of links) whole ≡ true → Linked links d before all whole all
  linked_first whole h k = record { taken = ap (λ (t : Lexemes). t ++ all) h; goes_on = refl; level = k }

  pub linked_next : (whole right next : ExpressionTree) (o : Operator) (rest last : Lexemes) → Linked links d before all whole rest → begins (first (link_rule links)) rest ≡ true
      → Took (operator_tokens o ++ expression_tokens right) last rest (reading d (link_rule links) rest) → Joins (level_of links) o right
      → next ≡ trees.Infix whole o right → expression_tokens next ≡ expression_tokens whole ++ (operator_tokens o ++ expression_tokens right)
      → Linked links d before all next last
  linked_next whole right next o rest last kept h took joins made tokens = record {
    taken = longer before all (expression_tokens whole) (operator_tokens o ++ expression_tokens right) rest last (expression_tokens next) kept.taken took.0 tokens;
    goes_on = kept.goes_on ∙ many_goes grammar closed d (link_rule links) (links_clear links) rest last h took.1;
    level = ap (stands (level_of links)) made ∙ joins.whole whole;
  }

  pub linked_over : (whole : ExpressionTree) (rest : Lexemes) → Linked links d before all whole rest → begins (first (link_rule links)) rest ≡ false
      → (before ++ all ≡ expression_tokens whole ++ rest) × (reading d (Many (link_rule links)) all ≡ Ok rest)
  linked_over whole rest kept h = (kept.taken, kept.goes_on ∙ many_stops grammar d (link_rule links) rest h)

  pub linked_err : (whole : ExpressionTree) (rest : Lexemes) (e : Stop) → Linked links d before all whole rest → begins (first (link_rule links)) rest ≡ true
      → Stops e (reading d (link_rule links) rest) → Stops e (reading d (Many (link_rule links)) all)
  linked_err whole rest Memory kept h s = tt
  linked_err whole rest (Fault left) kept h s = (s.0, kept.goes_on ∙ many_fails grammar closed d (link_rule links) (links_clear links) rest s.0 h s.1, s.2)

-- a name, of all lexemes; reading them by one rule goes on with the rest by another
pub record Joined (whole a : Rule) (d : ℕ) (taken_of all : Lexemes) (name : ExpressionTree) (rest : Lexemes) : Type 0 where
  pub taken : taken_of ≡ expression_tokens name ++ rest
  pub goes_on : reading d whole all ≡ reading d a rest
  pub level : stands NameLevel name ≡ true

pub named_next : (whole a : Rule) (d : ℕ) (taken_of all : Lexemes) (name next : ExpressionTree) (p : PartTree) (rest last : Lexemes) → Joined whole a d taken_of all name rest → rest ≡ part_tokens p ++ last → reading d a rest ≡ reading d a last
    → part_rank p ≡ 0 → next ≡ trees.Longer name p → expression_tokens next ≡ expression_tokens name ++ part_tokens p → Joined whole a d taken_of all next last
named_next whole a d taken_of all name next p rest last kept h k r made tokens = record {
  taken = longer [] taken_of (expression_tokens name) (part_tokens p) rest last (expression_tokens next) kept.taken h tokens;
  goes_on = kept.goes_on ∙ k;
  level = ap (stands NameLevel) made ∙ ap (λ n. leb n 0) r;
}
