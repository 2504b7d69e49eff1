-- Lexemes with a syntax fault, and those of a compilation unit.
use Rattle.std.proofs.Common.{◌≡◌, ℕ, List, Option, Some, None, refl}
use Rattle.al_tree_grammar.specs.Grammar.{Lexeme}
use Rattle.al_parse.specs.Faults.{syntax_fault_of, IsSyntaxFaultAt, IsTreeOf, IsUnit}
use Rattle.al_tree_syntax.specs.Laws.{FaultsAreFound}
use Rattle.al_tree_syntax.specs.TreeLaws.{unit_of, TreesAreFound, SentencesAreTrees}
use Rattle.al_tree_syntax.specs.UnitTrees.{CompilationUnitTree}
use Rattle.al_tree_syntax.proofs.TreeLaws.{sentence_found}

pub fault_is_found : FaultsAreFound → (xs : List Lexeme) (n : ℕ) → syntax_fault_of xs ≡ Some n → IsSyntaxFaultAt xs n
unfolding syntax_fault_of IsSyntaxFaultAt
fault_is_found faults xs n fault = ((faults xs).1 n).0 fault

pub fault_is_told : FaultsAreFound → (xs : List Lexeme) (n : ℕ) → IsSyntaxFaultAt xs n → syntax_fault_of xs ≡ Some n
unfolding syntax_fault_of IsSyntaxFaultAt
fault_is_told faults xs n at = ((faults xs).1 n).1 at

no_fault_of_unit : FaultsAreFound → SentencesAreTrees → TreesAreFound → (xs : List Lexeme) (u : CompilationUnitTree) → unit_of xs ≡ Some u → syntax_fault_of xs ≡ None
unfolding syntax_fault_of
no_fault_of_unit faults sentences trees xs u is = let found = (trees xs u).0 is in (faults xs).0.1 ((sentences xs).1 (u, found.0, found.1))

module _ (trees : TreesAreFound) (sentences : SentencesAreTrees) (faults : FaultsAreFound) (xs : List Lexeme) where
  -- where there is a fault there is no tree
  pub fault_has_no_unit : (n : ℕ) → syntax_fault_of xs ≡ Some n → unit_of xs ≡ None
  fault_has_no_unit n fault = no_unit (unit_of xs) refl where
    no_unit : (u : Option CompilationUnitTree) → unit_of xs ≡ u → u ≡ None
    no_unit None is = refl
    no_unit (Some u) is =
        let none : syntax_fault_of xs ≡ None = no_fault_of_unit faults sentences trees xs u is in
        absurd (cc)

  -- where there is no fault there is a tree
  pub no_fault_has_unit : syntax_fault_of xs ≡ None → (u : CompilationUnitTree) × (unit_of xs ≡ Some u)
  unfolding syntax_fault_of
  no_fault_has_unit none = let u = (sentences xs).0 ((faults xs).0.0 none) in (u.0, (trees xs u.0).1 (u.1, u.2))

-- a tree of the lexemes is the one that is found
pub tree_is_found : (xs : List Lexeme) (u : CompilationUnitTree) → IsTreeOf u xs → unit_of xs ≡ Some u
unfolding IsUnit
tree_is_found xs u is = sentence_found xs u is.unit is.tokens
