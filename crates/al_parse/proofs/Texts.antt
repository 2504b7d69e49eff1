-- Whole texts.
use Rattle.std.proofs.Common.{ℕ, ◌≡◌, ◌-◌, ◌≤◌, ◌<◌, List, [], ◌∷◌, ◌++◌, length, Some, Ok, Err, refl, sym, ap, ◌∙◌, subst, append-nil, length-append, arith}
use Rattle.al_tree_grammar.specs.Grammar.{lexemes_of}
use Rattle.al_tree_grammar.specs.Growing.{fault_before, fault_of}
use Rattle.al_tree_grammar.proofs.Layers.{reads}
use Rattle.al_tree_grammar.proofs.Language.{Reads}
use Rattle.al_tree_syntax.specs.Rules.{grammar, most}
use Rattle.al_tree_syntax.specs.Units.{unit_rule}
use Rattle.al_tree_syntax.specs.UnitTrees.{CompilationUnitTree, tokens_of}
use Rattle.al_tree_syntax.proofs.Clear.{closed, unit_clear}
use Rattle.al_tree_syntax.proofs.Laws.{faults_found}
use Rattle.al_parse.specs.declared.stop.Stop.{Stop}
use Rattle.al_parse.specs.declared.stop.Stop.TheVariants.{Memory, Fault}
use Rattle.al_parse.specs.Parses.{Lexemes, Stops, Took, reading}
use Rattle.al_parse.specs.Faults.{IsUnit, syntax_fault_of, IsSyntaxFaultAt, IsTreeOf, IsFaultOf, Refuses}

fault_is : (xs : Lexemes) → syntax_fault_of xs ≡ fault_before (length xs) (reading most unit_rule xs)
unfolding syntax_fault_of fault_of
fault_is xs = refl

left_at_fault : (xs u : Lexemes) → reading most unit_rule xs ≡ Err u → length u ≤ length xs
left_at_fault xs u h =
    let p = (reads grammar closed most unit_rule unit_clear).fault xs u h in
    omega (arith, ap length p.2, length-append p.0 u)

left_over : (xs u : Lexemes) → reading most unit_rule xs ≡ Ok u → length u ≤ length xs
left_over xs u h =
    let p = (reads grammar closed most unit_rule unit_clear).found xs u h in
    omega (arith, ap length p.1, length-append (lexemes_of grammar most unit_rule p.0) u)

-- reading stops
pub refuses : (e : Stop) (xs : Lexemes) → Stops e (reading most unit_rule xs) → Refuses e xs
refuses Memory xs s = tt
refuses (Fault n) xs s = (
  subst (λ (k : ℕ). k ≤ length xs) s.2 (left_at_fault xs s.0 s.1),
  fault_is xs ∙ ap (fault_before (length xs)) s.1 ∙ ap (λ (k : ℕ). Some (length xs - k)) s.2,
)

-- more is after a unit
pub goes_over : (xs u : Lexemes) (n : ℕ) → reading most unit_rule xs ≡ Ok u → length u ≡ n → 0 < n → Refuses (Fault n) xs
goes_over xs [] n h e l = absurd (omega arith)
goes_over xs (c ∷ u) n h e l = (
  subst (λ (k : ℕ). k ≤ length xs) e (left_over xs (c ∷ u) h),
  fault_is xs ∙ ap (fault_before (length xs)) h ∙ ap (λ (k : ℕ). Some (length xs - k)) e,
)

sentence : (xs : Lexemes) → reading most unit_rule xs ≡ Ok [] → IsUnit xs
unfolding IsUnit
sentence xs h =
    let p = (reads grammar closed most unit_rule unit_clear).found xs [] h in
    (p.0, sym (p.1 ∙ append-nil (lexemes_of grammar most unit_rule p.0)))

-- nothing is left
pub is_tree : (u : CompilationUnitTree) (xs rest : Lexemes) → length rest ≡ 0 → Took (tokens_of u) rest xs (reading most unit_rule xs) → IsTreeOf u xs
is_tree u xs [] e took = record { tokens = sym (took.0 ∙ append-nil (tokens_of u)); unit = sentence xs took.1 }
is_tree u xs (c ∷ rest) e took = absurd (omega arith)

is_place : (xs : Lexemes) (n : ℕ) → syntax_fault_of xs ≡ Some n → IsSyntaxFaultAt xs n
unfolding syntax_fault_of IsSyntaxFaultAt
is_place xs n h = ((faults_found xs).1 n).0 h

pub fault_found : (xs : Lexemes) (left n : ℕ) → length xs ≡ n → Refuses (Fault left) xs → IsFaultOf xs (n - left)
fault_found xs left n e r =
    let h : syntax_fault_of xs ≡ Some (n - left) = r.1 ∙ ap (λ (k : ℕ). Some (k - left)) e in
    record { found = h; place = is_place xs (n - left) h }
