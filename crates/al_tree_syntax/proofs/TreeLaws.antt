-- The laws of trees, by those of the grammar's trees.
use Rattle.std.proofs.Common.{length, suc, ℕ, ◌≡◌, ◌≤◌, List, Option, Some, None, refl, sym, ap, ◌∙◌, subst, arith}
use Rattle.std.specs.Prelude.{option_map}
use Rattle.al_tree_grammar.specs.Grammar.{Lexeme, Sentence, Tree, lexemes_of}
use Rattle.al_tree_grammar.specs.Growing.{tree_of}
use Rattle.al_tree_grammar.proofs.Laws.{trees_are_unique, tree_found, found_tree}
use Rattle.al_tree_syntax.specs.Units.{unit_rule}
use Rattle.al_tree_syntax.specs.Rules.{grammar, most}
use Rattle.al_tree_syntax.specs.UnitTrees.{CompilationUnitTree, tokens_of}
use Rattle.al_tree_syntax.specs.UnitsFrom.{unit_from}
use Rattle.al_tree_syntax.specs.Nesting.{nesting, nesting_by}
use Rattle.al_tree_syntax.specs.TreeLaws.{unit_of, LexemesStay, TreesAreUnique, TreesAreFound, SentencesAreTrees}
use Rattle.al_tree_syntax.proofs.Clear.{closed, unit_clear}
use Rattle.al_tree_syntax.proofs.UnitsRead.{unit_same}
use Rattle.al_tree_syntax.proofs.UnitsMade.{unit_made}
use Rattle.al_tree_syntax.proofs.Heavy.{heavy, unit_heavy}
use Rattle.al_tree_syntax.proofs.Light.{unit_light}
use Rattle.al_tree_syntax.proofs.UnitsFit.{unit_fits}

mapped : {A B : Type 0} (f : A → B) (o : Option A) (y : B) → option_map f o ≡ Some y → (x : A) × (o ≡ Some x) × (f x ≡ y)
mapped f None y e = absurd (cc)
mapped f (Some x) y e = (x, refl, cc)

pub lexemes_stay : LexemesStay
lexemes_stay d x = unit_same d x

-- a tree as the grammar's, at most d deep, with its lexemes
as_tree : (w d : ℕ) (u : CompilationUnitTree) → nesting_by w u ≤ d → 1 ≤ d → suc d ≤ w → (x : Tree grammar d unit_rule) × (unit_from d x ≡ u) × (lexemes_of grammar d unit_rule x ≡ tokens_of u)
as_tree w d u h o f = let x = unit_made w d u h o f in (x.0, x.1, sym (unit_same d x.0) ∙ ap tokens_of x.1)

-- The trees that have the lexemes of a sentence nest no deeper than it has lexemes, whatever counts what is misplaced.
no_deeper : (w d : ℕ) (xs : List Lexeme) (u : CompilationUnitTree) → Sentence grammar d unit_rule xs → tokens_of u ≡ xs → nesting_by w u ≤ length xs
no_deeper w d xs u s e =
    let h : nesting_by w u ≤ heavy w xs = subst (λ (ys : List Lexeme). nesting_by w u ≤ heavy w ys) e (unit_heavy w u) in
    let l : heavy w xs ≤ length xs = subst (λ (ys : List Lexeme). heavy w ys ≤ length ys) s.1 (unit_light w d s.0) in
    omega (arith, h, l)

same_tree : (d : ℕ) (xs : List Lexeme) (u v : CompilationUnitTree) → Sentence grammar d unit_rule xs → tokens_of u ≡ xs → tokens_of v ≡ xs → u ≡ v
same_tree d xs u v s e f =
    let n : ℕ = suc (length xs) in
    let x = as_tree (suc n) n u (let h = no_deeper (suc n) d xs u s e in omega (arith, h)) (omega arith) (omega arith) in
    let y = as_tree (suc n) n v (let h = no_deeper (suc n) d xs v s f in omega (arith, h)) (omega arith) (omega arith) in
    let one : x.0 ≡ y.0 = trees_are_unique grammar closed n unit_rule unit_clear x.0 y.0 (x.2 ∙ e ∙ sym (y.2 ∙ f)) in
    sym x.1 ∙ ap (unit_from n) one ∙ y.1

pub trees_unique : TreesAreUnique
trees_unique d u v s e = same_tree d (tokens_of u) u v s refl (sym e)

read : (xs : List Lexeme) (u : CompilationUnitTree) → unit_of xs ≡ Some u → (tokens_of u ≡ xs) × (nesting u ≤ most)
unfolding unit_of
read xs u e =
    let x = mapped (unit_from most) (tree_of grammar most unit_rule xs) u e in
    (ap tokens_of (sym x.2) ∙ unit_same most x.0 ∙ found_tree grammar closed most unit_rule unit_clear xs x.0 x.1, subst (λ (v : CompilationUnitTree). nesting v ≤ most) x.2 (unit_fits (suc most) most x.0))

written : (xs : List Lexeme) (u : CompilationUnitTree) → tokens_of u ≡ xs → nesting u ≤ most → unit_of xs ≡ Some u
unfolding unit_of
written xs u e h =
    let x = as_tree (suc most) most u h (omega arith) (omega arith) in
    ap (option_map (unit_from most)) (tree_found grammar closed most unit_rule unit_clear xs x.0 (x.2 ∙ e)) ∙ ap (λ (v : CompilationUnitTree). Some v) x.1

pub trees_found : TreesAreFound
trees_found xs u = (read xs u, λ h. written xs u h.0 h.1)

pub sentences_are_trees : SentencesAreTrees
sentences_are_trees xs = (
  λ s. (unit_from most s.0, unit_same most s.0 ∙ s.1, unit_fits (suc most) most s.0),
  λ u. let x = as_tree (suc most) most u.0 u.2 (omega arith) (omega arith) in (x.0, x.2 ∙ u.1),
)

-- the tree of a sentence is the one that has its lexemes
pub sentence_found : (xs : List Lexeme) (u : CompilationUnitTree) → Sentence grammar most unit_rule xs → tokens_of u ≡ xs → unit_of xs ≡ Some u
sentence_found xs u s e =
    let v = (sentences_are_trees xs).0 s in
    written xs u e (subst (λ (t : CompilationUnitTree). nesting t ≤ most) (same_tree most xs v.0 u s v.1 e) v.2)
