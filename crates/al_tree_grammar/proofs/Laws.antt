-- The tree and the fault of a list of lexemes, found by reading.
use Rattle.std.proofs.Common.{ℕ, ◌≡◌, ◌+◌, ◌-◌, ◌<◌, ◌≤◌, ◌↔◌, true, false, List, [], ◌∷◌, ◌++◌, length, take, drop, Option, Some, None, Ok, Err, refl, sym, ap, ◌∙◌, subst, append_assoc, append-nil, arith}
use Rattle.std.proofs.Math.Seq.{take-add}
use Rattle.al_tree_grammar.specs.Grammar.{Lexeme, Rule, Grammar, Tree, lexemes_of, Sentence}
use Rattle.al_tree_grammar.specs.Reading.{is_clear, IsClosed, Read, read}
use Rattle.al_tree_grammar.specs.Growing.{Grown, whole, tree_of, fault_before, fault_of}
use Rattle.al_tree_grammar.specs.Place.{IsFaultAt}
use Rattle.al_tree_grammar.specs.Laws.{TreesAreUnique, TreesAreFound, FaultsAreFound}
use Rattle.al_tree_grammar.proofs.Layers.{one_tree, sentence_again, is_sentence, is_fault, is_over}
use Rattle.al_tree_grammar.proofs.Growing.{grows}

pub trees_are_unique : TreesAreUnique
trees_are_unique g closed d a clear x y e = one_tree g closed d a clear x y e

module _ (g : Grammar) (closed : IsClosed g) (d : ℕ) (a : Rule) (clear : is_clear false a ≡ true) where
  pub tree_found : (xs : List Lexeme) (x : Tree g d a) → lexemes_of g d a x ≡ xs → tree_of g d a xs ≡ Some x
  unfolding tree_of
  tree_found xs x e =
      let y = (grows g d a).found xs [] (sentence_again g closed d a clear xs (x, e)) in
      ap (λ (m : Grown (Tree g d a)). whole m) y.2 ∙ ap (λ (t : Tree g d a). Some t) (one_tree g closed d a clear y.0 x (sym (append-nil (lexemes_of g d a y.0)) ∙ sym y.1 ∙ sym e))

  pub found_tree : (xs : List Lexeme) (x : Tree g d a) → tree_of g d a xs ≡ Some x → lexemes_of g d a x ≡ xs
  unfolding tree_of
  found_tree xs x e = go (read g d a xs) refl
    where
      go : (m : Read) → read g d a xs ≡ m → lexemes_of g d a x ≡ xs
      go (Ok []) h =
          let y = (grows g d a).found xs [] h in
          let s : Some y.0 ≡ Some x = ap (λ (m : Grown (Tree g d a)). whole m) (sym y.2) ∙ e in
          let same : y.0 ≡ x = cc in
          ap (lexemes_of g d a) (sym same) ∙ sym (append-nil (lexemes_of g d a y.0)) ∙ sym y.1
      go (Ok (c ∷ u)) h =
          let y = (grows g d a).found xs (c ∷ u) h in
          let s : None ≡ Some x = ap (λ (m : Grown (Tree g d a)). whole m) (sym y.2) ∙ e in
          absurd (cc)
      go (Err u) h =
          let s : None ≡ Some x = ap (λ (m : Grown (Tree g d a)). whole m) (sym ((grows g d a).fault xs u h)) ∙ e in
          absurd (cc)

  pub fault_at : (xs : List Lexeme) (n : ℕ) → Tree g d a → fault_of g d a xs ≡ Some n → IsFaultAt g d a xs n
  unfolding fault_of
  fault_at xs n x e = go (read g d a xs) refl (ap (fault_before (length xs)) refl ∙ e)
    where
      go : (m : Read) → read g d a xs ≡ m → fault_before (length xs) (read g d a xs) ≡ Some n → IsFaultAt g d a xs n
      go (Ok []) h q = let s : None ≡ Some n = ap (fault_before (length xs)) (sym h) ∙ q in absurd (cc)
      go (Ok (c ∷ u)) h q =
          let s : Some (length xs - length (c ∷ u)) ≡ Some n = ap (fault_before (length xs)) (sym h) ∙ q in
          let same : length xs - length (c ∷ u) ≡ n = cc in
          subst (λ (k : ℕ). IsFaultAt g d a xs k) same (is_over g closed d a clear xs c u h)
      go (Err u) h q =
          let s : Some (length xs - length u) ≡ Some n = ap (fault_before (length xs)) (sym h) ∙ q in
          let same : length xs - length u ≡ n = cc in
          subst (λ (k : ℕ). IsFaultAt g d a xs k) same (is_fault g closed d a clear xs u x h)

  pub none_sentence : (xs : List Lexeme) → fault_of g d a xs ≡ None → Sentence g d a xs
  unfolding fault_of
  none_sentence xs e = go (read g d a xs) refl e
    where
      go : (m : Read) → read g d a xs ≡ m → fault_before (length xs) (read g d a xs) ≡ None → Sentence g d a xs
      go (Ok []) h q = is_sentence g closed d a clear xs h
      go (Ok (c ∷ u)) h q = let s : Some (length xs - length (c ∷ u)) ≡ None = ap (fault_before (length xs)) (sym h) ∙ q in absurd (cc)
      go (Err u) h q = let s : Some (length xs - length u) ≡ None = ap (fault_before (length xs)) (sym h) ∙ q in absurd (cc)

  pub sentence_none : (xs : List Lexeme) → Sentence g d a xs → fault_of g d a xs ≡ None
  unfolding fault_of
  sentence_none xs s = ap (fault_before (length xs)) (sentence_again g closed d a clear xs s)

  -- what goes on after m lexemes goes on after fewer
  goes_beyond : (xs : List Lexeme) (n m : ℕ) → n < m → m ≤ length xs → (rest : List Lexeme) × Sentence g d a (take m xs ++ rest) → (rest : List Lexeme) × Sentence g d a (take (n + 1) xs ++ rest)
  goes_beyond xs n m less most s =
      let k : ℕ = m - (n + 1) in
      let e : take m xs ≡ take (n + 1) xs ++ take k (drop (n + 1) xs) = ap (λ (i : ℕ). take i xs) (let q : m ≡ (n + 1) + k = omega arith in q) ∙ take-add (n + 1) k xs in
      let t : List Lexeme = take k (drop (n + 1) xs) in
      (t ++ s.0, subst (Sentence g d a) (ap (λ (v : List Lexeme). v ++ s.0) e ∙ append_assoc (take (n + 1) xs) t s.0) s.1)

  -- there is one place alone
  one_place : (xs : List Lexeme) (n m : ℕ) → IsFaultAt g d a xs n → IsFaultAt g d a xs m → n < m → ⊥
  one_place xs n m f k less =
      let s = goes_beyond xs n m less k.within k.goes_on in
      f.no_further (omega (arith, k.within)) s.0 s.1

  pub place_found : (xs : List Lexeme) (n : ℕ) → Tree g d a → IsFaultAt g d a xs n → fault_of g d a xs ≡ Some n
  place_found xs n x f = go (fault_of g d a xs) refl
    where
      go : (o : Option ℕ) → fault_of g d a xs ≡ o → fault_of g d a xs ≡ Some n
      go None e = absurd (f.no_sentence (none_sentence xs e))
      go (Some m) e =
          let k = fault_at xs m x e in
          let same : m ≡ n = omega (arith, one_place xs n m f k, one_place xs m n k f) in
          e ∙ ap (λ (i : ℕ). Some i) same

  pub fault_found : (xs : List Lexeme) → Tree g d a → (fault_of g d a xs ≡ None ↔ Sentence g d a xs) × ((n : ℕ) → fault_of g d a xs ≡ Some n ↔ IsFaultAt g d a xs n)
  fault_found xs x = ((none_sentence xs, sentence_none xs), λ n. (λ e. fault_at xs n x e, λ f. place_found xs n x f))

pub trees_are_found : TreesAreFound
trees_are_found g closed d a clear xs x = (λ e. found_tree g closed d a clear xs x e, λ e. tree_found g closed d a clear xs x e)

pub faults_are_found : FaultsAreFound
faults_are_found g closed d a clear x xs = fault_found g closed d a clear xs x
