-- One step of a loop that reads a rule again and again, and of a construct.
use Rattle.std.proofs.Common.{ℕ, zero, suc, ◌-◌, ◌<◌, ◌≡◌, ◌==◌, Bool, true, false, ◌&&◌, ◌||◌, not, List, [], ◌∷◌, length, Ok, Err, refl, ap, ◌∙◌, subst, eq-eqb, arith}
use Rattle.std.proofs.lemmas.Bool.{and_parts, not-true, cond-true}
use Rattle.al_tree_grammar.specs.Grammar.{Label, Lexeme, Rule, Grammar, Tree, lexemes_of}
use Rattle.al_tree_grammar.specs.Grammar.Lexeme.{Fixed, Named}
use Rattle.al_tree_grammar.specs.Grammar.Rule.{One, Seq, Many, Nest, Begun}
use Rattle.al_tree_grammar.specs.Reading.{disjoint, begins, first, more, may_be_empty, is_clear, IsClosed, ◌>>=◌, one, any, times, read}
use Rattle.al_tree_grammar.proofs.Language.{Reads}
use Rattle.al_tree_grammar.proofs.Repeat.{once_more, no_more, enough, shorter}
use Rattle.al_tree_grammar.proofs.Layers.{reads}

module _ (g : Grammar) (closed : IsClosed g) (d : ℕ) (a : Rule) (clear : is_clear false (Many a) ≡ true) where
  parts : (is_clear false a ≡ true) × (may_be_empty a ≡ false)
  parts =
      let p = and_parts (is_clear false a && not (may_be_empty a)) (disjoint (more a) (first a)) clear in
      let q = and_parts (is_clear false a) (not (may_be_empty a)) p.0 in
      (q.0, not-true (may_be_empty a) q.1)

  item : Reads (Tree g d a) (lexemes_of g d a) (read g d a) (first a) (more a) false
  item = subst (λ e. Reads (Tree g d a) (lexemes_of g d a) (read g d a) (first a) (more a) e) parts.1 (reads g closed d a parts.0)

  pub many_goes : (xs ys : List Lexeme) → begins (first a) xs ≡ true → read g d a xs ≡ Ok ys → read g d (Many a) xs ≡ read g d (Many a) ys
  many_goes [] ys h e = absurd (cc)
  many_goes (x ∷ xs) ys h e =
      let l = shorter (Tree g d a) (lexemes_of g d a) (read g d a) (first a) (more a) item (x ∷ xs) ys e in
      once_more (first a) (read g d a) (length xs) (x ∷ xs) h
      ∙ ap (λ m. m >>= λ zs. times (length xs) (first a) (read g d a) zs) e
      ∙ enough (Tree g d a) (lexemes_of g d a) (read g d a) (first a) (more a) item (length xs) (length ys) ys (omega arith) (omega arith)

  pub many_fails : (xs u : List Lexeme) → begins (first a) xs ≡ true → read g d a xs ≡ Err u → read g d (Many a) xs ≡ Err u
  many_fails [] u h e = absurd (cc)
  many_fails (x ∷ xs) u h e =
      once_more (first a) (read g d a) (length xs) (x ∷ xs) h ∙ ap (λ m. m >>= λ zs. times (length xs) (first a) (read g d a) zs) e

pub many_stops : (g : Grammar) (d : ℕ) (a : Rule) (xs : List Lexeme) → begins (first a) xs ≡ false → read g d (Many a) xs ≡ Ok xs
many_stops g d a xs h = no_more (first a) (read g d a) (length xs) xs h

pub one_here : (k : ℕ) (xs : List Lexeme) → one k (Fixed k ∷ xs) ≡ Ok xs
one_here k xs = cond-true (k == k) (Ok xs) (Err (Fixed k ∷ xs)) (eq-eqb k k refl)

pub begins_here : (k : ℕ) (xs : List Lexeme) → begins (k ∷ []) (Fixed k ∷ xs) ≡ true
begins_here k xs = rw (eq-eqb k k refl) refl

or_no : (b : Bool) → (b || false) ≡ false → b ≡ false
or_no true h = absurd (cc)
or_no false h = refl

pub one_not : (k : ℕ) (xs : List Lexeme) → begins (k ∷ []) xs ≡ false → one k xs ≡ Err xs
one_not k [] h = refl
one_not k (Fixed j ∷ xs) h = rw (or_no (j == k) h) refl
one_not k (Named j t ∷ xs) h = refl

-- a rule after a mark
module _ (g : Grammar) (closed : IsClosed g) (d k : ℕ) (a : Rule) (clear : is_clear false (Many (Seq (One k) a)) ≡ true) where
  pub marked_goes : (xs ys zs : List Lexeme) → xs ≡ Fixed k ∷ ys → read g d a ys ≡ Ok zs → read g d (Many (Seq (One k) a)) xs ≡ read g d (Many (Seq (One k) a)) zs
  marked_goes xs ys zs e h =
      many_goes g closed d (Seq (One k) a) clear xs zs (ap (begins (k ∷ [])) e ∙ begins_here k ys) (ap (λ (t : List Lexeme). one k t >>= λ ts. read g d a ts) e ∙ ap (λ m. m >>= λ ts. read g d a ts) (one_here k ys) ∙ h)

  pub marked_fails : (xs ys u : List Lexeme) → xs ≡ Fixed k ∷ ys → read g d a ys ≡ Err u → read g d (Many (Seq (One k) a)) xs ≡ Err u
  marked_fails xs ys u e h =
      many_fails g closed d (Seq (One k) a) clear xs u (ap (begins (k ∷ [])) e ∙ begins_here k ys) (ap (λ (t : List Lexeme). one k t >>= λ ts. read g d a ts) e ∙ ap (λ m. m >>= λ ts. read g d a ts) (one_here k ys) ∙ h)

pub inside : (g : Grammar) (d k n : ℕ) (xs : List Lexeme) → 0 < d → read g d (Nest k n) xs ≡ (one k xs >>= λ ys. read g (d - 1) (g n) ys)
inside g zero k n xs h = absurd (omega arith)
inside g (suc d) k n xs h =
    let e : suc d - 1 ≡ d = omega arith in rw e refl

pub begun : (g : Grammar) (d k n : ℕ) (xs : List Lexeme) → 0 < d → read g d (Begun k n) xs ≡ (any k xs >>= λ ys. read g (d - 1) (g n) ys)
begun g zero k n xs h = absurd (omega arith)
begun g (suc d) k n xs h =
    let e : suc d - 1 ≡ d = omega arith in rw e refl

-- where no more construct may be open its first lexeme is refused
pub nest_refused : (g : Grammar) (d k n : ℕ) (xs : List Lexeme) → d ≡ 0 → read g d (Nest k n) xs ≡ Err xs
nest_refused g d k n xs h = rw h refl

pub begun_refused : (g : Grammar) (d k n : ℕ) (xs : List Lexeme) → d ≡ 0 → read g d (Begun k n) xs ≡ Err xs
begun_refused g d k n xs h = rw h refl

pub any_here : (k : ℕ) (label : Label) (xs : List Lexeme) → any k (Named k label ∷ xs) ≡ Ok xs
any_here k label xs = cond-true (k == k) (Ok xs) (Err (Named k label ∷ xs)) (eq-eqb k k refl)

pub begins_named : (k : ℕ) (label : Label) (xs : List Lexeme) → begins (k ∷ []) (Named k label ∷ xs) ≡ true
begins_named k label xs = rw (eq-eqb k k refl) refl

pub any_not : (k : ℕ) (xs : List Lexeme) → begins (k ∷ []) xs ≡ false → any k xs ≡ Err xs
any_not k [] h = refl
any_not k (Fixed j ∷ xs) h = refl
any_not k (Named j label ∷ xs) h = rw (or_no (j == k) h) refl

-- a rule that is read again and again takes a lexeme at least
pub item_shorter : (g : Grammar) → IsClosed g → (d : ℕ) (a : Rule) → is_clear false (Many a) ≡ true → (xs ys : List Lexeme) → read g d a xs ≡ Ok ys → length ys < length xs
item_shorter g closed d a clear xs ys e = shorter (Tree g d a) (lexemes_of g d a) (read g d a) (first a) (more a) (item g closed d a clear) xs ys e
