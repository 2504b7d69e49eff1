-- A loop that reads a rule any number of times.
use Rattle.std.proofs.Common.{ℕ, ◌≡◌, ◌<◌, true, false, List, [], ◌∷◌, ◌++◌, map, length, Ok, sym, ap, ◌∙◌, append_assoc, append-nil, arith}
use Rattle.std.proofs.lemmas.List.{length-map, map_push}
use Rattle.al_tree_grammar.specs.Grammar.{Rule, each}
use Rattle.al_tree_grammar.specs.Grammar.Lexeme.{Fixed}
use Rattle.al_tree_grammar.specs.Grammar.Rule.{One, Seq, Many}
use Rattle.al_tree_grammar.specs.Reading.{◌>>=◌, begins, first, is_clear, one}
use Rattle.al_tree_grammar.proofs.Steps.{begins_here, item_shorter, many_goes, many_fails, many_stops, one_here}
use Rattle.al_lex.specs.declared.token.Token.{Token}
use Rattle.al_tree_syntax.specs.Rules.{grammar}
use Rattle.al_tree_syntax.proofs.Clear.{closed}
use Rattle.al_tree.specs.Lexemes.{lexeme_of, lexemes}
use Rattle.al_parse.specs.declared.stop.Stop.{Stop}
use Rattle.al_parse.specs.declared.stop.Stop.TheVariants.{Memory, Fault}
use Rattle.al_parse.specs.Parses.{Lexemes, Took, Stops, reading}

-- what a loop has taken of the lexemes, and that reading goes on with the rest
pub record Kept (front rest all : Lexemes) (d : ℕ) (whole a : Rule) : Type 0 where
  pub taken : all ≡ front ++ rest
  pub goes_on : reading d whole all ≡ reading d a rest

pub each_push : {A : Type 0} (f : A → Lexemes) (xs : List A) (x : A) (rest : Lexemes) → each f xs ++ (f x ++ rest) ≡ each f (xs ++ x ∷ []) ++ rest
each_push f [] x rest = ap (λ (t : Lexemes). t ++ rest) (sym (append-nil (f x)))
each_push f (y ∷ xs) x rest = append_assoc (f y) (each f xs) (f x ++ rest) ∙ ap (λ (t : Lexemes). f y ++ t) (each_push f xs x rest) ∙ sym (append_assoc (f y) (each f (xs ++ x ∷ [])) rest)

-- f gives the lexemes of what is seen of an item
pub seen_push : {A B : Type 0} (see : A → B) (f : B → Lexemes) (xs : List A) (x : A) (rest : Lexemes) → each f (map see xs) ++ (f (see x) ++ rest) ≡ each f (map see (xs ++ x ∷ [])) ++ rest
seen_push see f xs x rest = each_push f (map see xs) (see x) rest ∙ ap (λ t. each f t ++ rest) (sym (map_push see xs x))

-- all gives the lexemes of items, and f those of one
module _ (A : Type 0) (all : List A → Lexemes) (f : A → Lexemes) (push : (xs : List A) (x : A) (rest : Lexemes) → all xs ++ (f x ++ rest) ≡ all (xs ++ x ∷ []) ++ rest) (d : ℕ) (a : Rule) (clear : is_clear false (Many a) ≡ true) where
  pub many_next : (whole : Rule) (xs ys : List A) (x : A) (ts rest last : Lexemes) → Kept (all xs) rest ts d whole (Many a) → begins (first a) rest ≡ true → Took (f x) last rest (reading d a rest) → ys ≡ xs ++ x ∷ []
      → Kept (all ys) last ts d whole (Many a)
  many_next whole xs ys x ts rest last kept h took same = record {
    taken = kept.taken ∙ ap (λ (t : Lexemes). all xs ++ t) took.0 ∙ push xs x last ∙ ap (λ (t : List A). all t ++ last) (sym same);
    goes_on = kept.goes_on ∙ many_goes grammar closed d a clear rest last h took.1;
  }

  pub many_over : (whole : Rule) (xs : List A) (ts rest : Lexemes) → Kept (all xs) rest ts d whole (Many a) → begins (first a) rest ≡ false → Took (all xs) rest ts (reading d whole ts)
  many_over whole xs ts rest kept h = (kept.taken, kept.goes_on ∙ many_stops grammar d a rest h)

  pub many_err : (whole : Rule) (taken ts rest : Lexemes) (e : Stop) → Kept taken rest ts d whole (Many a) → begins (first a) rest ≡ true → Stops e (reading d a rest) → Stops e (reading d whole ts)
  many_err whole taken ts rest Memory kept h s = tt
  many_err whole taken ts rest (Fault left) kept h s = (s.0, kept.goes_on ∙ many_fails grammar closed d a clear rest s.0 h s.1, s.2)

-- as numbers of tokens
pub fewer : (d : ℕ) (a : Rule) → is_clear false (Many a) ≡ true → (source : List ℕ) (ts us : List Token) → reading d a (lexemes source ts) ≡ Ok (lexemes source us) → length us < length ts
fewer d a clear source ts us e = omega (arith, item_shorter grammar closed d a clear (lexemes source ts) (lexemes source us) e, length-map ts (lexeme_of source), length-map us (lexeme_of source))

-- one item at least: the first, and then the others
module _ (d : ℕ) (a : Rule) (clear : is_clear false (Many a) ≡ true) where
  pub first_goes : (front others ts rest last : Lexemes) → begins (first a) ts ≡ true → Took front rest ts (reading d a ts) → Took others last rest (reading d (Many a) rest) → Took (front ++ others) last ts (reading d (Many a) ts)
  first_goes front others ts rest last h one more =
      (one.0 ∙ ap (λ (t : Lexemes). front ++ t) more.0 ∙ sym (append_assoc front others last), many_goes grammar closed d a clear ts rest h one.1 ∙ more.1)

  pub first_fails : (ts : Lexemes) (e : Stop) → begins (first a) ts ≡ true → Stops e (reading d a ts) → Stops e (reading d (Many a) ts)
  first_fails ts Memory h s = tt
  first_fails ts (Fault left) h s = (s.0, many_fails grammar closed d a clear ts s.0 h s.1, s.2)

  pub others_fail : (front ts rest : Lexemes) (e : Stop) → begins (first a) ts ≡ true → Took front rest ts (reading d a ts) → Stops e (reading d (Many a) rest) → Stops e (reading d (Many a) ts)
  others_fail front ts rest Memory h one s = tt
  others_fail front ts rest (Fault left) h one s = (s.0, many_goes grammar closed d a clear ts rest h one.1 ∙ s.1, s.2)

-- after a mark
at_mark : (k : ℕ) (rest after : Lexemes) → rest ≡ Fixed k ∷ after → begins (k ∷ []) rest ≡ true
at_mark k rest after e = ap (begins (k ∷ [])) e ∙ begins_here k after

mark_read : (d k : ℕ) (a : Rule) (rest after : Lexemes) → rest ≡ Fixed k ∷ after → reading d (Seq (One k) a) rest ≡ reading d a after
mark_read d k a rest after e = ap (λ (t : Lexemes). one k t >>= λ ts. reading d a ts) e ∙ ap (λ m. m >>= λ ts. reading d a ts) (one_here k after)

mark_took : (d k : ℕ) (a : Rule) (front rest after last : Lexemes) → rest ≡ Fixed k ∷ after → Took front last after (reading d a after) → Took (Fixed k ∷ front) last rest (reading d (Seq (One k) a) rest)
mark_took d k a front rest after last e took = (e ∙ ap (λ (t : Lexemes). Fixed k ∷ t) took.0, mark_read d k a rest after e ∙ took.1)

mark_stops : (d k : ℕ) (a : Rule) (rest after : Lexemes) (e : Stop) → rest ≡ Fixed k ∷ after → Stops e (reading d a after) → Stops e (reading d (Seq (One k) a) rest)
mark_stops d k a rest after Memory h s = tt
mark_stops d k a rest after (Fault left) h s = (s.0, mark_read d k a rest after h ∙ s.1, s.2)

-- the same, of a rule after a mark: f gives the lexemes after it
module _ (A : Type 0) (all : List A → Lexemes) (f : A → Lexemes) (k : ℕ) (push : (xs : List A) (x : A) (rest : Lexemes) → all xs ++ (Fixed k ∷ (f x ++ rest)) ≡ all (xs ++ x ∷ []) ++ rest) (d : ℕ) (a : Rule) (clear : is_clear false (Many (Seq (One k) a)) ≡ true) where
  pub marked_next : (xs ys : List A) (x : A) (ts rest after last : Lexemes) → Kept (all xs) rest ts d (Many (Seq (One k) a)) (Many (Seq (One k) a)) → rest ≡ Fixed k ∷ after → Took (f x) last after (reading d a after) → ys ≡ xs ++ x ∷ []
      → Kept (all ys) last ts d (Many (Seq (One k) a)) (Many (Seq (One k) a))
  marked_next xs ys x ts rest after last kept h took same =
      many_next A all (λ y. Fixed k ∷ f y) push d (Seq (One k) a) clear (Many (Seq (One k) a)) xs ys x ts rest last kept (at_mark k rest after h) (mark_took d k a (f x) rest after last h took) same

  pub marked_over : (xs : List A) (ts rest : Lexemes) → Kept (all xs) rest ts d (Many (Seq (One k) a)) (Many (Seq (One k) a)) → begins (k ∷ []) rest ≡ false → Took (all xs) rest ts (reading d (Many (Seq (One k) a)) ts)
  marked_over xs ts rest kept h = many_over A all (λ y. Fixed k ∷ f y) push d (Seq (One k) a) clear (Many (Seq (One k) a)) xs ts rest kept h

  pub marked_err : (taken ts rest after : Lexemes) (e : Stop) → Kept taken rest ts d (Many (Seq (One k) a)) (Many (Seq (One k) a)) → rest ≡ Fixed k ∷ after → Stops e (reading d a after) → Stops e (reading d (Many (Seq (One k) a)) ts)
  marked_err taken ts rest after e kept h s =
      many_err A all (λ y. Fixed k ∷ f y) push d (Seq (One k) a) clear (Many (Seq (One k) a)) taken ts rest e kept (at_mark k rest after h) (mark_stops d k a rest after e h s)
