use Rattle.std.proofs.Common.{ℕ, ◌≡◌, ◌==◌, ◌||◌, ◌+◌, ◌<◌, ◌≤◌, true, false, Bool, List, [], ◌∷◌, map, length, drop, get_or, refl, sym, ap, ◌∙◌, add-one}
use Rattle.std.proofs.Math.Seq.{drop-cons}
use Rattle.std.proofs.lemmas.List.{drop_all}
use Rattle.std.proofs.Math.Bool.{or-false}
use Rattle.al_tree_grammar.specs.Grammar.{Lexeme, kind}
use Rattle.al_tree_grammar.specs.Reading.{begins, mem}
use Rattle.al_tree_syntax.specs.Symbols.{number}
use Rattle.al_tree.specs.Lexemes.{lexemes}
use Rattle.al_tree.specs.Symbols.{symbol_model}
use Rattle.al_tree.specs.declared.symbol.Symbol.{Symbol}
use Rattle.al_parse.proofs.step.is_any_next.Goals as goal

kinds : List Symbol → List ℕ
kinds ss = map (λ s. number (symbol_model s)) ss

one_of : (k : ℕ) (ks : List ℕ) (xs : List Lexeme) → begins (k ∷ ks) xs ≡ (begins (k ∷ []) xs || begins ks xs)
one_of k ks [] = refl
one_of k ks (x ∷ xs) = ap (λ b. b || mem (kind x) ks) (sym (or-false (kind x == k)))

here : (ss : List Symbol) (i : ℕ) (d : Symbol) (xs : List Lexeme) → i < length ss → begins (kinds (drop i ss)) xs ≡ (begins (number (symbol_model (get_or ss i d)) ∷ []) xs || begins (kinds (drop (i + 1) ss)) xs)
unfolding kinds
here ss i d xs h = ap (λ (t : List Symbol). begins (kinds t) xs) (drop-cons ss i d h ∙ ap (λ (n : ℕ). get_or ss i d ∷ drop n ss) (sym (add-one i))) ∙ one_of (number (symbol_model (get_or ss i d))) (kinds (drop (i + 1) ss)) xs

later : (ss : List Symbol) (i : ℕ) (d : Symbol) (xs : List Lexeme) (b : Bool) → i < length ss → b ≡ begins (number (symbol_model (get_or ss i d)) ∷ []) xs → b ≡ false → begins (kinds ss) xs ≡ begins (kinds (drop i ss)) xs → begins (kinds ss) xs ≡ begins (kinds (drop (i + 1) ss)) xs
later ss i d xs b h e n kept = kept ∙ here ss i d xs h ∙ ap (λ (c : Bool). c || begins (kinds (drop (i + 1) ss)) xs) (sym e ∙ n)

found : (ss : List Symbol) (i : ℕ) (d : Symbol) (xs : List Lexeme) (b : Bool) → i < length ss → b ≡ begins (number (symbol_model (get_or ss i d)) ∷ []) xs → b ≡ true → begins (kinds ss) xs ≡ begins (kinds (drop i ss)) xs → true ≡ begins (kinds ss) xs
found ss i d xs b h e y kept = sym (kept ∙ here ss i d xs h ∙ ap (λ (c : Bool). c || begins (kinds (drop (i + 1) ss)) xs) (sym e ∙ y))

none_of : (xs : List Lexeme) → begins [] xs ≡ false
none_of [] = refl
none_of (x ∷ xs) = refl

over : (ss : List Symbol) (i : ℕ) (xs : List Lexeme) → length ss ≤ i → begins (kinds ss) xs ≡ begins (kinds (drop i ss)) xs → false ≡ begins (kinds ss) xs
unfolding kinds
over ss i xs h kept = sym (kept ∙ ap (λ (t : List Symbol). begins (kinds t) xs) (drop_all i ss h) ∙ none_of xs)

pub loop-symbol-preserved : goal.loop-symbol-preserved
unfolding kinds
loop-symbol-preserved c = later c.args.symbols.now c.loop-symbol.symbol-index _ (lexemes c.args.source.now c.args.tokens.now) c.is_next.result c.loop-symbol-test.true c.is_next.ensures c.if-is_next.false c.loop-symbol.invariant

pub returns-then-is_next : goal.returns-then-is_next
unfolding kinds
returns-then-is_next c = found c.args.symbols.now c.loop-symbol.symbol-index _ (lexemes c.args.source.now c.args.tokens.now) c.is_next.result c.loop-symbol-test.true c.is_next.ensures c.if-is_next.true c.loop-symbol.invariant

pub returns : goal.returns
unfolding kinds
returns c = over c.args.symbols.now c.loop-symbol.symbol-index (lexemes c.args.source.now c.args.tokens.now) c.loop-symbol-test.false c.loop-symbol.invariant
