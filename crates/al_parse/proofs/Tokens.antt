-- The lexeme of a token, by its symbol.
use Rattle.std.proofs.Common.{ℕ, ◌≡◌, true, List, ◌∷◌, ap, ◌∙◌}
use Rattle.std.proofs.lemmas.Bool.{cond-true}
use Rattle.al_tree_grammar.specs.Grammar.{Label, Lexeme}
use Rattle.al_tree_grammar.specs.Grammar.Lexeme.{Named}
use Rattle.al_lex.specs.declared.token.Token.{Token}
use Rattle.al_tree_syntax.specs.Symbols.{Symbol, is_labelled, number}
use Rattle.al_tree_syntax.specs.Words.{labelled, word}
use Rattle.al_tree.specs.Lexemes.{label_of, lexeme_as, lexemes}
use Rattle.al_parse.specs.Parses.{IsFirst}

as_lexeme : (source : List ℕ) (s : Symbol) (ts rest : List Token) (t : Token) → IsFirst s ts t rest → lexemes source ts ≡ lexeme_as s (label_of source t) ∷ lexemes source rest
as_lexeme source s ts rest t h = ap (lexemes source) h.here ∙ ap (λ (u : Symbol). lexeme_as u (label_of source t) ∷ lexemes source rest) h.sort

pub labelled_found : (source : List ℕ) (s : Symbol) (ts rest : List Token) (t : Token) (l : Label) → is_labelled s ≡ true → label_of source t ≡ l → IsFirst s ts t rest → lexemes source ts ≡ Named (number s) l ∷ lexemes source rest
labelled_found source s ts rest t l has e h =
    as_lexeme source s ts rest t h
    ∙ ap (λ (x : Lexeme). x ∷ lexemes source rest) (cond-true (is_labelled s) (labelled s (label_of source t)) (word s) has)
    ∙ ap (λ (m : Label). Named (number s) m ∷ lexemes source rest) e
