-- A stub without its semicolon.
use Rattle.std.proofs.Common.{ℕ, ◌≡◌, ◌∷◌, ap, ◌∙◌}
use Rattle.al_tree_grammar.specs.Grammar.{Label}
use Rattle.al_tree_grammar.specs.Grammar.Lexeme.{Named}
use Rattle.al_tree_grammar.specs.Grammar.Rule.{Nest}
use Rattle.al_tree_grammar.specs.Reading.{one}
use Rattle.al_tree_syntax.specs.Constructs.{construct_at}
use Rattle.al_tree_syntax.specs.Rules.{inside, grammar}
use Rattle.al_parse.specs.declared.stop.Stop.{Stop}
use Rattle.al_parse.specs.declared.stop.Stop.TheVariants.{Memory, Fault}
use Rattle.al_parse.specs.Parses.{Lexemes, Stops, reading}

-- after `is separate`, where a body might have stood
pub no_semicolon_inside : (e : Stop) (l : Label) (d inner : ℕ) (xs ys zs : Lexemes) → reading d (Nest 44 13) xs ≡ reading inner (grammar 13) ys → ys ≡ Named 63 l ∷ zs → Stops e (one 14 zs) → Stops e (reading d (Nest 44 13) xs)
unfolding grammar inside construct_at
no_semicolon_inside Memory l d inner xs ys zs h k s = tt
no_semicolon_inside (Fault left) l d inner xs ys zs h k s = (s.0, h ∙ ap (reading inner (grammar 13)) k ∙ s.1, s.2)
