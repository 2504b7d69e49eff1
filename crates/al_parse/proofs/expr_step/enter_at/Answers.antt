use Rattle.std.proofs.lemmas.List.{length-map}
use Rattle.al_tree_grammar.proofs.Steps.{begun_refused}
use Rattle.al_tree_syntax.specs.Rules.{grammar}
use Rattle.al_tree_syntax.specs.Symbols.{number}
use Rattle.al_tree.specs.Lexemes.{lexeme_of, lexemes}
use Rattle.al_tree.specs.Symbols.{symbol_model}
use Rattle.al_parse.proofs.expr_step.enter_at.Goals as goal

pub returns-then-depth-eq0 : goal.returns-then-depth-eq0
returns-then-depth-eq0 c = λ n.
    (lexemes c.args.source.now c.args.tokens.now, begun_refused grammar c.args.depth (number (symbol_model c.args.symbol)) n (lexemes c.args.source.now c.args.tokens.now) c.if-depth-eq0.true, length-map c.args.tokens.now (lexeme_of c.args.source.now))
