use Rattle.std.proofs.lemmas.List.{length-map}
use Rattle.al_tree_grammar.proofs.Steps.{any_not}
use Rattle.al_tree.specs.Lexemes.{lexeme_of, lexemes}
use Rattle.al_parse.proofs.expr_step.string.Goals as goal

pub returns-in_default : goal.returns-in_default
returns-in_default c =
    let xs = lexemes c.args.source.now c.args.tokens.now in
    (xs, any_not 2 xs (c.in_default.ensures.other c.args.source.now), length-map c.args.tokens.now (lexeme_of c.args.source.now))
