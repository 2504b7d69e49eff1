use Rattle.al_tree_grammar.specs.Grammar.Rule.{Begun, One, Seq}
use Rattle.al_parse.proofs.Rooms.{no_room, stops_in_room, took_in_room}
use Rattle.al_tree_syntax.specs.DeclarationTrees.{array_tokens}
use Rattle.al_tree_syntax.specs.Declarations.{array_rule, subtype_indication_rule}
use Rattle.al_tree.specs.DeclarationViews.{array_model}
use Rattle.al_tree.specs.Lexemes.{lexeme_of, lexemes}
use Rattle.std.proofs.Common.{arith}
use Rattle.std.proofs.lemmas.List.{length-map}
use Rattle.std.proofs.lemmas.Result.{err_from_is_err_and}
use Rattle.al_parse.proofs.declaration.array_definition.Goals as goal

pub returns-then-depth-eq0 : goal.returns-then-depth-eq0
unfolding array_rule
returns-then-depth-eq0 c =
    let xs = lexemes c.args.source.now c.args.tokens.now in
    (xs, no_room c.args.depth (Seq (One 28) (Seq (Begun 5 6) (Seq (One 49) subtype_indication_rule))) xs c.if-depth-eq0.true, length-map c.args.tokens.now (lexeme_of c.args.source.now))

pub returns-in_err-array : goal.returns-in_err-array
unfolding array_rule
returns-in_err-array c =
    let p = err_from_is_err_and c.from_residual.result c.from_residual.ensures.1 in
    rw (p.1, p.2) (stops_in_room c.in_err-array.field-0.0 c.args.depth (Seq (One 28) (Seq (Begun 5 6) (Seq (One 49) subtype_indication_rule))) (lexemes c.args.source.now c.args.tokens.now) (omega arith) c.in_err-array.ensures)

pub returns : goal.returns
unfolding array_rule
returns c =
    took_in_room c.args.depth (Seq (One 28) (Seq (Begun 5 6) (Seq (One 49) subtype_indication_rule))) (array_tokens (array_model c.in_ok-array.array)) (lexemes c.args.source.now c.in_ok-array.rest.now) (lexemes c.args.source.now c.args.tokens.now) (lexemes c.args.source.now c.args.tokens.now) (omega arith) c.in_ok-array.ensures
