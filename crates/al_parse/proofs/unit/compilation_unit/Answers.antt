use Rattle.al_tree_grammar.specs.Grammar.Rule.{Many}
use Rattle.al_parse.proofs.Rooms.{no_room, stops_in_room, took_in_room}
use Rattle.al_tree_syntax.specs.Notation.{◌⨾◌}
use Rattle.al_tree_syntax.specs.UnitTrees.{tokens_of}
use Rattle.al_tree_syntax.specs.Units.{context_rule, library_item_rule, unit_rule}
use Rattle.al_tree.specs.Lexemes.{lexeme_of, lexemes}
use Rattle.al_tree.specs.UnitViews.{unit_model}
use Rattle.std.proofs.Common.{arith}
use Rattle.std.proofs.lemmas.List.{length-map}
use Rattle.std.proofs.lemmas.Result.{err_from_is_err_and}
use Rattle.al_parse.proofs.unit.compilation_unit.Goals as goal

pub returns-then-depth-eq0 : goal.returns-then-depth-eq0
unfolding unit_rule
returns-then-depth-eq0 c =
    let xs = lexemes c.args.source.now c.args.tokens.now in
    (xs, no_room c.args.depth (Many context_rule ⨾ library_item_rule) xs c.if-depth-eq0.true, length-map c.args.tokens.now (lexeme_of c.args.source.now))

pub returns-in_err-unit : goal.returns-in_err-unit
unfolding unit_rule
returns-in_err-unit c =
    let p = err_from_is_err_and c.from_residual.result c.from_residual.ensures.1 in
    rw (p.1, p.2) (stops_in_room c.in_err-unit.field-0.0 c.args.depth (Many context_rule ⨾ library_item_rule) (lexemes c.args.source.now c.args.tokens.now) (omega arith) c.in_err-unit.ensures)

pub returns : goal.returns
unfolding unit_rule
returns c =
    took_in_room c.args.depth (Many context_rule ⨾ library_item_rule) (tokens_of (unit_model c.in_ok-unit.unit)) (lexemes c.args.source.now c.in_ok-unit.rest.now) (lexemes c.args.source.now c.args.tokens.now) (lexemes c.args.source.now c.args.tokens.now) (omega arith) c.in_ok-unit.ensures
