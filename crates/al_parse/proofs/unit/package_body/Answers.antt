use Rattle.std.proofs.lemmas.Result.{err_from_is_err_and}
use Rattle.al_tree_grammar.specs.Grammar.Rule.{Many, Opt}
use Rattle.al_tree_syntax.specs.Declarations.{item_rule}
use Rattle.al_tree_syntax.specs.Expressions.{identifier_rule, compound_name_rule}
use Rattle.al_tree_syntax.specs.Notation.{◌⨾◌, the, any}
use Rattle.al_tree_syntax.specs.Statements.{statements_rule}
use Rattle.al_tree_syntax.specs.Symbols.{Symbol as symbols}
use Rattle.al_tree_syntax.specs.Units.{package_body_rule}
use Rattle.al_tree.specs.Lexemes.{lexemes}
use Rattle.al_parse.proofs.Rooms.{stops_second}
use Rattle.al_parse.proofs.unit.package_body.Goals as goal

pub returns-in_err-items : goal.returns-in_err-items
unfolding package_body_rule compound_name_rule identifier_rule
returns-in_err-items c =
    let p = err_from_is_err_and c.from_residual-in_err-items.result c.from_residual-in_err-items.ensures.1 in
    rw (p.1, p.2) (stops_second c.in_err-items.field-0.0 c.args.depth compound_name_rule (the symbols.Is ⨾ Many item_rule ⨾ Opt (any symbols.Begin ⨾ statements_rule) ⨾ any symbols.End ⨾ Opt compound_name_rule ⨾ the symbols.Semicolon) (lexemes c.args.source.now c.args.tokens.now) (lexemes c.args.source.now c.in_ok-name.rest.now) c.in_ok-name.ensures.1 c.in_err-items.ensures)
