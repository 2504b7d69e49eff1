use Rattle.std.proofs.lemmas.Result.{err_from_is_err_and}
use Rattle.al_tree_grammar.specs.Grammar.Rule.{Many, Opt}
use Rattle.al_tree_syntax.specs.Declarations.{declaration_rule}
use Rattle.al_tree_syntax.specs.Expressions.{identifier_rule, compound_name_rule}
use Rattle.al_tree_syntax.specs.Notation.{◌⨾◌, the, any}
use Rattle.al_tree_syntax.specs.Symbols.{Symbol as symbols}
use Rattle.al_tree_syntax.specs.Units.{package_rule}
use Rattle.al_tree.specs.Lexemes.{lexemes}
use Rattle.al_parse.proofs.Rooms.{stops_first, stops_second}
use Rattle.al_parse.proofs.unit.package_declaration.Goals as goal

pub returns-in_err-rest : goal.returns-in_err-rest
unfolding package_rule compound_name_rule identifier_rule
returns-in_err-rest c =
    let p = err_from_is_err_and c.from_residual-in_err-rest.result c.from_residual-in_err-rest.ensures.1 in
    rw (p.1, p.2) (stops_second c.in_err-rest.field-0.0 c.args.depth compound_name_rule (the symbols.Is ⨾ Many declaration_rule ⨾ Opt (any symbols.Private ⨾ Many declaration_rule) ⨾ any symbols.End ⨾ Opt compound_name_rule ⨾ the symbols.Semicolon) (lexemes c.args.source.now c.args.tokens.now) (lexemes c.args.source.now c.in_ok-name.rest.now) c.in_ok-name.ensures.1
    (stops_first c.in_err-rest.field-0.0 c.args.depth (the symbols.Is) (Many declaration_rule ⨾ Opt (any symbols.Private ⨾ Many declaration_rule) ⨾ any symbols.End ⨾ Opt compound_name_rule ⨾ the symbols.Semicolon) (lexemes c.args.source.now c.in_ok-name.rest.now) c.in_err-rest.ensures))
