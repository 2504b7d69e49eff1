use Rattle.std.proofs.Common.{◌≡◌, ◌<◌, length, sym, ◌∙◌, eqb-true, arith}
use Rattle.std.proofs.lemmas.Bool.{eqb-false}
use Rattle.std.proofs.lemmas.List.{length-map}
use Rattle.std.proofs.lemmas.Result.{err_from_is_err_and}
use Rattle.al_tree.specs.Lexemes.{lexeme_of, lexemes}
use Rattle.al_tree.specs.UnitViews.{unit_model}
use Rattle.al_parse.proofs.Texts.{refuses, goes_over, is_tree}
use Rattle.al_parse.proofs.parsing.whole.Goals as goal

pub returns-in_err-unit-clause-fault : goal.returns-in_err-unit-clause-fault
returns-in_err-unit-clause-fault c =
    let p = err_from_is_err_and c.from_residual.result c.from_residual.ensures.1 in
    rw (p.1, p.2) (refuses c.in_err-unit.field-0.0 (lexemes c.args.source.now c.args.tokens.now) c.in_err-unit.ensures)

pub returns-then-not-is_empty-clause-fault : goal.returns-then-not-is_empty-clause-fault
returns-then-not-is_empty-clause-fault c =
    let rest = c.in_ok-unit.rest.now in
    let some : 0 < length rest = omega (arith, eqb-false (length rest) 0 (sym c.is_empty.ensures ∙ c.if-not-is_empty.true)) in
    goes_over (lexemes c.args.source.now c.args.tokens.now) (lexemes c.args.source.now rest) (length rest) c.in_ok-unit.ensures.1 (length-map rest (lexeme_of c.args.source.now)) some

pub returns-clause-found : goal.returns-clause-found
returns-clause-found c =
    let rest = c.in_ok-unit.rest.now in
    is_tree (unit_model c.in_ok-unit.unit) (lexemes c.args.source.now c.args.tokens.now) (lexemes c.args.source.now rest) (length-map rest (lexeme_of c.args.source.now) ∙ eqb-true (length rest) 0 (sym c.is_empty.ensures ∙ c.if-not-is_empty.false)) c.in_ok-unit.ensures
