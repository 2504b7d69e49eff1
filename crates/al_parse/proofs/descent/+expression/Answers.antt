use Rattle.std.proofs.Common.{[], ◌∷◌, ◌++◌, sym, ap, ◌∙◌}
use Rattle.std.proofs.lemmas.Result.{err_from_is_err_and}
use Rattle.al_tree_grammar.specs.Grammar.{each}
use Rattle.al_tree_grammar.specs.Grammar.Rule.{Many}
use Rattle.al_tree_syntax.specs.ExpressionTrees.{expression_tokens, stands}
use Rattle.al_tree_syntax.specs.ExpressionTrees.Level.{NameLevel}
use Rattle.al_tree_syntax.specs.Expressions.{expression_rule}
use Rattle.al_tree_syntax.specs.Symbols.{Symbol as symbols, number}
use Rattle.al_tree_syntax.specs.Symbols.Symbol.{Comma}
use Rattle.al_tree_syntax.specs.Words.{labelled, word}
use Rattle.al_tree.specs.declared.expression.Expression.{Expression}
use Rattle.al_tree.specs.ExpressionViews.{expression_model, infix_model, longer_model, operator_model, part_model}
use Rattle.al_tree.specs.Lexemes.{identifier_label, lexemes}
use Rattle.al_parse.proofs.ExprClear.{expressions_clear, parts_clear}
use Rattle.al_parse.proofs.Loops.{each_push, fewer, marked_next, marked_over, marked_err}
use Rattle.al_parse.specs.Names.{part_rule}
use Rattle.al_parse.proofs.Chained.{linked_err, linked_next, linked_over}
use Rattle.al_parse.proofs.Parts.{name_first_err, parts_err, parts_first, parts_next, parts_over}
use Rattle.al_parse.proofs.descent.+expression.Goals as goal

pub more_expressions-more-preserved : goal.more_expressions-more-preserved
more_expressions-more-preserved t c =
    marked_next Expression (λ xs. each (λ e. word Comma ∷ expression_tokens (expression_model e)) xs) (λ e. expression_tokens (expression_model e)) (number Comma) (each_push (λ e. word Comma ∷ expression_tokens (expression_model e))) c.args.depth expression_rule expressions_clear c.more.expressions.items c.append.new.list.items c.in_ok-expression.expression (lexemes c.args.source.now c.args.tokens.now) (lexemes c.args.source.now c.more.rest.now) (lexemes c.args.source.now c.in-Some.after.now) (lexemes c.args.source.now c.in_ok-expression.after.now)
    c.more.invariant c.in-Some.ensures.found c.in_ok-expression.ensures c.in_ok-append.ensures.items

pub more_expressions-returns : goal.more_expressions-returns
more_expressions-returns t c = marked_over Expression (λ xs. each (λ e. word Comma ∷ expression_tokens (expression_model e)) xs) (λ e. expression_tokens (expression_model e)) (number Comma) (each_push (λ e. word Comma ∷ expression_tokens (expression_model e))) c.args.depth expression_rule expressions_clear c.more.expressions.items (lexemes c.args.source.now c.args.tokens.now) (lexemes c.args.source.now c.more.rest.now) c.more.invariant c.in_default.ensures.other

pub more_expressions-returns-in_err-expression : goal.more_expressions-returns-in_err-expression
more_expressions-returns-in_err-expression t c =
    let p = err_from_is_err_and c.from_residual.result c.from_residual.ensures.1 in
    rw (p.1, p.2) (marked_err Expression (λ xs. each (λ e. word Comma ∷ expression_tokens (expression_model e)) xs) (λ e. expression_tokens (expression_model e)) (number Comma) (each_push (λ e. word Comma ∷ expression_tokens (expression_model e))) c.args.depth expression_rule expressions_clear (each (λ e. word Comma ∷ expression_tokens (expression_model e)) c.more.expressions.items) (lexemes c.args.source.now c.args.tokens.now) (lexemes c.args.source.now c.more.rest.now) (lexemes c.args.source.now c.in-Some.after.now) c.in_err-expression.field-0.0 c.more.invariant c.in-Some.ensures.found c.in_err-expression.ensures)

pub chain-more-preserved : goal.chain-more-preserved
chain-more-preserved t c =
    let made = c.infix-whole.ensures.seen ∙ ap infix_model c.in_ok-boxed.ensures.kept ∙ c.new-operation.ensures.seen in
    let tokens = c.infix-whole.ensures.tokens ∙ ap (λ n. expression_tokens (infix_model n)) c.in_ok-boxed.ensures.kept ∙ c.new-operation.ensures.tokens in
    linked_next c.args.links c.args.depth (expression_tokens (expression_model c.args.left)) (lexemes c.args.source.now c.args.tokens.now) (expression_model c.more.whole) (expression_model c.in-Ok.read.1) (expression_model c.infix-whole.result) (operator_model c.in-Ok.read.0) (lexemes c.args.source.now c.more.rest.now) (lexemes c.args.source.now c.in-Ok.read.2.now)
    c.more.invariant (sym c.begins_link.ensures ∙ c.more-test.true) c.in-Ok.ensures.read c.in-Ok.ensures.level made tokens

pub chain-returns-in-Err-clause-read : goal.chain-returns-in-Err-clause-read
chain-returns-in-Err-clause-read t c =
    linked_err c.args.links c.args.depth (expression_tokens (expression_model c.args.left)) (lexemes c.args.source.now c.args.tokens.now) (expression_model c.more.whole) (lexemes c.args.source.now c.more.rest.now) c.in-Err.stop c.more.invariant (sym c.begins_link.ensures ∙ c.more-test.true) c.in-Err.ensures.read

pub chain-returns-clause-read : goal.chain-returns-clause-read
chain-returns-clause-read t c =
    linked_over c.args.links c.args.depth (expression_tokens (expression_model c.args.left)) (lexemes c.args.source.now c.args.tokens.now) (expression_model c.more.whole) (lexemes c.args.source.now c.more.rest.now) c.more.invariant (sym c.begins_link.ensures ∙ c.more-test.false)

pub object_name-returns-in_err-first-clause-read : goal.object_name-returns-in_err-first-clause-read
object_name-returns-in_err-first-clause-read t c =
    let p = err_from_is_err_and c.from_residual.result c.from_residual.ensures.1 in
    rw (p.1, p.2) (name_first_err c.args.depth (lexemes c.args.source.now c.args.tokens.now) c.in_err-first.field-0.0 c.in_err-first.ensures)

pub object_name-more-init : goal.object_name-more-init
object_name-more-init t c =
    parts_first c.args.depth (expression_model c.name-name.result) (labelled symbols.Identifier (identifier_label c.in_ok-first.first)) (lexemes c.args.source.now c.args.tokens.now) (lexemes c.args.source.now c.in_ok-first.after.now) c.in_ok-first.ensures c.name-name.ensures.tokens (ap (stands NameLevel) c.name-name.ensures.seen)

pub object_name-returns-in-Err-clause-read : goal.object_name-returns-in-Err-clause-read
object_name-returns-in-Err-clause-read t c =
    parts_err c.args.depth (expression_model c.more.name) (lexemes c.args.source.now c.args.tokens.now) (lexemes c.args.source.now c.more.rest.now) c.in-Err.stop c.more.invariant (sym c.goes_on.ensures ∙ c.more-test.true) c.in-Err.ensures.read

pub object_name-more-smaller : goal.object_name-more-smaller
object_name-more-smaller t c = fewer c.args.depth part_rule parts_clear c.args.source.now c.more.rest.now c.in-Ok.read.1.now c.in-Ok.ensures.read.1

pub object_name-more-preserved : goal.object_name-more-preserved
object_name-more-preserved t c =
    let made = c.longer-name.ensures.seen ∙ ap longer_model c.in_ok-boxed.ensures.kept ∙ c.new-longer.ensures.seen in
    let tokens = c.longer-name.ensures.tokens ∙ ap (λ n. expression_tokens (longer_model n)) c.in_ok-boxed.ensures.kept ∙ c.new-longer.ensures.tokens in
    parts_next c.args.depth (expression_model c.more.name) (expression_model c.longer-name.result) (part_model c.in-Ok.read.0) (lexemes c.args.source.now c.args.tokens.now) (lexemes c.args.source.now c.more.rest.now) (lexemes c.args.source.now c.in-Ok.read.1.now)
    c.more.invariant (sym c.goes_on.ensures ∙ c.more-test.true) c.in-Ok.ensures.read c.in-Ok.ensures.level made tokens

pub object_name-returns-clause-read : goal.object_name-returns-clause-read
object_name-returns-clause-read t c = parts_over c.args.depth (expression_model c.more.name) (lexemes c.args.source.now c.args.tokens.now) (lexemes c.args.source.now c.more.rest.now) c.more.invariant (sym c.goes_on.ensures ∙ c.more-test.false)
