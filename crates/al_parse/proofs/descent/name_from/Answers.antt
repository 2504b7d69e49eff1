use Rattle.std.proofs.Common.{◌++◌, sym, ap, ◌∙◌}
use Rattle.al_tree_syntax.specs.ExpressionTrees.{expression_tokens, name_tokens}
use Rattle.al_tree_syntax.specs.Expressions.{name_rest_rule}
use Rattle.al_tree.specs.ExpressionViews.{expression_model, longer_model, part_model}
use Rattle.al_tree.specs.Lexemes.{lexemes}
use Rattle.al_parse.specs.Names.{part_rule}
use Rattle.al_parse.specs.Parses.{Took, reading}
use Rattle.al_parse.proofs.ExprClear.{parts_clear}
use Rattle.al_parse.proofs.Loops.{fewer}
use Rattle.al_parse.proofs.Parts.{rest_err, rest_next, rest_over}
use Rattle.al_parse.proofs.descent.name_from.Goals as goal

pub returns-in-Err : goal.returns-in-Err
returns-in-Err c = rest_err c.args.depth (expression_model c.more.name) (expression_tokens (expression_model c.name-name.result) ++ lexemes c.args.source.now c.args.tokens.now) (lexemes c.args.source.now c.args.tokens.now) (lexemes c.args.source.now c.more.rest.now) c.in-Err.stop c.more.invariant (sym c.begins_part.ensures ∙ c.more-test.true) c.in-Err.ensures.read

pub more-smaller : goal.more-smaller
more-smaller c = fewer c.args.depth part_rule parts_clear c.args.source.now c.more.rest.now c.in-Ok.read.1.now c.in-Ok.ensures.read.1

pub more-preserved : goal.more-preserved
more-preserved c =
    let made = c.longer-name.ensures.seen ∙ ap longer_model c.in_ok-boxed.ensures.kept ∙ c.new-longer.ensures.seen in
    let tokens = c.longer-name.ensures.tokens ∙ ap (λ n. expression_tokens (longer_model n)) c.in_ok-boxed.ensures.kept ∙ c.new-longer.ensures.tokens in
    rest_next c.args.depth (expression_model c.more.name) (expression_model c.longer-name.result) (part_model c.in-Ok.read.0) (expression_tokens (expression_model c.name-name.result) ++ lexemes c.args.source.now c.args.tokens.now) (lexemes c.args.source.now c.args.tokens.now) (lexemes c.args.source.now c.more.rest.now) (lexemes c.args.source.now c.in-Ok.read.1.now)
    c.more.invariant (sym c.begins_part.ensures ∙ c.more-test.true) c.in-Ok.ensures.read c.in-Ok.ensures.level made tokens

pub returns : goal.returns
returns c =
    let took = rest_over c.args.depth (expression_model c.more.name) (expression_tokens (expression_model c.name-name.result) ++ lexemes c.args.source.now c.args.tokens.now) (lexemes c.args.source.now c.args.tokens.now) (lexemes c.args.source.now c.more.rest.now) c.more.invariant (sym c.begins_part.ensures ∙ c.more-test.false) in
    (ap (λ ts. ts ++ lexemes c.args.source.now c.args.tokens.now) (sym c.name-name.ensures.tokens) ∙ took.0, took.1)
