use Rattle.std.proofs.Common.{map, ◌∷◌}
use Rattle.std.proofs.lemmas.Result.{err_from_is_err_and}
use Rattle.al_tree_grammar.specs.Grammar.{each}
use Rattle.al_tree_syntax.specs.DeclarationTrees.{compound_tokens}
use Rattle.al_tree_syntax.specs.Expressions.{compound_name_rule}
use Rattle.al_tree_syntax.specs.Symbols.{number}
use Rattle.al_tree_syntax.specs.Symbols.Symbol.{Comma}
use Rattle.al_tree_syntax.specs.Words.{word}
use Rattle.al_tree.specs.declared.names.CompoundName.{CompoundName}
use Rattle.al_tree.specs.DeclarationViews.{compound_model}
use Rattle.al_tree.specs.Lexemes.{lexemes}
use Rattle.al_parse.proofs.ExprClear.{names_clear}
use Rattle.al_parse.proofs.Loops.{marked_next, marked_over, marked_err, seen_push}
use Rattle.al_parse.proofs.list.more_names.Goals as goal

pub more-preserved : goal.more-preserved
more-preserved c =
    marked_next CompoundName (λ xs. each (λ n. word Comma ∷ compound_tokens n) (map compound_model xs)) (λ n. compound_tokens (compound_model n)) (number Comma) (seen_push compound_model (λ n. word Comma ∷ compound_tokens n)) 0 compound_name_rule names_clear
    c.more.names.items c.append.new.list.items c.in_ok-name.name (lexemes c.args.source.now c.args.tokens.now) (lexemes c.args.source.now c.more.rest.now) (lexemes c.args.source.now c.in-Some.after.now) (lexemes c.args.source.now c.in_ok-name.after.now) c.more.invariant c.in-Some.ensures.found c.in_ok-name.ensures c.in_ok-append.ensures.items

pub returns : goal.returns
returns c =
    marked_over CompoundName (λ xs. each (λ n. word Comma ∷ compound_tokens n) (map compound_model xs)) (λ n. compound_tokens (compound_model n)) (number Comma) (seen_push compound_model (λ n. word Comma ∷ compound_tokens n)) 0 compound_name_rule names_clear
    c.more.names.items (lexemes c.args.source.now c.args.tokens.now) (lexemes c.args.source.now c.more.rest.now) c.more.invariant c.in_default.ensures.other

pub returns-in_err-name : goal.returns-in_err-name
returns-in_err-name c =
    let p = err_from_is_err_and c.from_residual.result c.from_residual.ensures.1 in
    rw (p.1, p.2) (marked_err CompoundName (λ xs. each (λ n. word Comma ∷ compound_tokens n) (map compound_model xs)) (λ n. compound_tokens (compound_model n)) (number Comma) (seen_push compound_model (λ n. word Comma ∷ compound_tokens n)) 0 compound_name_rule names_clear
    (each (λ n. word Comma ∷ compound_tokens n) (map compound_model c.more.names.items)) (lexemes c.args.source.now c.args.tokens.now) (lexemes c.args.source.now c.more.rest.now) (lexemes c.args.source.now c.in-Some.after.now) c.in_err-name.field-0.0 c.more.invariant c.in-Some.ensures.found c.in_err-name.ensures)
