use Rattle.std.proofs.Common.{map, ◌∷◌, [], refl}
use Rattle.std.proofs.lemmas.Result.{err_from_is_err_and}
use Rattle.al_tree_syntax.specs.DeclarationTrees.{after, identifier_token}
use Rattle.al_tree_syntax.specs.Expressions.{identifier_rule}
use Rattle.al_tree_syntax.specs.Symbols.{number}
use Rattle.al_tree_syntax.specs.Words.{word}
use Rattle.al_tree.specs.declared.names.Identifier.{Identifier}
use Rattle.al_tree.specs.Lexemes.{identifier_label, lexemes}
use Rattle.al_tree.specs.Symbols.{symbol_model}
use Rattle.al_parse.proofs.Loops.{marked_next, marked_over, marked_err, seen_push}
use Rattle.al_parse.proofs.list.more_identifiers.Goals as goal

pub more-preserved : goal.more-preserved
unfolding identifier_rule
more-preserved c =
    let s = symbol_model c.args.separator in
    marked_next Identifier (λ xs. after s (map identifier_label xs)) (λ i. identifier_token (identifier_label i) ∷ []) (number s) (seen_push identifier_label (λ l. word s ∷ identifier_token l ∷ [])) 0 identifier_rule refl
    c.more.others.items c.append.new.list.items c.in_ok-other.other (lexemes c.args.source.now c.args.tokens.now) (lexemes c.args.source.now c.more.rest.now) (lexemes c.args.source.now c.in-Some.after.now) (lexemes c.args.source.now c.in_ok-other.after.now) c.more.invariant c.in-Some.ensures.found c.in_ok-other.ensures c.in_ok-append.ensures.items

pub returns : goal.returns
unfolding identifier_rule
returns c =
    let s = symbol_model c.args.separator in
    marked_over Identifier (λ xs. after s (map identifier_label xs)) (λ i. identifier_token (identifier_label i) ∷ []) (number s) (seen_push identifier_label (λ l. word s ∷ identifier_token l ∷ [])) 0 identifier_rule refl
    c.more.others.items (lexemes c.args.source.now c.args.tokens.now) (lexemes c.args.source.now c.more.rest.now) c.more.invariant c.in_default.ensures.other

pub returns-in_err-other : goal.returns-in_err-other
unfolding identifier_rule
returns-in_err-other c =
    let s = symbol_model c.args.separator in
    let p = err_from_is_err_and c.from_residual.result c.from_residual.ensures.1 in
    rw (p.1, p.2) (marked_err Identifier (λ xs. after s (map identifier_label xs)) (λ i. identifier_token (identifier_label i) ∷ []) (number s) (seen_push identifier_label (λ l. word s ∷ identifier_token l ∷ [])) 0 identifier_rule refl
    (after s (map identifier_label c.more.others.items)) (lexemes c.args.source.now c.args.tokens.now) (lexemes c.args.source.now c.more.rest.now) (lexemes c.args.source.now c.in-Some.after.now) c.in_err-other.field-0.0 c.more.invariant c.in-Some.ensures.found c.in_err-other.ensures)
