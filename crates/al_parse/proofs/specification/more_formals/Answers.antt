use Rattle.al_tree_grammar.specs.Grammar.{each}
use Rattle.al_tree_grammar.specs.Grammar.Lexeme.{Fixed}
use Rattle.al_parse.proofs.Clear.{more_formals_clear}
use Rattle.al_parse.proofs.Loops.{marked_err, marked_next, marked_over, seen_push}
use Rattle.al_tree_syntax.specs.DeclarationTrees.{formal_tokens}
use Rattle.al_tree_syntax.specs.Declarations.{formal_rule}
use Rattle.al_tree.specs.DeclarationViews.{formal_model}
use Rattle.al_tree.specs.Lexemes.{lexemes}
use Rattle.al_tree.specs.declared.declaration.Formal.{Formal}
use Rattle.std.proofs.Common.{map, ◌∷◌}
use Rattle.std.proofs.lemmas.Result.{err_from_is_err_and}
use Rattle.al_parse.proofs.specification.more_formals.Goals as goal

pub more-preserved : goal.more-preserved
more-preserved c = marked_next Formal (λ xs. each (λ y. Fixed 14 ∷ formal_tokens y) (map formal_model xs)) (λ x. formal_tokens (formal_model x)) 14 (seen_push formal_model (λ y. Fixed 14 ∷ formal_tokens y)) 0 formal_rule more_formals_clear c.more.items.items c.append.new.list.items c.in_ok-next.next (lexemes c.args.source.now c.args.tokens.now) (lexemes c.args.source.now c.more.rest.now) (lexemes c.args.source.now c.in-Some.after.now) (lexemes c.args.source.now c.in_ok-next.after.now) c.more.invariant c.in-Some.ensures.found c.in_ok-next.ensures c.in_ok-append.ensures.items

pub returns : goal.returns
returns c = marked_over Formal (λ xs. each (λ y. Fixed 14 ∷ formal_tokens y) (map formal_model xs)) (λ x. formal_tokens (formal_model x)) 14 (seen_push formal_model (λ y. Fixed 14 ∷ formal_tokens y)) 0 formal_rule more_formals_clear c.more.items.items (lexemes c.args.source.now c.args.tokens.now) (lexemes c.args.source.now c.more.rest.now) c.more.invariant c.in_default.ensures.other

pub returns-in_err-next : goal.returns-in_err-next
returns-in_err-next c = let p = err_from_is_err_and c.from_residual.result c.from_residual.ensures.1 in
    rw (p.1, p.2) (marked_err Formal (λ xs. each (λ y. Fixed 14 ∷ formal_tokens y) (map formal_model xs)) (λ x. formal_tokens (formal_model x)) 14 (seen_push formal_model (λ y. Fixed 14 ∷ formal_tokens y)) 0 formal_rule more_formals_clear (each (λ y. Fixed 14 ∷ formal_tokens y) (map formal_model c.more.items.items)) (lexemes c.args.source.now c.args.tokens.now) (lexemes c.args.source.now c.more.rest.now) (lexemes c.args.source.now c.in-Some.after.now) c.in_err-next.field-0.0 c.more.invariant c.in-Some.ensures.found c.in_err-next.ensures)
