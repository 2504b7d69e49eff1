use Rattle.al_tree_grammar.specs.Grammar.{each}
use Rattle.al_tree_grammar.specs.Grammar.Lexeme.{Fixed}
use Rattle.al_parse.proofs.Clear.{more_choices_clear}
use Rattle.al_parse.proofs.Loops.{each_push, marked_err, marked_next, marked_over}
use Rattle.al_tree_syntax.specs.StatementTrees.{choice_tokens}
use Rattle.al_tree_syntax.specs.Statements.{choice_rule}
use Rattle.al_tree.specs.Lexemes.{lexemes}
use Rattle.al_tree.specs.StatementViews.{choice_model}
use Rattle.al_tree.specs.declared.statement.Choice.{Choice}
use Rattle.std.proofs.Common.{◌∷◌}
use Rattle.std.proofs.lemmas.Result.{err_from_is_err_and}
use Rattle.al_parse.proofs.statement.more_choices.Goals as goal

pub more-preserved : goal.more-preserved
more-preserved c = marked_next Choice (λ xs. each (λ y. Fixed 18 ∷ choice_tokens (choice_model y)) xs) (λ x. choice_tokens (choice_model x)) 18 (each_push (λ y. Fixed 18 ∷ choice_tokens (choice_model y))) c.args.depth choice_rule more_choices_clear c.more.items.items c.append.new.list.items c.in_ok-next.next (lexemes c.args.source.now c.args.tokens.now) (lexemes c.args.source.now c.more.rest.now) (lexemes c.args.source.now c.in-Some.after.now) (lexemes c.args.source.now c.in_ok-next.after.now) c.more.invariant c.in-Some.ensures.found c.in_ok-next.ensures c.in_ok-append.ensures.items

pub returns : goal.returns
returns c = marked_over Choice (λ xs. each (λ y. Fixed 18 ∷ choice_tokens (choice_model y)) xs) (λ x. choice_tokens (choice_model x)) 18 (each_push (λ y. Fixed 18 ∷ choice_tokens (choice_model y))) c.args.depth choice_rule more_choices_clear c.more.items.items (lexemes c.args.source.now c.args.tokens.now) (lexemes c.args.source.now c.more.rest.now) c.more.invariant c.in_default.ensures.other

pub returns-in_err-next : goal.returns-in_err-next
returns-in_err-next c = let p = err_from_is_err_and c.from_residual.result c.from_residual.ensures.1 in
    rw (p.1, p.2) (marked_err Choice (λ xs. each (λ y. Fixed 18 ∷ choice_tokens (choice_model y)) xs) (λ x. choice_tokens (choice_model x)) 18 (each_push (λ y. Fixed 18 ∷ choice_tokens (choice_model y))) c.args.depth choice_rule more_choices_clear (each (λ y. Fixed 18 ∷ choice_tokens (choice_model y)) c.more.items.items) (lexemes c.args.source.now c.args.tokens.now) (lexemes c.args.source.now c.more.rest.now) (lexemes c.args.source.now c.in-Some.after.now) c.in_err-next.field-0.0 c.more.invariant c.in-Some.ensures.found c.in_err-next.ensures)
