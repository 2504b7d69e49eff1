use Rattle.al_tree_grammar.specs.Grammar.{each}
use Rattle.al_tree_grammar.specs.Grammar.Rule.{Many}
use Rattle.al_parse.proofs.Clear.{context_items_clear}
use Rattle.al_parse.proofs.Loops.{fewer, many_err, many_next, many_over, seen_push}
use Rattle.al_tree_syntax.specs.Declarations.{pragma_rule, use_rule}
use Rattle.al_tree_syntax.specs.UnitTrees.{context_tokens}
use Rattle.al_tree_syntax.specs.Units.{context_rule}
use Rattle.al_tree.specs.Lexemes.{lexemes}
use Rattle.al_tree.specs.UnitViews.{context_model}
use Rattle.al_tree.specs.declared.unit.ContextItem.{ContextItem}
use Rattle.std.proofs.Common.{map, sym, ◌∙◌}
use Rattle.std.proofs.lemmas.Result.{err_from_is_err_and}
use Rattle.al_parse.proofs.unit.context_items.Goals as goal

pub more-preserved : goal.more-preserved
unfolding context_rule use_rule pragma_rule
more-preserved c = many_next ContextItem (λ xs. each context_tokens (map context_model xs)) (λ x. context_tokens (context_model x)) (seen_push context_model context_tokens) c.args.depth context_rule context_items_clear (Many context_rule) c.more.items.items c.append.new.list.items c.in_ok-next.next (lexemes c.args.source.now c.args.tokens.now) (lexemes c.args.source.now c.more.rest.now) (lexemes c.args.source.now c.in_ok-next.after.now) c.more.invariant (sym c.is_context_next.ensures ∙ c.more-test.true) c.in_ok-next.ensures c.in_ok-append.ensures.items

pub more-smaller : goal.more-smaller
more-smaller c = fewer c.args.depth context_rule context_items_clear c.args.source.now c.more.rest.now c.in_ok-next.after.now c.in_ok-next.ensures.1

pub returns : goal.returns
unfolding context_rule use_rule pragma_rule
returns c = many_over ContextItem (λ xs. each context_tokens (map context_model xs)) (λ x. context_tokens (context_model x)) (seen_push context_model context_tokens) c.args.depth context_rule context_items_clear (Many context_rule) c.more.items.items (lexemes c.args.source.now c.args.tokens.now) (lexemes c.args.source.now c.more.rest.now) c.more.invariant (sym c.is_context_next.ensures ∙ c.more-test.false)

pub returns-in_err-next : goal.returns-in_err-next
unfolding context_rule use_rule pragma_rule
returns-in_err-next c = let p = err_from_is_err_and c.from_residual.result c.from_residual.ensures.1 in
    rw (p.1, p.2) (many_err ContextItem (λ xs. each context_tokens (map context_model xs)) (λ x. context_tokens (context_model x)) (seen_push context_model context_tokens) c.args.depth context_rule context_items_clear (Many context_rule) (each context_tokens (map context_model c.more.items.items)) (lexemes c.args.source.now c.args.tokens.now) (lexemes c.args.source.now c.more.rest.now) c.in_err-next.field-0.0 c.more.invariant (sym c.is_context_next.ensures ∙ c.more-test.true) c.in_err-next.ensures)
