use Rattle.al_tree_grammar.specs.Grammar.{each}
use Rattle.al_tree_grammar.specs.Grammar.Rule.{Many}
use Rattle.al_parse.proofs.Clear.{operations_clear}
use Rattle.al_parse.proofs.Loops.{fewer, many_err, many_next, many_over, seen_push}
use Rattle.al_tree_syntax.specs.DeclarationTrees.{protected_operation_tokens}
use Rattle.al_tree_syntax.specs.Declarations.{operation_rule, specification_rule}
use Rattle.al_tree.specs.DeclarationViews.{protected_operation_model}
use Rattle.al_tree.specs.Lexemes.{lexemes}
use Rattle.al_tree.specs.declared.declaration.ProtectedOperation.{ProtectedOperation}
use Rattle.std.proofs.Common.{map, sym, ◌∙◌}
use Rattle.std.proofs.lemmas.Result.{err_from_is_err_and}
use Rattle.al_parse.proofs.specification.operations.Goals as goal

pub more-preserved : goal.more-preserved
unfolding operation_rule specification_rule
more-preserved c = many_next ProtectedOperation (λ xs. each protected_operation_tokens (map protected_operation_model xs)) (λ x. protected_operation_tokens (protected_operation_model x)) (seen_push protected_operation_model protected_operation_tokens) c.args.depth operation_rule operations_clear (Many operation_rule) c.more.items.items c.append.new.list.items c.in_ok-next.next (lexemes c.args.source.now c.args.tokens.now) (lexemes c.args.source.now c.more.rest.now) (lexemes c.args.source.now c.in_ok-next.after.now) c.more.invariant (sym c.is_operation_next.ensures ∙ c.more-test.true) c.in_ok-next.ensures c.in_ok-append.ensures.items

pub more-smaller : goal.more-smaller
more-smaller c = fewer c.args.depth operation_rule operations_clear c.args.source.now c.more.rest.now c.in_ok-next.after.now c.in_ok-next.ensures.1

pub returns : goal.returns
unfolding operation_rule specification_rule
returns c = many_over ProtectedOperation (λ xs. each protected_operation_tokens (map protected_operation_model xs)) (λ x. protected_operation_tokens (protected_operation_model x)) (seen_push protected_operation_model protected_operation_tokens) c.args.depth operation_rule operations_clear (Many operation_rule) c.more.items.items (lexemes c.args.source.now c.args.tokens.now) (lexemes c.args.source.now c.more.rest.now) c.more.invariant (sym c.is_operation_next.ensures ∙ c.more-test.false)

pub returns-in_err-next : goal.returns-in_err-next
unfolding operation_rule specification_rule
returns-in_err-next c = let p = err_from_is_err_and c.from_residual.result c.from_residual.ensures.1 in
    rw (p.1, p.2) (many_err ProtectedOperation (λ xs. each protected_operation_tokens (map protected_operation_model xs)) (λ x. protected_operation_tokens (protected_operation_model x)) (seen_push protected_operation_model protected_operation_tokens) c.args.depth operation_rule operations_clear (Many operation_rule) (each protected_operation_tokens (map protected_operation_model c.more.items.items)) (lexemes c.args.source.now c.args.tokens.now) (lexemes c.args.source.now c.more.rest.now) c.in_err-next.field-0.0 c.more.invariant (sym c.is_operation_next.ensures ∙ c.more-test.true) c.in_err-next.ensures)
