use Rattle.al_tree_grammar.specs.Grammar.{each}
use Rattle.al_tree_grammar.specs.Grammar.Rule.{Many}
use Rattle.al_parse.proofs.Clear.{more_components_clear}
use Rattle.al_parse.proofs.Loops.{fewer, many_err, many_next, many_over, seen_push}
use Rattle.al_tree_syntax.specs.DeclarationTrees.{component_tokens}
use Rattle.al_tree_syntax.specs.Declarations.{component_rule}
use Rattle.al_tree_syntax.specs.Expressions.{identifier_rule, identifiers_rule}
use Rattle.al_tree.specs.DeclarationViews.{component_model}
use Rattle.al_tree.specs.Lexemes.{lexemes}
use Rattle.al_tree.specs.declared.declaration.ComponentDeclaration.{ComponentDeclaration}
use Rattle.std.proofs.Common.{map, sym, ◌∙◌}
use Rattle.std.proofs.lemmas.Result.{err_from_is_err_and}
use Rattle.al_parse.proofs.declaration.more_components.Goals as goal

pub more-preserved : goal.more-preserved
unfolding component_rule identifiers_rule identifier_rule
more-preserved c = many_next ComponentDeclaration (λ xs. each component_tokens (map component_model xs)) (λ x. component_tokens (component_model x)) (seen_push component_model component_tokens) c.args.depth component_rule more_components_clear (Many component_rule) c.more.items.items c.append.new.list.items c.in_ok-next.next (lexemes c.args.source.now c.args.tokens.now) (lexemes c.args.source.now c.more.rest.now) (lexemes c.args.source.now c.in_ok-next.after.now) c.more.invariant (sym c.is_next.ensures ∙ c.more-test.true) c.in_ok-next.ensures c.in_ok-append.ensures.items

pub more-smaller : goal.more-smaller
more-smaller c = fewer c.args.depth component_rule more_components_clear c.args.source.now c.more.rest.now c.in_ok-next.after.now c.in_ok-next.ensures.1

pub returns : goal.returns
unfolding component_rule identifiers_rule identifier_rule
returns c = many_over ComponentDeclaration (λ xs. each component_tokens (map component_model xs)) (λ x. component_tokens (component_model x)) (seen_push component_model component_tokens) c.args.depth component_rule more_components_clear (Many component_rule) c.more.items.items (lexemes c.args.source.now c.args.tokens.now) (lexemes c.args.source.now c.more.rest.now) c.more.invariant (sym c.is_next.ensures ∙ c.more-test.false)

pub returns-in_err-next : goal.returns-in_err-next
unfolding component_rule identifiers_rule identifier_rule
returns-in_err-next c = let p = err_from_is_err_and c.from_residual.result c.from_residual.ensures.1 in
    rw (p.1, p.2) (many_err ComponentDeclaration (λ xs. each component_tokens (map component_model xs)) (λ x. component_tokens (component_model x)) (seen_push component_model component_tokens) c.args.depth component_rule more_components_clear (Many component_rule) (each component_tokens (map component_model c.more.items.items)) (lexemes c.args.source.now c.args.tokens.now) (lexemes c.args.source.now c.more.rest.now) c.in_err-next.field-0.0 c.more.invariant (sym c.is_next.ensures ∙ c.more-test.true) c.in_err-next.ensures)
