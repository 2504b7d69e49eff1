use Rattle.al_tree_grammar.specs.Grammar.{each}
use Rattle.al_tree_grammar.specs.Grammar.Rule.{Many}
use Rattle.al_parse.proofs.Clear.{declarations_clear}
use Rattle.al_parse.proofs.Loops.{fewer, many_err, many_next, many_over, seen_push}
use Rattle.al_tree_syntax.specs.DeclarationTrees.{declaration_tokens}
use Rattle.al_tree_syntax.specs.Declarations.{common_rule, declaration_rule, object_rule, pragma_rule, specification_rule, subtype_rule, type_rule, use_rule}
use Rattle.al_tree_syntax.specs.Expressions.{identifier_rule, identifiers_rule}
use Rattle.al_tree.specs.DeclarationViews.{declaration_model}
use Rattle.al_tree.specs.Lexemes.{lexemes}
use Rattle.al_tree.specs.declared.declaration.Declaration.{Declaration}
use Rattle.std.proofs.Common.{map, sym, ◌∙◌}
use Rattle.std.proofs.lemmas.Result.{err_from_is_err_and}
use Rattle.al_parse.proofs.specification.declarations.Goals as goal

pub more-preserved : goal.more-preserved
unfolding declaration_rule specification_rule common_rule object_rule type_rule subtype_rule use_rule pragma_rule identifiers_rule identifier_rule
more-preserved c = many_next Declaration (λ xs. each declaration_tokens (map declaration_model xs)) (λ x. declaration_tokens (declaration_model x)) (seen_push declaration_model declaration_tokens) c.args.depth declaration_rule declarations_clear (Many declaration_rule) c.more.items.items c.append.new.list.items c.in_ok-next.next (lexemes c.args.source.now c.args.tokens.now) (lexemes c.args.source.now c.more.rest.now) (lexemes c.args.source.now c.in_ok-next.after.now) c.more.invariant (sym c.is_declaration_next.ensures ∙ c.more-test.true) c.in_ok-next.ensures c.in_ok-append.ensures.items

pub more-smaller : goal.more-smaller
more-smaller c = fewer c.args.depth declaration_rule declarations_clear c.args.source.now c.more.rest.now c.in_ok-next.after.now c.in_ok-next.ensures.1

pub returns : goal.returns
unfolding declaration_rule specification_rule common_rule object_rule type_rule subtype_rule use_rule pragma_rule identifiers_rule identifier_rule
returns c = many_over Declaration (λ xs. each declaration_tokens (map declaration_model xs)) (λ x. declaration_tokens (declaration_model x)) (seen_push declaration_model declaration_tokens) c.args.depth declaration_rule declarations_clear (Many declaration_rule) c.more.items.items (lexemes c.args.source.now c.args.tokens.now) (lexemes c.args.source.now c.more.rest.now) c.more.invariant (sym c.is_declaration_next.ensures ∙ c.more-test.false)

pub returns-in_err-next : goal.returns-in_err-next
unfolding declaration_rule specification_rule common_rule object_rule type_rule subtype_rule use_rule pragma_rule identifiers_rule identifier_rule
returns-in_err-next c = let p = err_from_is_err_and c.from_residual.result c.from_residual.ensures.1 in
    rw (p.1, p.2) (many_err Declaration (λ xs. each declaration_tokens (map declaration_model xs)) (λ x. declaration_tokens (declaration_model x)) (seen_push declaration_model declaration_tokens) c.args.depth declaration_rule declarations_clear (Many declaration_rule) (each declaration_tokens (map declaration_model c.more.items.items)) (lexemes c.args.source.now c.args.tokens.now) (lexemes c.args.source.now c.more.rest.now) c.in_err-next.field-0.0 c.more.invariant (sym c.is_declaration_next.ensures ∙ c.more-test.true) c.in_err-next.ensures)
