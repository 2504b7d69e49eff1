use Rattle.al_tree_grammar.specs.Grammar.{each}
use Rattle.al_tree_grammar.specs.Grammar.Rule.{Any, Many, Seq}
use Rattle.al_parse.proofs.Clear.{elsifs_clear, items_clear, more_alternatives_clear, more_statements_clear, operation_bodies_clear}
use Rattle.al_parse.proofs.Stubs.{no_semicolon_inside}
use Rattle.al_parse.proofs.Rooms.{no_room, stops_in_room, took_in_room}
use Rattle.al_parse.proofs.Loops.{each_push, fewer, many_err, many_next, many_over}
use Rattle.al_tree_syntax.specs.Constructs.{Construct as constructs}
use Rattle.al_tree_syntax.specs.DeclarationTrees.{specification_tokens}
use Rattle.al_tree_syntax.specs.Declarations.{common_rule, item_rule, object_rule, operation_body_rule, pragma_rule, specification_rule, subtype_rule, type_rule, use_rule}
use Rattle.al_tree_syntax.specs.Expressions.{identifier_rule, identifiers_rule}
use Rattle.al_tree_syntax.specs.Notation.{opens, the, ◌∣◌, ◌⨾◌}
use Rattle.al_tree_syntax.specs.StatementTrees.{alternative_tokens, body_tokens, item_tokens, operation_body_tokens, statement_tokens}
use Rattle.al_tree_syntax.specs.Statements.{alternative_rule, block_rule, branch_rule, delay_rule, exit_rule, loop_rule, return_rule, statement_rule}
use Rattle.al_tree_syntax.specs.Symbols.{Symbol as symbols}
use Rattle.al_tree_syntax.specs.Words.{labelled, word}
use Rattle.al_tree.specs.DeclarationViews.{specification_model}
use Rattle.al_tree.specs.Lexemes.{identifier_label, lexeme_of, lexemes, place_label}
use Rattle.al_tree.specs.StatementViews.{alternative_model, body_model, elsif_tokens, item_model, operation_body_model, statement_model}
use Rattle.al_tree.specs.declared.statement.Alternative.{Alternative}
use Rattle.al_tree.specs.declared.statement.ElsifBranch.{ElsifBranch}
use Rattle.al_tree.specs.declared.statement.Item.{Item}
use Rattle.al_tree.specs.declared.statement.OperationBody.{OperationBody}
use Rattle.al_tree.specs.declared.statement.Statement.{Statement}
use Rattle.std.proofs.Common.{arith, sym, ◌++◌, ◌∙◌, ◌∷◌}
use Rattle.std.proofs.lemmas.List.{length-map}
use Rattle.std.proofs.lemmas.Result.{err_from_is_err_and}
use Rattle.al_parse.proofs.+body.Goals as goal

pub body::more_statements-more-preserved : goal.body::more_statements-more-preserved
unfolding statement_rule identifier_rule return_rule exit_rule delay_rule loop_rule block_rule
body::more_statements-more-preserved t c = many_next Statement (λ xs. each (λ x. statement_tokens (statement_model x)) xs) (λ x. statement_tokens (statement_model x)) (each_push (λ x. statement_tokens (statement_model x))) c.args.depth statement_rule more_statements_clear (Many statement_rule) c.more.items.items c.append.new.list.items c.in_ok-next.next (lexemes c.args.source.now c.args.tokens.now) (lexemes c.args.source.now c.more.rest.now) (lexemes c.args.source.now c.in_ok-next.after.now) c.more.invariant (sym c.is_statement_next.ensures ∙ c.more-test.true) c.in_ok-next.ensures c.in_ok-append.ensures.items

pub body::more_statements-more-smaller : goal.body::more_statements-more-smaller
body::more_statements-more-smaller t c = fewer c.args.depth statement_rule more_statements_clear c.args.source.now c.more.rest.now c.in_ok-next.after.now c.in_ok-next.ensures.1

pub body::more_statements-returns : goal.body::more_statements-returns
unfolding statement_rule identifier_rule return_rule exit_rule delay_rule loop_rule block_rule
body::more_statements-returns t c = many_over Statement (λ xs. each (λ x. statement_tokens (statement_model x)) xs) (λ x. statement_tokens (statement_model x)) (each_push (λ x. statement_tokens (statement_model x))) c.args.depth statement_rule more_statements_clear (Many statement_rule) c.more.items.items (lexemes c.args.source.now c.args.tokens.now) (lexemes c.args.source.now c.more.rest.now) c.more.invariant (sym c.is_statement_next.ensures ∙ c.more-test.false)

pub body::more_statements-returns-in_err-next : goal.body::more_statements-returns-in_err-next
unfolding statement_rule identifier_rule return_rule exit_rule delay_rule loop_rule block_rule
body::more_statements-returns-in_err-next t c = let p = err_from_is_err_and c.from_residual.result c.from_residual.ensures.1 in
    rw (p.1, p.2) (many_err Statement (λ xs. each (λ x. statement_tokens (statement_model x)) xs) (λ x. statement_tokens (statement_model x)) (each_push (λ x. statement_tokens (statement_model x))) c.args.depth statement_rule more_statements_clear (Many statement_rule) (each (λ x. statement_tokens (statement_model x)) c.more.items.items) (lexemes c.args.source.now c.args.tokens.now) (lexemes c.args.source.now c.more.rest.now) c.in_err-next.field-0.0 c.more.invariant (sym c.is_statement_next.ensures ∙ c.more-test.true) c.in_err-next.ensures)

pub body::labelled_statement-returns-then-depth-eq0 : goal.body::labelled_statement-returns-then-depth-eq0
body::labelled_statement-returns-then-depth-eq0 t c =
    let xs = lexemes c.args.source.now c.args.tokens.now in
    (xs, no_room c.args.depth (the symbols.Colon ⨾ (loop_rule ∣ block_rule)) xs c.if-depth-eq0.true, length-map c.args.tokens.now (lexeme_of c.args.source.now))

pub body::labelled_statement-returns-in_err-statement : goal.body::labelled_statement-returns-in_err-statement
body::labelled_statement-returns-in_err-statement t c =
    let p = err_from_is_err_and c.from_residual.result c.from_residual.ensures.1 in
    rw (p.1, p.2) (stops_in_room c.in_err-statement.field-0.0 c.args.depth (the symbols.Colon ⨾ (loop_rule ∣ block_rule)) (lexemes c.args.source.now c.args.tokens.now) (omega arith) c.in_err-statement.ensures)

pub body::labelled_statement-returns : goal.body::labelled_statement-returns
body::labelled_statement-returns t c =
    took_in_room c.args.depth (the symbols.Colon ⨾ (loop_rule ∣ block_rule)) (statement_tokens (statement_model c.in_ok-statement.statement)) (lexemes c.args.source.now c.in_ok-statement.rest.now) (labelled symbols.Identifier (identifier_label c.args.name) ∷ lexemes c.args.source.now c.args.tokens.now) (lexemes c.args.source.now c.args.tokens.now) (omega arith) c.in_ok-statement.ensures

pub body::elsifs-more-preserved : goal.body::elsifs-more-preserved
body::elsifs-more-preserved t c = many_next ElsifBranch (λ xs. each elsif_tokens xs) elsif_tokens (each_push elsif_tokens) c.args.depth (Seq (Any 36) branch_rule) elsifs_clear (Many (Seq (Any 36) branch_rule)) c.more.items.items c.append.new.list.items c.in_ok-next.next (lexemes c.args.source.now c.args.tokens.now) (lexemes c.args.source.now c.more.rest.now) (lexemes c.args.source.now c.in_ok-next.after.now) c.more.invariant (sym c.is_next.ensures ∙ c.more-test.true) c.in_ok-next.ensures c.in_ok-append.ensures.items

pub body::elsifs-more-smaller : goal.body::elsifs-more-smaller
body::elsifs-more-smaller t c = fewer c.args.depth (Seq (Any 36) branch_rule) elsifs_clear c.args.source.now c.more.rest.now c.in_ok-next.after.now c.in_ok-next.ensures.1

pub body::elsifs-returns : goal.body::elsifs-returns
body::elsifs-returns t c = many_over ElsifBranch (λ xs. each elsif_tokens xs) elsif_tokens (each_push elsif_tokens) c.args.depth (Seq (Any 36) branch_rule) elsifs_clear (Many (Seq (Any 36) branch_rule)) c.more.items.items (lexemes c.args.source.now c.args.tokens.now) (lexemes c.args.source.now c.more.rest.now) c.more.invariant (sym c.is_next.ensures ∙ c.more-test.false)

pub body::elsifs-returns-in_err-next : goal.body::elsifs-returns-in_err-next
body::elsifs-returns-in_err-next t c = let p = err_from_is_err_and c.from_residual.result c.from_residual.ensures.1 in
    rw (p.1, p.2) (many_err ElsifBranch (λ xs. each elsif_tokens xs) elsif_tokens (each_push elsif_tokens) c.args.depth (Seq (Any 36) branch_rule) elsifs_clear (Many (Seq (Any 36) branch_rule)) (each elsif_tokens c.more.items.items) (lexemes c.args.source.now c.args.tokens.now) (lexemes c.args.source.now c.more.rest.now) c.in_err-next.field-0.0 c.more.invariant (sym c.is_next.ensures ∙ c.more-test.true) c.in_err-next.ensures)

pub body::more_alternatives-more-preserved : goal.body::more_alternatives-more-preserved
unfolding alternative_rule
body::more_alternatives-more-preserved t c = many_next Alternative (λ xs. each (λ x. alternative_tokens (alternative_model x)) xs) (λ x. alternative_tokens (alternative_model x)) (each_push (λ x. alternative_tokens (alternative_model x))) c.args.depth alternative_rule more_alternatives_clear (Many alternative_rule) c.more.items.items c.append.new.list.items c.in_ok-next.next (lexemes c.args.source.now c.args.tokens.now) (lexemes c.args.source.now c.more.rest.now) (lexemes c.args.source.now c.in_ok-next.after.now) c.more.invariant (sym c.is_next.ensures ∙ c.more-test.true) c.in_ok-next.ensures c.in_ok-append.ensures.items

pub body::more_alternatives-more-smaller : goal.body::more_alternatives-more-smaller
body::more_alternatives-more-smaller t c = fewer c.args.depth alternative_rule more_alternatives_clear c.args.source.now c.more.rest.now c.in_ok-next.after.now c.in_ok-next.ensures.1

pub body::more_alternatives-returns : goal.body::more_alternatives-returns
unfolding alternative_rule
body::more_alternatives-returns t c = many_over Alternative (λ xs. each (λ x. alternative_tokens (alternative_model x)) xs) (λ x. alternative_tokens (alternative_model x)) (each_push (λ x. alternative_tokens (alternative_model x))) c.args.depth alternative_rule more_alternatives_clear (Many alternative_rule) c.more.items.items (lexemes c.args.source.now c.args.tokens.now) (lexemes c.args.source.now c.more.rest.now) c.more.invariant (sym c.is_next.ensures ∙ c.more-test.false)

pub body::more_alternatives-returns-in_err-next : goal.body::more_alternatives-returns-in_err-next
unfolding alternative_rule
body::more_alternatives-returns-in_err-next t c = let p = err_from_is_err_and c.from_residual.result c.from_residual.ensures.1 in
    rw (p.1, p.2) (many_err Alternative (λ xs. each (λ x. alternative_tokens (alternative_model x)) xs) (λ x. alternative_tokens (alternative_model x)) (each_push (λ x. alternative_tokens (alternative_model x))) c.args.depth alternative_rule more_alternatives_clear (Many alternative_rule) (each (λ x. alternative_tokens (alternative_model x)) c.more.items.items) (lexemes c.args.source.now c.args.tokens.now) (lexemes c.args.source.now c.more.rest.now) c.in_err-next.field-0.0 c.more.invariant (sym c.is_next.ensures ∙ c.more-test.true) c.in_err-next.ensures)

pub body::items-more-preserved : goal.body::items-more-preserved
unfolding item_rule specification_rule common_rule object_rule type_rule subtype_rule use_rule pragma_rule identifiers_rule identifier_rule
body::items-more-preserved t c = many_next Item (λ xs. each (λ x. item_tokens (item_model x)) xs) (λ x. item_tokens (item_model x)) (each_push (λ x. item_tokens (item_model x))) c.args.depth item_rule items_clear (Many item_rule) c.more.items.items c.append.new.list.items c.in_ok-next.next (lexemes c.args.source.now c.args.tokens.now) (lexemes c.args.source.now c.more.rest.now) (lexemes c.args.source.now c.in_ok-next.after.now) c.more.invariant (sym c.is_item_next.ensures ∙ c.more-test.true) c.in_ok-next.ensures c.in_ok-append.ensures.items

pub body::items-more-smaller : goal.body::items-more-smaller
body::items-more-smaller t c = fewer c.args.depth item_rule items_clear c.args.source.now c.more.rest.now c.in_ok-next.after.now c.in_ok-next.ensures.1

pub body::items-returns : goal.body::items-returns
unfolding item_rule specification_rule common_rule object_rule type_rule subtype_rule use_rule pragma_rule identifiers_rule identifier_rule
body::items-returns t c = many_over Item (λ xs. each (λ x. item_tokens (item_model x)) xs) (λ x. item_tokens (item_model x)) (each_push (λ x. item_tokens (item_model x))) c.args.depth item_rule items_clear (Many item_rule) c.more.items.items (lexemes c.args.source.now c.args.tokens.now) (lexemes c.args.source.now c.more.rest.now) c.more.invariant (sym c.is_item_next.ensures ∙ c.more-test.false)

pub body::items-returns-in_err-next : goal.body::items-returns-in_err-next
unfolding item_rule specification_rule common_rule object_rule type_rule subtype_rule use_rule pragma_rule identifiers_rule identifier_rule
body::items-returns-in_err-next t c = let p = err_from_is_err_and c.from_residual.result c.from_residual.ensures.1 in
    rw (p.1, p.2) (many_err Item (λ xs. each (λ x. item_tokens (item_model x)) xs) (λ x. item_tokens (item_model x)) (each_push (λ x. item_tokens (item_model x))) c.args.depth item_rule items_clear (Many item_rule) (each (λ x. item_tokens (item_model x)) c.more.items.items) (lexemes c.args.source.now c.args.tokens.now) (lexemes c.args.source.now c.more.rest.now) c.in_err-next.field-0.0 c.more.invariant (sym c.is_item_next.ensures ∙ c.more-test.true) c.in_err-next.ensures)

pub protected::operation_bodies-more-preserved : goal.protected::operation_bodies-more-preserved
unfolding operation_body_rule specification_rule
protected::operation_bodies-more-preserved t c = many_next OperationBody (λ xs. each (λ x. operation_body_tokens (operation_body_model x)) xs) (λ x. operation_body_tokens (operation_body_model x)) (each_push (λ x. operation_body_tokens (operation_body_model x))) c.args.depth operation_body_rule operation_bodies_clear (Many operation_body_rule) c.more.items.items c.append.new.list.items c.in_ok-next.next (lexemes c.args.source.now c.args.tokens.now) (lexemes c.args.source.now c.more.rest.now) (lexemes c.args.source.now c.in_ok-next.after.now) c.more.invariant (sym c.is_operation_body_next.ensures ∙ c.more-test.true) c.in_ok-next.ensures c.in_ok-append.ensures.items

pub protected::operation_bodies-more-smaller : goal.protected::operation_bodies-more-smaller
protected::operation_bodies-more-smaller t c = fewer c.args.depth operation_body_rule operation_bodies_clear c.args.source.now c.more.rest.now c.in_ok-next.after.now c.in_ok-next.ensures.1

pub protected::operation_bodies-returns : goal.protected::operation_bodies-returns
unfolding operation_body_rule specification_rule
protected::operation_bodies-returns t c = many_over OperationBody (λ xs. each (λ x. operation_body_tokens (operation_body_model x)) xs) (λ x. operation_body_tokens (operation_body_model x)) (each_push (λ x. operation_body_tokens (operation_body_model x))) c.args.depth operation_body_rule operation_bodies_clear (Many operation_body_rule) c.more.items.items (lexemes c.args.source.now c.args.tokens.now) (lexemes c.args.source.now c.more.rest.now) c.more.invariant (sym c.is_operation_body_next.ensures ∙ c.more-test.false)

pub protected::operation_bodies-returns-in_err-next : goal.protected::operation_bodies-returns-in_err-next
unfolding operation_body_rule specification_rule
protected::operation_bodies-returns-in_err-next t c = let p = err_from_is_err_and c.from_residual.result c.from_residual.ensures.1 in
    rw (p.1, p.2) (many_err OperationBody (λ xs. each (λ x. operation_body_tokens (operation_body_model x)) xs) (λ x. operation_body_tokens (operation_body_model x)) (each_push (λ x. operation_body_tokens (operation_body_model x))) c.args.depth operation_body_rule operation_bodies_clear (Many operation_body_rule) (each (λ x. operation_body_tokens (operation_body_model x)) c.more.items.items) (lexemes c.args.source.now c.args.tokens.now) (lexemes c.args.source.now c.more.rest.now) c.in_err-next.field-0.0 c.more.invariant (sym c.is_operation_body_next.ensures ∙ c.more-test.true) c.in_err-next.ensures)

pub protected::protected_subprogram-returns-then-depth-eq0 : goal.protected::protected_subprogram-returns-then-depth-eq0
protected::protected_subprogram-returns-then-depth-eq0 t c =
    let xs = lexemes c.args.source.now c.args.tokens.now in
    (xs, no_room c.args.depth (specification_rule ⨾ opens symbols.Is constructs.SubprogramBody) xs c.if-depth-eq0.true, length-map c.args.tokens.now (lexeme_of c.args.source.now))

pub protected::protected_subprogram-returns-in_err-specification : goal.protected::protected_subprogram-returns-in_err-specification
protected::protected_subprogram-returns-in_err-specification t c =
    let p = err_from_is_err_and c.from_residual.result c.from_residual.ensures.1 in
    rw (p.1, p.2) (stops_in_room c.in_err-specification.field-0.0 c.args.depth (specification_rule ⨾ opens symbols.Is constructs.SubprogramBody) (lexemes c.args.source.now c.args.tokens.now) (omega arith) c.in_err-specification.ensures)

pub protected::protected_subprogram-returns : goal.protected::protected_subprogram-returns
protected::protected_subprogram-returns t c =
    rw c.subprogram.ensures.tokens (took_in_room c.args.depth (specification_rule ⨾ opens symbols.Is constructs.SubprogramBody) (specification_tokens (specification_model c.in_ok-specification.specification) ++ word symbols.Is ∷ body_tokens (body_model c.in_ok-specification.body)) (lexemes c.args.source.now c.in_ok-specification.rest.now) (lexemes c.args.source.now c.args.tokens.now) (lexemes c.args.source.now c.args.tokens.now) (omega arith) c.in_ok-specification.ensures)

pub body::opened_body-returns-in_err-rest : goal.body::opened_body-returns-in_err-rest
body::opened_body-returns-in_err-rest t c =
    let p = err_from_is_err_and c.from_residual-in_err-rest.result c.from_residual-in_err-rest.ensures.1 in
    rw (p.1, p.2) (no_semicolon_inside c.in_err-rest.field-0.0 (place_label c.in-Some.separate) c.args.depth c.in_ok-inner.inner (lexemes c.args.source.now c.args.tokens.now) (lexemes c.args.source.now c.in_ok-inner.rest.now) (lexemes c.args.source.now c.in-Some.rest.now) (c.in_ok-inner.ensures.goes_on 13) c.in-Some.ensures.found c.in_err-rest.ensures)
