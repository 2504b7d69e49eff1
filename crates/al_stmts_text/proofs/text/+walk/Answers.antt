use Rattle.std.proofs.Common.{ℕ, Option, Result, drop, map, refl, sym, ap, ◌∙◌}
use Rattle.std.specs.Prelude.{option_map}
use Rattle.al_base_fault.specs.declared.fault.Fault.{Fault}
use Rattle.al_base_fault.specs.Judging.{map_ok}
use Rattle.al_stmts.specs.Exits.{without_innermost}
use Rattle.al_tree.proofs.StatementsMade.{block_declare_block_model, block_plain_block_model, item_body_model, item_common_model, item_protected_body_model, item_protected_model, item_stub_model, item_subprogram_model, item_task_body_model, item_task_model, loop_for_loop_model, loop_plain_loop_model, loop_while_loop_model, statement_assignment_model, statement_block_model, statement_branching_model, statement_call_model, statement_case_model, statement_delay_model, statement_exit_model, statement_looping_model, statement_null_model, statement_returning_model, operation_body_entry_model, operation_body_subprogram_model}
use Rattle.al_tree.specs.DeclarationViews.{specification_model}
use Rattle.al_tree.specs.ExpressionViews.{expression_model}
use Rattle.al_tree.specs.Lexemes.{identifier_label, place_label}
use Rattle.al_tree.specs.declared.statement.DeclaredStatements.{out-DeclaredStatements}
use Rattle.al_tree.specs.declared.statement.SubprogramBody.{out-SubprogramBody}
use Rattle.al_tree.specs.StatementViews.{item_model, items_of, named_end_model, statements_model}
use Rattle.al_view_typed.specs.StatementTrees.{SchemeTree}
use Rattle.al_view_typed.specs.StatementViews.{scheme_model}
use Rattle.al_stmts.specs.Steps.{Enclosing, Walked, block_of, in_loop, inside_of, loop_of, no_part}
use Rattle.al_stmts.specs.Views.{effects_model}
use Rattle.al_stmts.specs.Walking.{end_of, for_walked, loop_walked, named_line, region_left, statements_walked}
use Rattle.al_stmts.specs.WalkedViews.{all_model, branching_model, choosing_model, part_model}
use Rattle.al_stmts_text.proofs.Folds.{alternative_added, alternative_step, alternatives_folded, alternatives_stop, branch_added, branch_step, branches_folded, branches_stop, item_added, item_step, items_folded, items_stop, operation_added, operation_step, operations_folded, operations_stop, statement_added, statement_step, statements_folded, statements_stop}
use Rattle.al_stmts_text.proofs.Made.{alternative_made, alternatives_all, after_made, after_stops, body_read, branch_made, branches_all, case_made, entered_made, entry_read, handled_made, if_made, inside_made, object_read, object_refused, opened_made, otherwise_made, part_made, statements_made, task_read}
use Rattle.al_stmts_text.proofs.Loops.{ends, step}
use Rattle.al_stmts_text.proofs.Read.{as_made, goes_on, if_ok, made_of, on_ok}
use Rattle.al_stmts_text.proofs.text.+walk.Goals as goal

pub check_statements-returns-in-Ok-clause-answered : goal.check_statements-returns-in-Ok-clause-answered
check_statements-returns-in-Ok-clause-answered g m c =
    let answered = rw c.deref.ensures.value at c.in-Ok.ensures.answered in
    λ t h.
    let more = answered t h in
    let first = c.in_ok-first.ensures.answered t more.0 in
    (first.0, statements_made (g.R.Analyzer.reading t) c.args.enclosing.now _ _ _ _ _ _ c.args.statements.now c.in_ok-first.ensures.kept first.1 c.in_ok-so_far.ensures more.1)

pub more_statements-loop-statement-init : goal.more_statements-loop-statement-init
more_statements-loop-statement-init g m c = record { asked = refl; kept = refl; answered = λ t h. (h, refl) }

pub more_statements-loop-statement-preserved : goal.more_statements-loop-statement-preserved
more_statements-loop-statement-preserved g m c = record {
  asked = c.in_ok-one.ensures.asked ∙ c.loop-statement.invariant.asked;
  kept = c.in_ok-one.ensures.kept ∙ c.loop-statement.invariant.kept;
  answered = λ t h.
      let one = c.in_ok-one.ensures.answered t h in
      let before = c.loop-statement.invariant.answered t one.0 in
      let R = g.R.Analyzer.reading t in
      let r = c.args.enclosing.now in (
        before.0,
        step (statement_step R r) _ _ c.args.others.now c.loop-statement.statement-index c.statement-item.result
            (statement_added R r _ _ _ _ _ _ c.statement-item.result (sym c.is_ended.ensures ∙ c.if-is_ended.false) c.loop-statement.invariant.kept one.1 c.in_ok-add.ensures)
            c.statement-item.is c.loop-statement-test.true
            ∙ before.1,
      );
}

pub more_statements-returns-then-is_ended-clause-answered : goal.more_statements-returns-then-is_ended-clause-answered
more_statements-returns-then-is_ended-clause-answered g m c = λ t h.
    let before = c.loop-statement.invariant.answered t h in
    let R = g.R.Analyzer.reading t in
    let r = c.args.enclosing.now in
    (before.0, sym (statements_stop R r (g.R.Analyzer.env c.loop-statement.analyzer, all_model c.loop-statement.so_far) (drop c.loop-statement.statement-index c.args.others.now) (sym c.is_ended.ensures ∙ c.if-is_ended.true)) ∙ before.1 ∙ statements_folded R r _ c.args.others.now)

pub more_statements-returns-clause-answered : goal.more_statements-returns-clause-answered
more_statements-returns-clause-answered g m c = λ t h.
    let before = c.loop-statement.invariant.answered t h in
    let R = g.R.Analyzer.reading t in
    let r = c.args.enclosing.now in
    (before.0, sym (ends (statement_step R r) _ c.args.others.now c.loop-statement.statement-index c.loop-statement-test.false) ∙ before.1 ∙ statements_folded R r _ c.args.others.now)

pub check_if-returns-in-Ok-clause-answered : goal.check_if-returns-in-Ok-clause-answered
check_if-returns-in-Ok-clause-answered g m c =
    if_ok c.finish.result _ _
    (λ done is t h.
    let branches = c.in-Ok.ensures.answered t h in
    (branches.0, if_made (g.R.Analyzer.reading t) c.args.enclosing.now _ _ _ _ _ c.args.statement.now c.new-so_far.ensures branches.1 is))
    c.finish.ensures

pub check_branch-returns-in-Ok-clause-answered : goal.check_branch-returns-in-Ok-clause-answered
check_branch-returns-in-Ok-clause-answered g m c =
    on_ok c.add.result _ _
    (λ is t h.
    let inner = c.in-Ok.ensures.answered t h in
    let read = c.in_ok-condition.ensures.answered t inner.0 in
    (read.0, branch_made (g.R.Analyzer.reading t) c.args.enclosing.now _ _ _ _ _ c.args.line _ _ c.args.branch.now read.1 inner.1 is))
    c.add.ensures

pub more_branches-loop-other-init : goal.more_branches-loop-other-init
more_branches-loop-other-init g m c = record { asked = refl; kept = refl; answered = λ t h. (h, refl) }

pub check_alternative-returns-clause-answered : goal.check_alternative-returns-clause-answered
check_alternative-returns-clause-answered g m c =
    on_ok c.add.result _ _
    (λ is t h.
    let inner = c.in_ok-inner.ensures.answered t h in
    (inner.0, alternative_made (g.R.Analyzer.reading t) c.args.enclosing.now _ _ _ _ _ c.args.alternative.now inner.1 is))
    c.add.ensures

pub more_branches-loop-other-preserved : goal.more_branches-loop-other-preserved
more_branches-loop-other-preserved g m c = record {
  asked = c.in_ok-check_branch.ensures.asked ∙ c.loop-other.invariant.asked;
  kept = c.in_ok-check_branch.ensures.kept ∙ c.loop-other.invariant.kept;
  answered = λ t h.
      let one = c.in_ok-check_branch.ensures.answered t h in
      let before = c.loop-other.invariant.answered t one.0 in
      let R = g.R.Analyzer.reading t in
      let r = c.args.enclosing.now in (
        before.0,
        step (branch_step R r) _ _ c.args.others.now c.loop-other.other-index c.other-item.result
            (branch_added R r _ _ _ _ c.other-item.result (sym c.is_ended.ensures ∙ c.if-is_ended.false) c.loop-other.invariant.kept one.1)
            c.other-item.is c.loop-other-test.true
            ∙ before.1,
      );
}

pub more_branches-returns-then-is_ended-clause-answered : goal.more_branches-returns-then-is_ended-clause-answered
more_branches-returns-then-is_ended-clause-answered g m c = λ t h.
    let before = c.loop-other.invariant.answered t h in
    let R = g.R.Analyzer.reading t in
    let r = c.args.enclosing.now in
    (before.0, sym (branches_stop R r (g.R.Analyzer.env c.loop-other.analyzer, branching_model c.loop-other.so_far) (drop c.loop-other.other-index c.args.others.now) (sym c.is_ended.ensures ∙ c.if-is_ended.true)) ∙ before.1 ∙ branches_folded R r _ c.args.others.now)

pub more_branches-returns-clause-answered : goal.more_branches-returns-clause-answered
more_branches-returns-clause-answered g m c = λ t h.
    let before = c.loop-other.invariant.answered t h in
    let R = g.R.Analyzer.reading t in
    let r = c.args.enclosing.now in
    (before.0, sym (ends (branch_step R r) _ c.args.others.now c.loop-other.other-index c.loop-other-test.false) ∙ before.1 ∙ branches_folded R r _ c.args.others.now)

pub more_alternatives-loop-alternative-init : goal.more_alternatives-loop-alternative-init
more_alternatives-loop-alternative-init g m c = record { asked = refl; kept = refl; answered = λ t h. (h, refl) }

pub more_alternatives-loop-alternative-preserved : goal.more_alternatives-loop-alternative-preserved
more_alternatives-loop-alternative-preserved g m c = record {
  asked = c.in_ok-check_alternative.ensures.asked ∙ c.loop-alternative.invariant.asked;
  kept = c.in_ok-check_alternative.ensures.kept ∙ c.loop-alternative.invariant.kept;
  answered = λ t h.
      let one = c.in_ok-check_alternative.ensures.answered t h in
      let before = c.loop-alternative.invariant.answered t one.0 in
      let R = g.R.Analyzer.reading t in
      let r = c.args.enclosing.now in (
        before.0,
        step (alternative_step R r) _ _ c.args.others.now c.loop-alternative.alternative-index c.alternative-item.result
            (alternative_added R r _ _ _ _ c.alternative-item.result (sym c.is_ended.ensures ∙ c.if-is_ended.false) c.loop-alternative.invariant.kept one.1)
            c.alternative-item.is c.loop-alternative-test.true
            ∙ before.1,
      );
}

pub more_alternatives-returns-then-is_ended-clause-answered : goal.more_alternatives-returns-then-is_ended-clause-answered
more_alternatives-returns-then-is_ended-clause-answered g m c = λ t h.
    let before = c.loop-alternative.invariant.answered t h in
    let R = g.R.Analyzer.reading t in
    let r = c.args.enclosing.now in
    (before.0, sym (alternatives_stop R r (g.R.Analyzer.env c.loop-alternative.analyzer, choosing_model c.loop-alternative.so_far) (drop c.loop-alternative.alternative-index c.args.others.now) (sym c.is_ended.ensures ∙ c.if-is_ended.true)) ∙ before.1 ∙ alternatives_folded R r _ c.args.others.now)

pub more_alternatives-returns-clause-answered : goal.more_alternatives-returns-clause-answered
more_alternatives-returns-clause-answered g m c = λ t h.
    let before = c.loop-alternative.invariant.answered t h in
    let R = g.R.Analyzer.reading t in
    let r = c.args.enclosing.now in
    (before.0, sym (ends (alternative_step R r) _ c.args.others.now c.loop-alternative.alternative-index c.loop-alternative-test.false) ∙ before.1 ∙ alternatives_folded R r _ c.args.others.now)

pub check_items-loop-item-init : goal.check_items-loop-item-init
check_items-loop-item-init g m c = record { asked = refl; answered = λ t h. (h, refl) }

pub check_items-loop-item-preserved : goal.check_items-loop-item-preserved
check_items-loop-item-preserved g m c = record {
  asked = c.in_ok-one.ensures.asked ∙ c.loop-item.invariant.asked;
  answered = λ t h.
      let one = c.in_ok-one.ensures.answered t h in
      let before = c.loop-item.invariant.answered t one.0 in
      let R = g.R.Analyzer.reading t in (
        before.0,
        step (item_step R) _ _ c.args.items.now c.loop-item.item-index c.item-item.result
            (item_added R _ _ _ _ _ c.item-item.result (sym c.is_ended.ensures ∙ c.if-is_ended.false) one.1 c.in_ok-add.ensures)
            c.item-item.is c.loop-item-test.true
            ∙ before.1,
      );
}

pub check_items-returns-then-is_ended-clause-answered : goal.check_items-returns-then-is_ended-clause-answered
check_items-returns-then-is_ended-clause-answered g m c = λ t h.
    let before = c.loop-item.invariant.answered t h in
    let R = g.R.Analyzer.reading t in
    (before.0, sym (items_stop R (g.R.Analyzer.env c.loop-item.analyzer, part_model c.loop-item.so_far) (drop c.loop-item.item-index c.args.items.now) (sym c.is_ended.ensures ∙ c.if-is_ended.true)) ∙ before.1 ∙ items_folded R _ c.args.items.now)

pub check_items-returns-clause-answered : goal.check_items-returns-clause-answered
check_items-returns-clause-answered g m c = λ t h.
    let before = c.loop-item.invariant.answered t h in
    let R = g.R.Analyzer.reading t in
    (before.0, sym (ends (item_step R) _ c.args.items.now c.loop-item.item-index c.loop-item-test.false) ∙ before.1 ∙ items_folded R _ c.args.items.now)

pub check_operations-loop-operation-init : goal.check_operations-loop-operation-init
check_operations-loop-operation-init g m c = record { asked = refl; answered = λ t h. (h, refl) }

pub check_operations-loop-operation-preserved : goal.check_operations-loop-operation-preserved
check_operations-loop-operation-preserved g m c = record {
  asked = c.in_ok-one.ensures.asked ∙ c.loop-operation.invariant.asked;
  answered = λ t h.
      let one = c.in_ok-one.ensures.answered t h in
      let before = c.loop-operation.invariant.answered t one.0 in
      let R = g.R.Analyzer.reading t in (
        before.0,
        step (operation_step R) _ _ c.args.operations.now c.loop-operation.operation-index c.operation-item.result
            (operation_added R _ _ _ _ _ c.operation-item.result (sym c.is_ended.ensures ∙ c.if-is_ended.false) one.1 c.in_ok-add.ensures)
            c.operation-item.is c.loop-operation-test.true
            ∙ before.1,
      );
}

pub check_operations-returns-then-is_ended-clause-answered : goal.check_operations-returns-then-is_ended-clause-answered
check_operations-returns-then-is_ended-clause-answered g m c = λ t h.
    let before = c.loop-operation.invariant.answered t h in
    let R = g.R.Analyzer.reading t in
    (before.0, sym (operations_stop R (g.R.Analyzer.env c.loop-operation.analyzer, part_model c.loop-operation.so_far) (drop c.loop-operation.operation-index c.args.operations.now) (sym c.is_ended.ensures ∙ c.if-is_ended.true)) ∙ before.1 ∙ operations_folded R _ c.args.operations.now)

pub check_operations-returns-clause-answered : goal.check_operations-returns-clause-answered
check_operations-returns-clause-answered g m c = λ t h.
    let before = c.loop-operation.invariant.answered t h in
    let R = g.R.Analyzer.reading t in
    (before.0, sym (ends (operation_step R) _ c.args.operations.now c.loop-operation.operation-index c.loop-operation-test.false) ∙ before.1 ∙ operations_folded R _ c.args.operations.now)

pub check_case-returns-in-Ok-clause-answered : goal.check_case-returns-in-Ok-clause-answered
check_case-returns-in-Ok-clause-answered g m c =
    if_ok c.finish.result _ _
    (λ done is t h.
    let alternatives = c.in-Ok.ensures.answered t h in
    let head = (rw c.deref.ensures.value at c.in_ok-so_far.ensures.answered) t alternatives.0 in
    (head.0, case_made (g.R.Analyzer.reading t) c.args.enclosing.now _ _ _ _ _ _ c.args.statement.now head.1 alternatives.1 is))
    c.finish.ensures

pub check_in_loop-returns-clause-answered : goal.check_in_loop-returns-clause-answered
check_in_loop-returns-clause-answered g m c = rw c.in_ok-enter.ensures.ok at c.check_statements-inner.ensures.answered

pub check_round-returns-in-Ok-clause-answered : goal.check_round-returns-in-Ok-clause-answered
check_round-returns-in-Ok-clause-answered g m c =
    if_ok c.into_loop.result _ _
    (λ done is t h.
    let inner = c.in-Ok.ensures.answered t h in
    let scheme = map_ok scheme_model c.args.scheme in
    let fault = end_of (option_map identifier_label c.args.name.now) (option_map identifier_label c.args.end.now) in
    (inner.0, made_of (loop_of c.args.line scheme fault) _ _ _ _ inner.1 (is ∙ ap (λ (f : Option Fault). loop_of c.args.line scheme f (all_model c.in-Ok.inner)) c.end_of.ensures)))
    c.into_loop.ensures

pub check_declared-returns-clause-answered : goal.check_declared-returns-clause-answered
check_declared-returns-clause-answered g m c =
    if_ok c.finish_block.result _ _
    (λ done answered t h.
    let block = (rw c.end_of-fault.ensures at answered) t h in
    let inside = c.in_ok-inside.ensures.answered t block.0 in
    let part = (rw c.deref.ensures.value at c.in_ok-part.ensures.answered) t inside.0 in
    let entered = c.in_ok-block_entered.ensures.answered t part.0 in
    (entered.0, handled_made (g.R.Analyzer.reading t) c.args.enclosing.now (option_map identifier_label c.args.name.now) c.args.line _ _ _ _ _ _ _ c.args.declared.now entered.1 part.1 inside.1 block.1))
    c.finish_block.ensures.answered

pub check_after-returns-then-is_ended-clause-answered : goal.check_after-returns-then-is_ended-clause-answered
check_after-returns-then-is_ended-clause-answered g m c =
    if_ok c.without_statements.result _ _
    (λ done is t h. (h, after_stops _ _ _ (statements_walked (g.R.Analyzer.reading t) c.args.enclosing.now (g.R.Analyzer.env c.args.analyzer.now) (statements_model c.args.statements.now)) (sym c.is_ended.ensures ∙ c.if-is_ended.true) is))
    c.without_statements.ensures

pub check_after-returns-in-Ok-clause-answered : goal.check_after-returns-in-Ok-clause-answered
check_after-returns-in-Ok-clause-answered g m c =
    if_ok c.with_statements.result _ _
    (λ done is t h. let inner = c.in-Ok.ensures.answered t h in (inner.0, after_made _ _ _ _ _ _ (sym c.is_ended.ensures ∙ c.if-is_ended.false) inner.1 is))
    c.with_statements.ensures

pub check_statement-returns-in-If-clause-answered : goal.check_statement-returns-in-If-clause-answered
check_statement-returns-in-If-clause-answered g m c = rw (c.in-If.is, statement_branching_model) (rw c.deref-in-If.ensures at c.check_if.ensures.answered)

pub check_statement-returns-in-Case-clause-answered : goal.check_statement-returns-in-Case-clause-answered
check_statement-returns-in-Case-clause-answered g m c = rw (c.in-Case.is, statement_case_model) (rw c.deref-in-Case.ensures at c.check_case.ensures.answered)

pub check_statement-returns-in-Loop-clause-answered : goal.check_statement-returns-in-Loop-clause-answered
check_statement-returns-in-Loop-clause-answered g m c = rw (c.in-Loop.is, statement_looping_model) (rw c.deref-in-Loop.ensures at c.check_loop.ensures.answered)

pub check_statement-returns-in-Block-clause-answered : goal.check_statement-returns-in-Block-clause-answered
check_statement-returns-in-Block-clause-answered g m c = rw (c.in-Block.is, statement_block_model) (rw c.deref-in-Block.ensures at c.check_block.ensures.answered)

pub check_in_loop-returns-clause-kept : goal.check_in_loop-returns-clause-kept
check_in_loop-returns-clause-kept g m c =
    c.leave.ensures
    ∙ ap (λ (k : Enclosing). record { returns = k.returns; loops = without_innermost k.loops }) (c.check_statements-inner.ensures.kept ∙ c.in_ok-enter.ensures.ok)

pub check_for-returns-in_ok-walked-in-Ok-clause-answered : goal.check_for-returns-in_ok-walked-in-Ok-clause-answered
check_for-returns-in_ok-walked-in-Ok-clause-answered g m c =
    rw c.in-Ok.is
    (if_ok c.left_region.result _ _
    (λ done answered t h.
    let left = answered t h in
    let walked = c.in_ok-walked-in-Ok.ensures.answered t left.0 in
    (walked.0, left.1 ∙ ap (region_left (g.R.Analyzer.reading t)) walked.1))
    c.left_region.ensures.answered)

pub check_for-returns-in-Err-clause-answered : goal.check_for-returns-in-Err-clause-answered
check_for-returns-in-Err-clause-answered g m c = rw c.in-Err.is c.broken_loop.ensures.answered

pub check_branches-returns-clause-answered : goal.check_branches-returns-clause-answered
check_branches-returns-clause-answered g m c =
    on_ok c.check_otherwise.result _ _
    (λ answered t h.
    let otherwise = answered t h in
    let more = (rw c.deref.ensures.value at c.in_ok-more_branches.ensures.answered) t otherwise.0 in
    let first = c.in_ok-check_branch.ensures.answered t more.0 in
    (first.0, branches_all (g.R.Analyzer.reading t) c.args.enclosing.now _ _ _ _ _ _ _ _ _ c.args.statement.now c.in_ok-check_branch.ensures.kept c.in_ok-more_branches.ensures.kept first.1 more.1 otherwise.1))
    c.check_otherwise.ensures.answered

pub check_alternatives-returns-clause-answered : goal.check_alternatives-returns-clause-answered
check_alternatives-returns-clause-answered g m c =
    on_ok c.more_alternatives.result _ _
    (λ answered t h.
    let more = (rw c.deref.ensures.value at answered) t h in
    let first = c.in_ok-check_alternative.ensures.answered t more.0 in
    (first.0, alternatives_all (g.R.Analyzer.reading t) c.args.enclosing.now _ _ _ _ _ _ c.args.statement.now c.in_ok-check_alternative.ensures.kept first.1 more.1))
    c.more_alternatives.ensures.answered

pub check_part-returns-in-Ok-clause-answered : goal.check_part-returns-in-Ok-clause-answered
check_part-returns-in-Ok-clause-answered g m c = λ t h.
    let closed = c.in-Ok.ensures.answered t h in
    let all = c.in_ok-check_items.ensures.answered t closed.0 in
    (all.0, part_made (g.R.Analyzer.reading t) _ _ _ _ (items_of (map item_model c.args.items.now)) (place_label c.args.end) _ c.new-part.ensures all.1 closed.1)

pub check_item-returns-in-CommonItem-clause-answered : goal.check_item-returns-in-CommonItem-clause-answered
check_item-returns-in-CommonItem-clause-answered g m c = rw (c.in-CommonItem.is, item_common_model) c.declared_item.ensures.answered

pub check_item-returns-in-SubprogramItem-clause-answered : goal.check_item-returns-in-SubprogramItem-clause-answered
check_item-returns-in-SubprogramItem-clause-answered g m c = rw (c.in-SubprogramItem.is, item_subprogram_model) c.subprogram_item.ensures.answered

pub check_item-returns-in-StubItem-clause-answered : goal.check_item-returns-in-StubItem-clause-answered
check_item-returns-in-StubItem-clause-answered g m c = rw (c.in-StubItem.is, item_stub_model) c.stub_item.ensures.answered

pub check_item-returns-in-BodyItem-clause-answered : goal.check_item-returns-in-BodyItem-clause-answered
check_item-returns-in-BodyItem-clause-answered g m c = rw (c.in-BodyItem.is, item_body_model) c.check_body.ensures.answered

pub check_statement-returns-in-Null-clause-answered : goal.check_statement-returns-in-Null-clause-answered
check_statement-returns-in-Null-clause-answered g m c =
    rw (c.in-Null.is, statement_null_model) (if_ok c.walk_null.result _ _ (λ done is t h. (h, as_made _ _ _ is)) c.walk_null.ensures)

pub check_statement-returns-in-Assignment-clause-answered : goal.check_statement-returns-in-Assignment-clause-answered
check_statement-returns-in-Assignment-clause-answered g m c = rw (c.in-Assignment.is, statement_assignment_model) (rw c.deref.ensures at c.walk_assignment.ensures.answered)

pub check_statement-returns-in-Call-clause-answered : goal.check_statement-returns-in-Call-clause-answered
check_statement-returns-in-Call-clause-answered g m c = rw (c.in-Call.is, statement_call_model) c.walk_call.ensures.answered

pub check_statement-returns-in-Return-clause-answered : goal.check_statement-returns-in-Return-clause-answered
check_statement-returns-in-Return-clause-answered g m c = rw (c.in-Return.is, statement_returning_model) (rw c.deref-in-Return.ensures at c.walk_return.ensures.answered)

pub check_statement-returns-in-Exit-clause-answered : goal.check_statement-returns-in-Exit-clause-answered
check_statement-returns-in-Exit-clause-answered g m c = rw (c.in-Exit.is, statement_exit_model) (rw c.deref-in-Exit.ensures at c.walk_exit.ensures.answered)

pub check_statement-returns-in-Delay-clause-answered : goal.check_statement-returns-in-Delay-clause-answered
check_statement-returns-in-Delay-clause-answered g m c = rw (c.in-Delay.is, statement_delay_model) (rw c.deref-in-Delay.ensures at c.walk_delay.ensures.answered)

pub check_otherwise-returns-in_ok-inner-in-Some-clause-answered : goal.check_otherwise-returns-in_ok-inner-in-Some-clause-answered
check_otherwise-returns-in_ok-inner-in-Some-clause-answered g m c =
    rw c.in-Some.is
    (on_ok c.add_otherwise.result _ _
    (λ is t h.
    let inner = c.in_ok-inner-in-Some.ensures.answered t h in
    (inner.0, otherwise_made (g.R.Analyzer.reading t) c.args.enclosing.now _ _ _ _ _ (statements_model c.in-Some.statements) (sym c.is_ended.ensures ∙ c.if-is_ended.false) inner.1 is))
    c.add_otherwise.ensures)

pub check_object-returns-in-Ok-clause-answered : goal.check_object-returns-in-Ok-clause-answered
check_object-returns-in-Ok-clause-answered g m c =
    if_ok c.check_opened.result _ _
    (λ done answered t h.
    let whole = answered t h in
    let opened = (rw c.in-Ok.is at (rw c.deref.ensures.value at c.in_ok-opened.ensures.answered)) t whole.0 in
    (opened.0, object_read (g.R.Analyzer.reading t) _ _ (place_label c.args.opening) (identifier_label c.args.name.now) c.args.operations.now.items (named_end_model c.args.end.now) _ _ opened.1 whole.1))
    c.check_opened.ensures.answered

pub check_object-returns-in-Err-clause-answered : goal.check_object-returns-in-Err-clause-answered
check_object-returns-in-Err-clause-answered g m c = λ t h.
    let opened = (rw c.in-Err.is at (rw c.deref.ensures.value at c.in_ok-opened.ensures.answered)) t h in
    (opened.0, object_refused (g.R.Analyzer.reading t) _ _ (place_label c.args.opening) (identifier_label c.args.name.now) c.args.operations.now.items (named_end_model c.args.end.now) _ _ opened.1 c.declared.ensures)

pub check_opened-returns-clause-answered : goal.check_opened-returns-clause-answered
check_opened-returns-clause-answered g m c =
    if_ok c.finish_object.result _ _
    (λ done answered t h.
    let finished = answered t h in
    let closed = c.in_ok-close_part.ensures.answered t finished.0 in
    let all = (rw c.deref.ensures.value at c.in_ok-check_operations.ensures.answered) t closed.0 in
    (all.0, opened_made (g.R.Analyzer.reading t) _ _ _ _ _ _ _ (effects_model c.args.effects) (identifier_label c.args.name.now) c.args.operations.now.items (named_end_model c.args.end.now) _ c.new-part.ensures all.1 closed.1 c.end_of_named-fault.ensures finished.1))
    c.finish_object.ensures.answered

pub check_operation-returns-in-SubprogramOperation-clause-answered : goal.check_operation-returns-in-SubprogramOperation-clause-answered
check_operation-returns-in-SubprogramOperation-clause-answered g m c = rw (c.in-SubprogramOperation.is, operation_body_subprogram_model) c.check_body.ensures.answered

pub check_operation-returns-in-EntryOperation-clause-answered : goal.check_operation-returns-in-EntryOperation-clause-answered
check_operation-returns-in-EntryOperation-clause-answered g m c = rw (c.in-EntryOperation.is, operation_body_entry_model) c.check_entry.ensures.answered

pub check_item-returns-in-TaskItem-clause-answered : goal.check_item-returns-in-TaskItem-clause-answered
check_item-returns-in-TaskItem-clause-answered g m c = rw (c.in-TaskItem.is, item_task_model) c.task_item.ensures.answered

pub check_item-returns-in-TaskBodyItem-clause-answered : goal.check_item-returns-in-TaskBodyItem-clause-answered
check_item-returns-in-TaskBodyItem-clause-answered g m c = rw (c.in-TaskBodyItem.is, item_task_body_model) c.check_task.ensures.answered

pub check_item-returns-in-ProtectedItem-clause-answered : goal.check_item-returns-in-ProtectedItem-clause-answered
check_item-returns-in-ProtectedItem-clause-answered g m c = rw (c.in-ProtectedItem.is, item_protected_model) c.object_item.ensures.answered

pub check_item-returns-in-ProtectedBodyItem-clause-answered : goal.check_item-returns-in-ProtectedBodyItem-clause-answered
check_item-returns-in-ProtectedBodyItem-clause-answered g m c = rw (c.in-ProtectedBodyItem.is, item_protected_body_model) c.check_object.ensures.answered

pub check_loop-returns-in-PlainLoop-clause-answered : goal.check_loop-returns-in-PlainLoop-clause-answered
check_loop-returns-in-PlainLoop-clause-answered g m c = rw (c.in-PlainLoop.is, loop_plain_loop_model) (rw c.named_line.ensures at c.check_round.ensures.answered)

pub check_loop-returns-in_ok-scheme-in-WhileLoop-clause-answered : goal.check_loop-returns-in_ok-scheme-in-WhileLoop-clause-answered
check_loop-returns-in_ok-scheme-in-WhileLoop-clause-answered g m c =
    rw (c.in-WhileLoop.is, loop_while_loop_model)
    (if_ok c.check_round-in-WhileLoop.result _ _
    (λ done answered t h.
    let round = (rw c.named_line-in-WhileLoop.ensures at answered) t h in
    let head = c.in_ok-scheme-in-WhileLoop.ensures.answered t round.0 in
    let name = option_map identifier_label c.args.name.now in
    let line = named_line name (place_label c.in-WhileLoop.opening) in
    let fault = end_of name (option_map identifier_label c.in-WhileLoop.end.end_name) in
    let ss = statements_model c.in-WhileLoop.statements in
    (head.0, round.1 ∙ goes_on (λ (k : _) (s : Result SchemeTree Fault). loop_walked line s fault (statements_walked (g.R.Analyzer.reading t) (in_loop c.args.enclosing.now name) k ss)) _ _ _ head.1))
    c.check_round-in-WhileLoop.ensures.answered)

pub check_loop-returns-in_ok-scheme-in-ForLoop-clause-answered : goal.check_loop-returns-in_ok-scheme-in-ForLoop-clause-answered
check_loop-returns-in_ok-scheme-in-ForLoop-clause-answered g m c =
    rw (c.in-ForLoop.is, loop_for_loop_model)
    (if_ok c.check_for.result _ _
    (λ done answered t h.
    let whole = (rw c.named_line-in-ForLoop.ensures at answered) t h in
    let head = c.in_ok-scheme-in-ForLoop.ensures.answered t whole.0 in
    let name = option_map identifier_label c.args.name.now in
    let line = named_line name (place_label c.in-ForLoop.opening) in
    let fault = end_of name (option_map identifier_label c.in-ForLoop.end.end_name) in
    let ss = statements_model c.in-ForLoop.statements in
    (head.0, whole.1 ∙ goes_on (λ (k : _) (s : Result SchemeTree Fault). for_walked (g.R.Analyzer.reading t) k line s fault (statements_walked (g.R.Analyzer.reading t) (in_loop c.args.enclosing.now name) k ss)) _ _ _ head.1))
    c.check_for.ensures.answered)

pub check_block-returns-in_ok-inner-in-PlainBlock-clause-answered : goal.check_block-returns-in_ok-inner-in-PlainBlock-clause-answered
check_block-returns-in_ok-inner-in-PlainBlock-clause-answered g m c =
    rw (c.in-PlainBlock.is, block_plain_block_model)
    (if_ok c.into_block.result _ _
    (λ done is t h.
    let inner = c.in_ok-inner-in-PlainBlock.ensures.answered t h in
    let block = λ (n : ℕ) (f : Option Fault) (w : Walked). block_of n f (inside_of no_part w) in
    let line = named_line (option_map identifier_label c.args.name.now) (place_label c.in-PlainBlock.opening) in
    let fault = end_of (option_map identifier_label c.args.name.now) (option_map identifier_label c.in-PlainBlock.end.end_name) in
    let made = all_model c.in_ok-inner-in-PlainBlock.inner in
    (inner.0, made_of (block line fault) _ _ _ _ inner.1 (is ∙ ap (λ (f : Option Fault). block c.named_line.result f made) c.end_of-fault.ensures ∙ ap (λ (n : ℕ). block n fault made) c.named_line.ensures)))
    c.into_block.ensures)

pub check_block-returns-in-DeclareBlock-clause-answered : goal.check_block-returns-in-DeclareBlock-clause-answered
check_block-returns-in-DeclareBlock-clause-answered g m c = rw (c.in-DeclareBlock.is, block_declare_block_model) (rw c.named_line-in-DeclareBlock.ensures at c.check_declared.ensures.answered)

pub inside_subprogram-returns-clause-answered : goal.inside_subprogram-returns-clause-answered
inside_subprogram-returns-clause-answered g m c =
    if_ok c.check_after.result _ _
    (λ done answered t h.
    let inside = answered t h in
    let part = (rw c.deref.ensures.value at c.in_ok-part.ensures.answered) t inside.0 in
    (part.0, inside_made (g.R.Analyzer.reading t) c.args.enclosing.now _ _ _ _ (items_of (map item_model (out-SubprogramBody c.args.body.now).items.items)) (place_label (out-SubprogramBody c.args.body.now).begin) (statements_model (out-SubprogramBody c.args.body.now).statements) part.1 inside.1))
    c.check_after.ensures.answered

pub headed_subprogram-returns-in-Ok-clause-answered : goal.headed_subprogram-returns-in-Ok-clause-answered
headed_subprogram-returns-in-Ok-clause-answered g m c = rw c.in-Ok.is c.entered_subprogram.ensures.answered

pub headed_subprogram-returns-in-Err-clause-answered : goal.headed_subprogram-returns-in-Err-clause-answered
headed_subprogram-returns-in-Err-clause-answered g m c = rw c.in-Err.is (λ t h. (h, as_made _ _ _ c.declared.ensures))

pub entered_subprogram-returns-in-Ok-clause-answered : goal.entered_subprogram-returns-in-Ok-clause-answered
entered_subprogram-returns-in-Ok-clause-answered g m c =
    if_ok c.finish_body.result _ _
    (λ done answered t h.
    let body = answered t h in
    let inside = c.in-Ok.ensures.answered t body.0 in
    let enclosing = c.in_ok-enclosing.ensures.answered t inside.0 in
    (enclosing.0, entered_made (g.R.Analyzer.reading t) _ _ _ (effects_model c.args.effects) c.args.extent _ _ _ _ _ _ _ (items_of (map item_model (out-SubprogramBody c.args.body.now).items.items)) (place_label (out-SubprogramBody c.args.body.now).begin) (statements_model (out-SubprogramBody c.args.body.now).statements) enclosing.1 inside.1 c.inside_subprogram.ensures.kept c.returns-returns.ensures c.has_return.ensures c.no_return_fault-no_return.ensures body.1))
    c.finish_body.ensures.answered

pub inside_declared-returns-clause-answered : goal.inside_declared-returns-clause-answered
inside_declared-returns-clause-answered g m c =
    if_ok c.check_after.result _ _
    (λ done answered t h.
    let inside = answered t h in
    let part = (rw c.deref.ensures.value at c.in_ok-part.ensures.answered) t inside.0 in
    (part.0, inside_made (g.R.Analyzer.reading t) c.args.enclosing.now _ _ _ _ (items_of (map item_model (out-DeclaredStatements c.args.inner.now).items.items)) (place_label (out-DeclaredStatements c.args.inner.now).begin) (statements_model (out-DeclaredStatements c.args.inner.now).statements) part.1 inside.1))
    c.check_after.ensures.answered

pub headed_declared-returns-in-Ok-clause-answered : goal.headed_declared-returns-in-Ok-clause-answered
headed_declared-returns-in-Ok-clause-answered g m c = rw c.in-Ok.is c.entered_declared.ensures.answered

pub headed_declared-returns-in-Err-clause-answered : goal.headed_declared-returns-in-Err-clause-answered
headed_declared-returns-in-Err-clause-answered g m c = rw c.in-Err.is (λ t h. (h, as_made _ _ _ c.declared.ensures))

pub entered_declared-returns-in-Ok-clause-answered : goal.entered_declared-returns-in-Ok-clause-answered
entered_declared-returns-in-Ok-clause-answered g m c =
    if_ok c.finish_body.result _ _
    (λ done answered t h.
    let body = answered t h in
    let inside = c.in-Ok.ensures.answered t body.0 in
    let enclosing = c.in_ok-enclosing.ensures.answered t inside.0 in
    (enclosing.0, entered_made (g.R.Analyzer.reading t) _ _ _ (effects_model c.args.effects) c.args.extent _ _ _ _ _ _ _ (items_of (map item_model (out-DeclaredStatements c.args.inner.now).items.items)) (place_label (out-DeclaredStatements c.args.inner.now).begin) (statements_model (out-DeclaredStatements c.args.inner.now).statements) enclosing.1 inside.1 c.inside_declared.ensures.kept c.returns-returns.ensures c.has_return.ensures c.no_return_fault-no_return.ensures body.1))
    c.finish_body.ensures.answered

pub check_body-returns-clause-answered : goal.check_body-returns-clause-answered
check_body-returns-clause-answered g m c =
    if_ok c.headed_subprogram.result _ _
    (λ done answered t h.
    let body = answered t h in
    let head = c.in_ok-head.ensures.answered t body.0 in
    (head.0, body_read (g.R.Analyzer.reading t) _ _ (specification_model c.args.specification.now) _ _ _ c.args.body.now c.in_ok-extent.ensures head.1 body.1))
    c.headed_subprogram.ensures.answered

pub check_task-returns-clause-answered : goal.check_task-returns-clause-answered
check_task-returns-clause-answered g m c =
    if_ok c.headed_declared.result _ _
    (λ done answered t h.
    let body = answered t h in
    let head = c.in_ok-head.ensures.answered t body.0 in
    (head.0, task_read (g.R.Analyzer.reading t) _ _ (place_label c.args.opening) (identifier_label c.args.name.now) _ _ _ c.args.inner.now c.named_extent-extent.ensures head.1 body.1))
    c.headed_declared.ensures.answered

pub check_entry-returns-clause-answered : goal.check_entry-returns-clause-answered
check_entry-returns-clause-answered g m c =
    if_ok c.headed_declared.result _ _
    (λ done answered t h.
    let body = answered t h in
    let head = c.in_ok-head.ensures.answered t body.0 in
    (head.0, entry_read (g.R.Analyzer.reading t) _ _ (place_label c.args.opening) (identifier_label c.args.name.now) (expression_model c.args.barrier.now) _ _ _ c.args.inner.now c.named_extent-extent.ensures head.1 body.1))
    c.headed_declared.ensures.answered
