use Rattle.std.proofs.Common.{◌≡◌, ◌<◌, length, refl, sym, map, arith}
use Rattle.std.proofs.lemmas.Bool.Decides.{nat_tests}
use Rattle.al_view_typed.specs.StatementTrees.{StatementsTree as statements_trees, BranchesTree as branches_trees, AlternativesTree as alternatives_trees}
use Rattle.al_view_typed.specs.StatementViews.{alternative_model, branch_model, statement_model, statements_of}
use Rattle.al_view_typed.proofs.StatementsMade.{case_made, if_made, loop_made}
use Rattle.al_code.specs.declared.piece.Construct.TheVariants as construct
use Rattle.al_code.proofs.Writing.{written_append, written_nothing, written_more}
use Rattle.al_code.proofs.Closing.{closed_steps, repeated_steps, then_steps}
use Rattle.al_code.specs.ExprPieces.{join}
use Rattle.al_code.proofs.ExprLists.{guarded_steps, written_listed}
use Rattle.al_code.specs.Loops.{while_code}
use Rattle.al_code.specs.Statements.{alternative_code, alternatives_code, branch_code, branches_code, statement_code, statements_code}
use Rattle.al_code.proofs.Layers.{alternative_layers, branch_layers}
use Rattle.al_code.proofs.Lists.{others_none, others_some}
use Rattle.al_code.proofs.statements.+statement.Goals as goal

pub emit_statements-loop-statement-init : goal.emit_statements-loop-statement-init
emit_statements-loop-statement-init t c = sym (written_nothing c.args.out.now)

pub emit_statements-loop-statement-preserved : goal.emit_statements-loop-statement-preserved
emit_statements-loop-statement-preserved t c =
    written_more (λ x. statement_code c.args.routine (statement_model x)) c.args.out.now c.loop-statement.out c.emit_statement.new.out c.args.statements.now c.loop-statement.statement-index c.statement-item.result
    c.loop-statement.invariant c.in_ok-emit_statement.ensures c.statement-item.is c.loop-statement-test.true

pub emit_statements-returns : goal.emit_statements-returns
emit_statements-returns t c =
    written_listed statements_trees.MoreStatements statements_trees.NoStatement (statement_code c.args.routine) (statements_code c.args.routine) refl (λ x y. refl) statement_model c.args.out.now c.loop-statement.out c.args.statements.now c.loop-statement.statement-index
    c.loop-statement.invariant c.loop-statement-test.false

pub emit_branches-loop-branch-init : goal.emit_branches-loop-branch-init
emit_branches-loop-branch-init t c = sym (written_nothing c.args.out.now)

pub emit_branches-loop-branch-preserved : goal.emit_branches-loop-branch-preserved
emit_branches-loop-branch-preserved t c =
    written_more (λ x. branch_code c.args.routine (branch_model x)) c.args.out.now c.loop-branch.out c.emit_branch.new.out c.args.branches.now c.loop-branch.branch-index c.branch-item.result
    c.loop-branch.invariant c.in_ok-emit_branch.ensures c.branch-item.is c.loop-branch-test.true

pub emit_branches-returns : goal.emit_branches-returns
emit_branches-returns t c =
    written_listed branches_trees.MoreBranches branches_trees.NoBranch (branch_code c.args.routine) (branches_code c.args.routine) refl (λ x y. refl) branch_model c.args.out.now c.loop-branch.out c.args.branches.now c.loop-branch.branch-index
    c.loop-branch.invariant c.loop-branch-test.false

pub emit_alternatives-loop-alternative-init : goal.emit_alternatives-loop-alternative-init
emit_alternatives-loop-alternative-init t c = sym (written_nothing c.args.out.now)

pub emit_alternatives-loop-alternative-preserved : goal.emit_alternatives-loop-alternative-preserved
emit_alternatives-loop-alternative-preserved t c =
    written_more (λ x. alternative_code c.args.routine c.args.word (alternative_model x)) c.args.out.now c.loop-alternative.out c.emit_alternative.new.out c.args.alternatives.now c.loop-alternative.alternative-index c.alternative-item.result
    c.loop-alternative.invariant c.in_ok-emit_alternative.ensures c.alternative-item.is c.loop-alternative-test.true

pub emit_alternatives-returns : goal.emit_alternatives-returns
emit_alternatives-returns t c =
    written_listed alternatives_trees.MoreAlternatives alternatives_trees.NoAlternative (alternative_code c.args.routine c.args.word) (alternatives_code c.args.routine c.args.word) refl (λ x y. refl) alternative_model c.args.out.now c.loop-alternative.out c.args.alternatives.now c.loop-alternative.alternative-index
    c.loop-alternative.invariant c.loop-alternative-test.false

pub emit_branch-returns : goal.emit_branch-returns
emit_branch-returns t c =
    let inner = rw c.deref.ensures.value at c.in_ok-emit_statements.ensures in
    rw (branch_layers c.args.branch.now)
    (then_steps c.args.out.now c.emit_value.new.out c.close.new.self _ _ (then_steps c.args.out.now c.emit_mark.new.out c.emit_value.new.out _ _ c.in_ok-emit_mark.ensures c.in_ok-emit_value.ensures)
    (guarded_steps c.emit_value.new.out c.emit_unless_zero.new.out c.emit_join.new.out c.close.new.self c.leaving-first.result _ c.leaving-first.ensures c.in_ok-emit_unless_zero.ensures
    (then_steps c.emit_unless_zero.new.out c.emit_statements.new.out c.emit_join.new.out _ join inner c.in_ok-emit_join.ensures) c.in_ok-close.ensures))

pub emit_alternative-returns : goal.emit_alternative-returns
emit_alternative-returns t c =
    let inner = rw c.deref.ensures.value at c.in_ok-emit_statements.ensures in
    let choices = rw c.as_slice.ensures at c.in_ok-emit_choices.ensures in
    rw (alternative_layers c.args.alternative.now)
    (then_steps c.args.out.now c.emit_choices.new.out c.close.new.self _ _ choices
    (guarded_steps c.emit_choices.new.out c.emit_unless_zero.new.out c.emit_join.new.out c.close.new.self c.leaving-first.result _ c.leaving-first.ensures c.in_ok-emit_unless_zero.ensures
    (then_steps c.emit_unless_zero.new.out c.emit_statements.new.out c.emit_join.new.out _ join inner c.in_ok-emit_join.ensures) c.in_ok-close.ensures))

pub emit_others-returns-then-is_empty : goal.emit_others-returns-then-is_empty
emit_others-returns-then-is_empty t c =
    let none : length c.args.statements.now ≡ 0 = grind (arith, nat_tests, c.if-is_empty.true, c.if-is_empty.ensures) in
    rw (others_none c.args.statements.now (statements_code c.args.routine (statements_of (map statement_model c.args.statements.now))) none) (sym (written_nothing c.args.out.now))

pub emit_others-returns : goal.emit_others-returns
emit_others-returns t c =
    let p = statements_code c.args.routine (statements_of (map statement_model c.args.statements.now)) in
    let some : 0 < length c.args.statements.now = grind (arith, nat_tests, c.if-is_empty.false, c.if-is_empty.ensures) in
    rw (others_some c.args.statements.now p some, ← written_append c.args.out.now p join, ← c.in_ok-emit_statements.ensures) c.emit_join.ensures

pub emit_round-returns-in_ok-emit_back-in-Forever : goal.emit_round-returns-in_ok-emit_back-in-Forever
emit_round-returns-in_ok-emit_back-in-Forever t c =
    rw c.in-Forever.is
    (repeated_steps c.args.out.now c.emit_statements.new.out c.emit_back.new.self c.len-start.result _ c.len-start.ensures c.in_ok-emit_statements-in-Forever.ensures (λ n at. c.in_ok-emit_back-in-Forever.ensures n at))

pub emit_round-returns-in_ok-emit_back-in-While : goal.emit_round-returns-in_ok-emit_back-in-While
emit_round-returns-in_ok-emit_back-in-While t c =
    rw c.in-While.is
    (repeated_steps c.args.out.now c.emit_statements-in-While.new.out c.emit_back-in-While.new.self c.len-start-in-While.result _ c.len-start-in-While.ensures
    (then_steps c.args.out.now c.emit_while.new.out c.emit_statements-in-While.new.out _ _
    (then_steps c.args.out.now c.emit_value.new.out c.emit_while.new.out _ while_code c.in_ok-emit_value-in-While.ensures c.in_ok-emit_while-in-While.ensures) c.in_ok-emit_statements-in-While.ensures)
    (λ n at. c.in_ok-emit_back-in-While.ensures n at))

pub emit_round-returns-in_ok-emit_back-in-For : goal.emit_round-returns-in_ok-emit_back-in-For
emit_round-returns-in_ok-emit_back-in-For t c =
    rw c.in-For.is
    (then_steps c.args.out.now c.emit_marked.new.out c.emit_back-in-For.new.self _ _
    (then_steps c.args.out.now c.emit_bounds.new.out c.emit_marked.new.out _ _ c.in_ok-emit_bounds-in-For.ensures c.in_ok-emit_marked-in-For.ensures)
    (repeated_steps c.emit_marked.new.out c.emit_turn.new.out c.emit_back-in-For.new.self c.len-start-in-For.result _ c.len-start-in-For.ensures
    (then_steps c.emit_marked.new.out c.emit_statements-in-For.new.out c.emit_turn.new.out _ _ c.in_ok-emit_statements-in-For.ensures c.in_ok-emit_turn-in-For.ensures)
    (λ n at. c.in_ok-emit_back-in-For.ensures n at)))

pub emit_statement_form-returns-in_ok-close-in-Loop : goal.emit_statement_form-returns-in_ok-close-in-Loop
emit_statement_form-returns-in_ok-close-in-Loop t c =
    let inner = rw c.deref-in-Loop.ensures.value at c.in_ok-emit_round-in-Loop.ensures in
    rw c.in-Loop.is (rw (loop_made c.in-Loop.scheme c.in-Loop.statements)
    (closed_steps c.args.out.now c.emit_round.new.out c.close-in-Loop.new.self c.leaving-first-in-Loop.result construct.Loop _ c.leaving-first-in-Loop.ensures inner c.in_ok-close-in-Loop.ensures))

pub emit_statement_form-returns-in_ok-close-in-If : goal.emit_statement_form-returns-in_ok-close-in-If
emit_statement_form-returns-in_ok-close-in-If t c =
    let one = rw c.deref-in-If.ensures.value at c.in_ok-emit_branches-in-If.ensures in
    let two = rw c.deref-in-If-2.ensures.value at c.in_ok-emit_statements-in-If.ensures in
    rw c.in-If.is (rw (if_made c.in-If.branches c.in-If.otherwise)
    (closed_steps c.args.out.now c.emit_statements.new.out c.close.new.self c.leaving-first.result construct.Choice _ c.leaving-first.ensures
    (then_steps c.args.out.now c.emit_branches.new.out c.emit_statements.new.out _ _ one two) c.in_ok-close-in-If.ensures))

pub emit_statement_form-returns-in_ok-close-in-Case : goal.emit_statement_form-returns-in_ok-close-in-Case
emit_statement_form-returns-in_ok-close-in-Case t c =
    let alternatives = rw c.deref-in-Case.ensures.value at c.in_ok-emit_alternatives-in-Case.ensures in
    let others = rw c.deref-in-Case-2.ensures.value at c.in_ok-emit_others-in-Case.ensures in
    rw c.in-Case.is (rw (case_made c.in-Case.selector c.in-Case.slot c.in-Case.alternatives c.in-Case.otherwise)
    (then_steps c.args.out.now c.emit_selector.new.out c.close-in-Case.new.self _ _ c.in_ok-emit_selector-in-Case.ensures
    (closed_steps c.emit_selector.new.out c.emit_sized.new.out c.close-in-Case.new.self c.leaving-first-in-Case.result construct.Choice _ c.leaving-first-in-Case.ensures
    (then_steps c.emit_selector.new.out c.emit_mark.new.out c.emit_sized.new.out _ _
    (then_steps c.emit_selector.new.out c.emit_others.new.out c.emit_mark.new.out _ _
    (then_steps c.emit_selector.new.out c.emit_alternatives.new.out c.emit_others.new.out _ _ alternatives others) c.in_ok-emit_mark-in-Case.ensures) c.in_ok-emit_sized-in-Case.ensures) c.in_ok-close-in-Case.ensures)))
