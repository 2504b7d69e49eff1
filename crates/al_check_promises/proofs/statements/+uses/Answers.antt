use Rattle.std.proofs.Common.{◌≡◌, ◌++◌, ◌∙◌, false, map, refl, rules}
use Rattle.std.specs.List.{list_all}
use Rattle.al_view_typed.specs.StatementTrees.{StatementsTree as statements_trees, BranchesTree as branches_trees, AlternativesTree as alternatives_trees}
use Rattle.al_view_typed.specs.DeclarationTrees.{declaration_model}
use Rattle.al_view_typed.specs.ExpressionViews.{name_model, typed_model, value_model}
use Rattle.al_view_typed.specs.StatementViews.{alternative_model, alternatives_of, branch_model, branches_of, scheme_model, statement_model, statements_of}
use Rattle.al_view_typed.specs.Uses.{alternative_uses, alternatives_uses, branch_uses, branches_uses, declarations_uses, name_uses, scheme_uses, statement_uses, statements_uses, typed_uses, value_uses}
use Rattle.al_view_typed.specs.declared.statement.Branch.{out-Branch}
use Rattle.al_view_typed.proofs.StatementsMade.{assignment_made, block_made, case_made, if_made, loop_made}
use Rattle.al_check_promises.specs.Rules.{permits}
use Rattle.al_check_promises.proofs.Layers.{branch_layers}
use Rattle.al_check_promises.proofs.Listed.{all_listed, both, ends, first_fails, stops}
use Rattle.al_check_promises.proofs.statements.+uses.Goals as goal

pub inner_pass-returns-then-not-statement_passes : goal.inner_pass-returns-then-not-statement_passes
inner_pass-returns-then-not-statement_passes t c =
    let p = permits c.args.test.now in
    stops (λ x. list_all p (statement_uses (statement_model x))) c.args.statements.now c.loop-statement.statement-index c.statement-item.result c.statement_passes.result _
    c.statement-item.is c.loop-statement-test.true c.statement_passes.ensures c.if-not-statement_passes.true (all_listed p statements_trees.MoreStatements statements_trees.NoStatement statement_uses statements_uses statement_model refl (λ x y. refl) c.args.statements.now)

pub inner_pass-returns : goal.inner_pass-returns
inner_pass-returns t c =
    let p = permits c.args.test.now in
    ends (λ x. list_all p (statement_uses (statement_model x))) c.args.statements.now c.loop-statement.statement-index _
    c.loop-statement-test.false c.loop-statement.invariant (all_listed p statements_trees.MoreStatements statements_trees.NoStatement statement_uses statements_uses statement_model refl (λ x y. refl) c.args.statements.now)

pub branches_pass-returns-then-not-branch_passes : goal.branches_pass-returns-then-not-branch_passes
branches_pass-returns-then-not-branch_passes t c =
    let p = permits c.args.test.now in
    stops (λ x. list_all p (branch_uses (branch_model x))) c.args.branches.now c.loop-branch.branch-index c.branch-item.result c.branch_passes.result _
    c.branch-item.is c.loop-branch-test.true c.branch_passes.ensures c.if-not-branch_passes.true (all_listed p branches_trees.MoreBranches branches_trees.NoBranch branch_uses branches_uses branch_model refl (λ x y. refl) c.args.branches.now)

pub branches_pass-returns : goal.branches_pass-returns
branches_pass-returns t c =
    let p = permits c.args.test.now in
    ends (λ x. list_all p (branch_uses (branch_model x))) c.args.branches.now c.loop-branch.branch-index _
    c.loop-branch-test.false c.loop-branch.invariant (all_listed p branches_trees.MoreBranches branches_trees.NoBranch branch_uses branches_uses branch_model refl (λ x y. refl) c.args.branches.now)

pub alternatives_pass-returns-then-not-alternative_passes : goal.alternatives_pass-returns-then-not-alternative_passes
alternatives_pass-returns-then-not-alternative_passes t c =
    let p = permits c.args.test.now in
    stops (λ x. list_all p (alternative_uses (alternative_model x))) c.args.alternatives.now c.loop-alternative.alternative-index c.alternative-item.result c.alternative_passes.result _
    c.alternative-item.is c.loop-alternative-test.true c.alternative_passes.ensures c.if-not-alternative_passes.true (all_listed p alternatives_trees.MoreAlternatives alternatives_trees.NoAlternative alternative_uses alternatives_uses alternative_model refl (λ x y. refl) c.args.alternatives.now)

pub alternatives_pass-returns : goal.alternatives_pass-returns
alternatives_pass-returns t c =
    let p = permits c.args.test.now in
    ends (λ x. list_all p (alternative_uses (alternative_model x))) c.args.alternatives.now c.loop-alternative.alternative-index _
    c.loop-alternative-test.false c.loop-alternative.invariant (all_listed p alternatives_trees.MoreAlternatives alternatives_trees.NoAlternative alternative_uses alternatives_uses alternative_model refl (λ x y. refl) c.args.alternatives.now)

pub form_passes-returns-then-name_passes : goal.form_passes-returns-then-name_passes
form_passes-returns-then-name_passes t c =
    let p = permits c.args.test.now in
    let one : c.name_passes.result ≡ list_all p (name_uses (name_model c.in-Assignment.target)) = search rules in
    let two : c.value_passes.result ≡ list_all p (value_uses (value_model c.in-Assignment.value)) = search rules in
    rw c.in-Assignment.is (rw (assignment_made c.in-Assignment.target c.in-Assignment.words c.in-Assignment.value) (both p (name_uses (name_model c.in-Assignment.target)) (value_uses (value_model c.in-Assignment.value)) _ _ one c.if-name_passes.true two))

pub form_passes-returns-else-name_passes : goal.form_passes-returns-else-name_passes
form_passes-returns-else-name_passes t c =
    let p = permits c.args.test.now in
    let one : c.name_passes.result ≡ list_all p (name_uses (name_model c.in-Assignment.target)) = search rules in
    rw c.in-Assignment.is (rw (assignment_made c.in-Assignment.target c.in-Assignment.words c.in-Assignment.value) (c.if-name_passes.false ∙ first_fails p (name_uses (name_model c.in-Assignment.target)) (value_uses (value_model c.in-Assignment.value)) _ one c.if-name_passes.false))

pub form_passes-returns-then-branches_pass : goal.form_passes-returns-then-branches_pass
form_passes-returns-then-branches_pass t c =
    let p = permits c.args.test.now in
    let one : c.branches_pass.result ≡ list_all p (branches_uses (branches_of (map branch_model c.in-If.branches.items))) = search rules in
    let two : c.inner_pass.result ≡ list_all p (statements_uses (statements_of (map statement_model c.in-If.otherwise.items))) = search rules in
    rw c.in-If.is (rw (if_made c.in-If.branches c.in-If.otherwise) (both p (branches_uses (branches_of (map branch_model c.in-If.branches.items))) (statements_uses (statements_of (map statement_model c.in-If.otherwise.items))) _ _ one c.if-branches_pass.true two))

pub form_passes-returns-else-branches_pass : goal.form_passes-returns-else-branches_pass
form_passes-returns-else-branches_pass t c =
    let p = permits c.args.test.now in
    let one : c.branches_pass.result ≡ list_all p (branches_uses (branches_of (map branch_model c.in-If.branches.items))) = search rules in
    rw c.in-If.is (rw (if_made c.in-If.branches c.in-If.otherwise) (c.if-branches_pass.false ∙ first_fails p (branches_uses (branches_of (map branch_model c.in-If.branches.items))) (statements_uses (statements_of (map statement_model c.in-If.otherwise.items))) _ one c.if-branches_pass.false))

pub form_passes-returns-then-scheme_passes : goal.form_passes-returns-then-scheme_passes
form_passes-returns-then-scheme_passes t c =
    let p = permits c.args.test.now in
    let one : c.scheme_passes.result ≡ list_all p (scheme_uses (scheme_model c.in-Loop.scheme)) = search rules in
    let two : c.inner_pass-then-scheme_passes.result ≡ list_all p (statements_uses (statements_of (map statement_model c.in-Loop.statements.items))) = search rules in
    rw c.in-Loop.is (rw (loop_made c.in-Loop.scheme c.in-Loop.statements) (both p (scheme_uses (scheme_model c.in-Loop.scheme)) (statements_uses (statements_of (map statement_model c.in-Loop.statements.items))) _ _ one c.if-scheme_passes.true two))

pub form_passes-returns-else-scheme_passes : goal.form_passes-returns-else-scheme_passes
form_passes-returns-else-scheme_passes t c =
    let p = permits c.args.test.now in
    let one : c.scheme_passes.result ≡ list_all p (scheme_uses (scheme_model c.in-Loop.scheme)) = search rules in
    rw c.in-Loop.is (rw (loop_made c.in-Loop.scheme c.in-Loop.statements) (c.if-scheme_passes.false ∙ first_fails p (scheme_uses (scheme_model c.in-Loop.scheme)) (statements_uses (statements_of (map statement_model c.in-Loop.statements.items))) _ one c.if-scheme_passes.false))

pub form_passes-returns-then-declarations_pass : goal.form_passes-returns-then-declarations_pass
form_passes-returns-then-declarations_pass t c =
    let p = permits c.args.test.now in
    let one : c.declarations_pass.result ≡ list_all p (declarations_uses (map declaration_model c.in-Block.declarations.items)) = search rules in
    let two : c.inner_pass-then-declarations_pass.result ≡ list_all p (statements_uses (statements_of (map statement_model c.in-Block.statements.items))) = search rules in
    rw c.in-Block.is (rw (block_made c.in-Block.declarations c.in-Block.statements) (both p (declarations_uses (map declaration_model c.in-Block.declarations.items)) (statements_uses (statements_of (map statement_model c.in-Block.statements.items))) _ _ one c.if-declarations_pass.true two))

pub form_passes-returns-else-declarations_pass : goal.form_passes-returns-else-declarations_pass
form_passes-returns-else-declarations_pass t c =
    let p = permits c.args.test.now in
    let one : c.declarations_pass.result ≡ list_all p (declarations_uses (map declaration_model c.in-Block.declarations.items)) = search rules in
    rw c.in-Block.is (rw (block_made c.in-Block.declarations c.in-Block.statements) (c.if-declarations_pass.false ∙ first_fails p (declarations_uses (map declaration_model c.in-Block.declarations.items)) (statements_uses (statements_of (map statement_model c.in-Block.statements.items))) _ one c.if-declarations_pass.false))

pub form_passes-returns-then-not-typed_passes : goal.form_passes-returns-then-not-typed_passes
form_passes-returns-then-not-typed_passes t c =
    let p = permits c.args.test.now in
    let one : c.typed_passes-in-Case.result ≡ list_all p (typed_uses (typed_model c.in-Case.selector)) = search rules in
    rw c.in-Case.is (rw (case_made c.in-Case.selector c.in-Case.slot c.in-Case.alternatives c.in-Case.otherwise)
    (first_fails p (typed_uses (typed_model c.in-Case.selector) ++ alternatives_uses (alternatives_of (map alternative_model c.in-Case.alternatives.items))) (statements_uses (statements_of (map statement_model c.in-Case.otherwise.items))) false (first_fails p (typed_uses (typed_model c.in-Case.selector)) (alternatives_uses (alternatives_of (map alternative_model c.in-Case.alternatives.items))) _ one c.if-not-typed_passes.true) refl))

pub form_passes-returns-then-alternatives_pass : goal.form_passes-returns-then-alternatives_pass
form_passes-returns-then-alternatives_pass t c =
    let p = permits c.args.test.now in
    let one : c.typed_passes-in-Case.result ≡ list_all p (typed_uses (typed_model c.in-Case.selector)) = search rules in
    let two : c.alternatives_pass.result ≡ list_all p (alternatives_uses (alternatives_of (map alternative_model c.in-Case.alternatives.items))) = search rules in
    let three : c.inner_pass-then-alternatives_pass.result ≡ list_all p (statements_uses (statements_of (map statement_model c.in-Case.otherwise.items))) = search rules in
    rw c.in-Case.is (rw (case_made c.in-Case.selector c.in-Case.slot c.in-Case.alternatives c.in-Case.otherwise)
    (both p (typed_uses (typed_model c.in-Case.selector) ++ alternatives_uses (alternatives_of (map alternative_model c.in-Case.alternatives.items))) (statements_uses (statements_of (map statement_model c.in-Case.otherwise.items))) _ _ (both p (typed_uses (typed_model c.in-Case.selector)) (alternatives_uses (alternatives_of (map alternative_model c.in-Case.alternatives.items))) _ _ one c.if-not-typed_passes.false two) c.if-alternatives_pass.true three))

pub form_passes-returns-else-alternatives_pass : goal.form_passes-returns-else-alternatives_pass
form_passes-returns-else-alternatives_pass t c =
    let p = permits c.args.test.now in
    let one : c.typed_passes-in-Case.result ≡ list_all p (typed_uses (typed_model c.in-Case.selector)) = search rules in
    let two : c.alternatives_pass.result ≡ list_all p (alternatives_uses (alternatives_of (map alternative_model c.in-Case.alternatives.items))) = search rules in
    rw c.in-Case.is (rw (case_made c.in-Case.selector c.in-Case.slot c.in-Case.alternatives c.in-Case.otherwise)
    (c.if-alternatives_pass.false ∙ first_fails p (typed_uses (typed_model c.in-Case.selector) ++ alternatives_uses (alternatives_of (map alternative_model c.in-Case.alternatives.items))) (statements_uses (statements_of (map statement_model c.in-Case.otherwise.items))) _ (both p (typed_uses (typed_model c.in-Case.selector)) (alternatives_uses (alternatives_of (map alternative_model c.in-Case.alternatives.items))) _ _ one c.if-not-typed_passes.false two) c.if-alternatives_pass.false))

pub branch_passes-returns-then-typed_passes : goal.branch_passes-returns-then-typed_passes
branch_passes-returns-then-typed_passes t c =
    let p = permits c.args.test.now in
    let two = rw c.deref.ensures.value at c.inner_pass.ensures in
    rw (branch_layers c.args.branch.now) (both p _ _ _ _ c.typed_passes.ensures c.if-typed_passes.true two)

pub branch_passes-returns-else-typed_passes : goal.branch_passes-returns-else-typed_passes
branch_passes-returns-else-typed_passes t c =
    let p = permits c.args.test.now in
    rw (branch_layers c.args.branch.now)
    (c.if-typed_passes.false ∙ first_fails p _ (statements_uses (statements_of (map statement_model (out-Branch c.args.branch.now).statements.items))) _ c.typed_passes.ensures c.if-typed_passes.false)
