use Rattle.std.proofs.Common.{◌≡◌, drop}
use Rattle.std.specs.List.{list_all}
use Rattle.al_view_typed.specs.StatementViews.{alternative_model, branch_model, statement_model}
use Rattle.al_view_typed.specs.Uses.{alternative_uses, branch_uses, statement_uses}
use Rattle.al_check_promises.specs.Rules.{permits}
use Rattle.al_check_promises.proofs.statements.+uses.Given as goal

abbrev pub invariant-inner_pass-loop-statement : goal.invariant-inner_pass-loop-statement
invariant-inner_pass-loop-statement l =
    list_all (λ x. list_all (permits l.test) (statement_uses (statement_model x))) (drop l.statement-index l.statements)
    ≡ list_all (λ x. list_all (permits l.test) (statement_uses (statement_model x))) l.statements

abbrev pub invariant-branches_pass-loop-branch : goal.invariant-branches_pass-loop-branch
invariant-branches_pass-loop-branch l =
    list_all (λ x. list_all (permits l.test) (branch_uses (branch_model x))) (drop l.branch-index l.branches)
    ≡ list_all (λ x. list_all (permits l.test) (branch_uses (branch_model x))) l.branches

abbrev pub invariant-alternatives_pass-loop-alternative : goal.invariant-alternatives_pass-loop-alternative
invariant-alternatives_pass-loop-alternative l =
    list_all (λ x. list_all (permits l.test) (alternative_uses (alternative_model x))) (drop l.alternative-index l.alternatives)
    ≡ list_all (λ x. list_all (permits l.test) (alternative_uses (alternative_model x))) l.alternatives
