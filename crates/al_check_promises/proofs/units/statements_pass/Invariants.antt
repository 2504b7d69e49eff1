use Rattle.std.proofs.Common.{◌≡◌, drop}
use Rattle.std.specs.List.{list_all}
use Rattle.al_view_typed.specs.StatementViews.{statement_model}
use Rattle.al_view_typed.specs.Uses.{statement_uses}
use Rattle.al_check_promises.specs.Rules.{permits}
use Rattle.al_check_promises.proofs.units.statements_pass.Given as goal

abbrev pub invariant-loop-statement : goal.invariant-loop-statement
invariant-loop-statement l =
    list_all (λ x. list_all (permits l.test) (statement_uses (statement_model x))) (drop l.statement-index l.statements)
    ≡ list_all (λ x. list_all (permits l.test) (statement_uses (statement_model x))) l.statements
