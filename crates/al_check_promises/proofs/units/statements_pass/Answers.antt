use Rattle.std.specs.List.{list_all}
use Rattle.al_view_typed.specs.StatementViews.{statement_model}
use Rattle.al_view_typed.specs.Uses.{statement_uses}
use Rattle.al_check_promises.proofs.Listed.{all_mapped, ends, stops}
use Rattle.al_check_promises.specs.Rules.{permits}
use Rattle.al_check_promises.proofs.units.statements_pass.Goals as goal

pub returns-then-not-statement_passes : goal.returns-then-not-statement_passes
returns-then-not-statement_passes c =
    let p = permits c.args.test.now in
    stops (λ x. list_all p (statement_uses (statement_model x))) c.args.statements.now c.loop-statement.statement-index c.statement-item.result c.statement_passes.result _
    c.statement-item.is c.loop-statement-test.true c.statement_passes.ensures c.if-not-statement_passes.true (all_mapped p statement_uses statement_model c.args.statements.now)

pub returns : goal.returns
returns c =
    let p = permits c.args.test.now in
    ends (λ x. list_all p (statement_uses (statement_model x))) c.args.statements.now c.loop-statement.statement-index _
    c.loop-statement-test.false c.loop-statement.invariant (all_mapped p statement_uses statement_model c.args.statements.now)
