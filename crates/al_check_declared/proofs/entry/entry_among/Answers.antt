use Rattle.std.proofs.Common.{sym, ◌∙◌}
use Rattle.al_check_declared.proofs.Firsts.{entry_found, entry_passed, no_entry}
use Rattle.al_check_declared.proofs.entry.entry_among.Goals as goal

pub loop-operation-preserved : goal.loop-operation-preserved
loop-operation-preserved c =
    entry_passed c.args.operations.now c.loop-operation.operation-index c.operation-item.result c.in_ok-found.found
    c.loop-operation-test.true c.operation-item.is c.in_ok-found.ensures (sym c.is_some.ensures ∙ c.if-is_some.false)
    ∙ c.loop-operation.invariant

pub returns-then-is_some : goal.returns-then-is_some
returns-then-is_some c =
    entry_found c.args.operations.now c.loop-operation.operation-index c.operation-item.result c.in_ok-found.found
    c.loop-operation-test.true c.operation-item.is c.in_ok-found.ensures (sym c.is_some.ensures ∙ c.if-is_some.true)
    ∙ c.loop-operation.invariant

pub returns : goal.returns
returns c = no_entry c.args.operations.now c.loop-operation.operation-index c.loop-operation-test.false ∙ c.loop-operation.invariant
