use Rattle.std.proofs.Common.{Result, Some}
use Rattle.al_base_fault.specs.declared.fault.Fault.{Fault}
use Rattle.al_stmts.specs.Simple.{returned}
use Rattle.al_view_typed.specs.ExpressionTrees.{TypedTree}
use Rattle.al_stmts_text.proofs.MadeOfRead.{alone_by}
use Rattle.al_stmts_text.proofs.returns.value_returned.Goals as goal

pub returns-clause-answered : goal.returns-clause-answered
returns-clause-answered g c = λ t h.
    let read = c.in_ok-value.ensures.answered t h in
    (read.0, λ loops. alone_by (λ (v : Result TypedTree Fault). returned c.args.place c.args.context (Some v)) _ _ _ _ read.1 c.return_statement.ensures)
