use Rattle.std.proofs.Common.{◌≡◌, true, sym}
use Rattle.al_stmts.specs.Walking.{is_function}
use Rattle.al_stmts_text.proofs.returns.any_value_returned.Goals as goal

pub returns-then-is_function-clause-answered : goal.returns-then-is_function-clause-answered
returns-then-is_function-clause-answered g c =
    let is : is_function c.args.context.body ≡ true = sym c.if-is_function.ensures in
    rw is c.value_returned.ensures.answered
