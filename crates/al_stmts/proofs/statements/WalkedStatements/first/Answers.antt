use Rattle.std.proofs.Common.{◌∙◌}
use Rattle.al_stmts.proofs.Joined.{joined_first}
use Rattle.al_stmts.proofs.statements.WalkedStatements.first.Goals as goal

pub returns-in-Ok : goal.returns-in-Ok
returns-in-Ok c = c.in-Ok.ensures ∙ joined_first _ _ c.new-all.ensures
