use Rattle.al_lsp_served.proofs.Placing.{taken_told}
use Rattle.al_lsp_served.proofs.workspace.Workspace.take_told.Goals as goal

pub returns-in-Some-clause-others : goal.returns-in-Some-clause-others
returns-in-Some-clause-others g c = λ other. taken_told c.args.picture.now c.remove.new.self c.args.name.now c.remove.ensures.updates other
