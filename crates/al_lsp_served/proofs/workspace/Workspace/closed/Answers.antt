use Rattle.std.proofs.Common.{inl}
use Rattle.al_lsp_served.proofs.Results.{on_ok}
use Rattle.al_lsp_served.proofs.workspace.Workspace.closed.Goals as goal

pub returns-clause-over : goal.returns-clause-over
returns-clause-over g c = on_ok c.reread.result c.reread.ensures.over (λ keeps. λ is. keeps (c.close_file.ensures.over is))

pub returns-clause-follows : goal.returns-clause-follows
returns-clause-follows g c = on_ok c.reread.result c.reread.ensures.follows (λ follows. λ same. inl (follows (c.close_file.ensures.step same)))
