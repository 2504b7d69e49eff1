use Rattle.std.proofs.Common.{refl}
use Rattle.al_lsp_served.specs.Overlays.{is_open}
use Rattle.al_lsp_served.proofs.Results.{on_ok}
use Rattle.al_lsp_served.proofs.workspace.Workspace.open_file.Goals as goal

pub returns-clause-keeps : goal.returns-clause-keeps
returns-clause-keeps g c = on_ok c.keep.result c.keep.ensures.keeps (λ keeps. keeps (is_open c.args.self.now.open) (λ other differ. refl))
