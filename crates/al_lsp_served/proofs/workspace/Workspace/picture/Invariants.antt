use Rattle.std.proofs.Common.{◌≡◌, ℕ, List, map, take, is_some}
use Rattle.al_base.specs.Batch.{finding_of}
use Rattle.al_lsp_served.specs.Named.{held}
use Rattle.al_lsp_served.specs.Told.{told_of, told_list}
use Rattle.al_lsp_served.proofs.workspace.Workspace.picture.Given as goal

abbrev pub invariant-loop-found : goal.invariant-loop-found
invariant-loop-found g l = (name : List ℕ) → told_of l.picture name ≡ told_list l.self.counting l.self.sources.texts (λ name. is_some (held l.self.open name)) name (map finding_of (take l.found-index l.found-items))
