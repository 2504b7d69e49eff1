use Rattle.std.proofs.Common.{ap, sym, ◌∙◌}
use Rattle.al_lsp_served.specs.Told.{told_of, list_data}
use Rattle.al_lsp_served.proofs.Results.{on_ok}
use Rattle.al_lsp_served.proofs.server.Server.request.Goals as goal

pub returns-clause-picture : goal.returns-clause-picture
returns-clause-picture g c = on_ok c.respond.result c.respond.ensures.picture (λ silent. λ name had was. silent name had ∙ was ∙ ap (λ m. list_data (told_of m name)) (sym c.answer.ensures.told))
