use Rattle.std.proofs.Common.{◌∙◌}
use Rattle.al_lsp_served.proofs.Pictured.{told_all}
use Rattle.al_lsp_served.proofs.server.Server.tell_picture.Goals as goal

pub returns-clause-picture : goal.returns-clause-picture
returns-clause-picture g c = λ name had was.
    told_all c.args.self.now.told c.args.picture name _ _ (c.in_ok-tell_all.ensures.picture name had was) (c.in_ok-clear_all.ensures.picture name had)
