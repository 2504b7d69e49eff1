use Rattle.std.proofs.Common.{◌∙◌}
use Rattle.al_lsp_served.proofs.Overs.{over_same}
use Rattle.al_lsp_served.proofs.Results.{on_ok, ok_of}
use Rattle.al_lsp_served.proofs.server.Server.follow.Goals as goal

pub returns-clause-step : goal.returns-clause-step
returns-clause-step g c = on_ok c.tell.result c.tell.ensures.step (λ keeps. λ same. keeps (c.in_ok-follow.ensures.step same))

pub returns-clause-over : goal.returns-clause-over
returns-clause-over g c =
    ok_of c.tell.result (λ is. over_same c.follow.new.self.open c.tell.new.self.space.open c.follow.new.self.sources.texts c.tell.new.self.space.sources.texts c.tell.ensures.rest.0 c.tell.ensures.rest.1 (c.in_ok-follow.ensures.over is))

pub returns-clause-picture : goal.returns-clause-picture
returns-clause-picture g c = on_ok c.tell.result c.tell.ensures.picture (λ keeps. λ name had was. keeps name had (c.in_ok-follow.ensures.silent name had ∙ was))
