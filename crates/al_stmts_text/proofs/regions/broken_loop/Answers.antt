use Rattle.std.proofs.Common.{ap, ◌∙◌}
use Rattle.al_stmts.specs.Steps.{broken_by}
use Rattle.al_stmts.specs.Readings.{giving}
use Rattle.al_stmts_text.proofs.Read.{as_made}
use Rattle.al_stmts_text.proofs.regions.broken_loop.Goals as goal

pub returns-clause-answered : goal.returns-clause-answered
returns-clause-answered g c = λ t h.
    let left = c.in_ok-left.ensures.answered t h in (left.0, as_made _ _ _ c.broken_by.ensures ∙ ap (λ (k : _). giving k (broken_by c.args.fault)) left.1)
