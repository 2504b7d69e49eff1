use Rattle.std.proofs.Common.{ap, ◌∙◌}
use Rattle.al_stmts.specs.Steps.{Walked}
use Rattle.al_stmts.specs.Walking.{region_left}
use Rattle.al_stmts.specs.Readings.{giving}
use Rattle.al_stmts_text.proofs.Read.{if_ok}
use Rattle.al_stmts_text.proofs.regions.finish_block.Goals as goal

pub returns-clause-answered : goal.returns-clause-answered
returns-clause-answered g c =
    if_ok c.left_region.result _ _
    (λ done answered t h.
    let left = answered t h in (left.0, left.1 ∙ ap (λ (w : Walked). region_left (g.R.Analyzer.reading t) (giving (g.R.Analyzer.env c.args.analyzer.now) w)) c.in_ok-walked.ensures))
    c.left_region.ensures.answered
