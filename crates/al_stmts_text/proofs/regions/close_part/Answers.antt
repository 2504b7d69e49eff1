use Rattle.al_stmts.specs.Steps.{closed_by}
use Rattle.al_stmts.specs.WalkedViews.{part_model}
use Rattle.al_stmts_text.proofs.Read.{made_of}
use Rattle.al_stmts_text.proofs.regions.close_part.Goals as goal

pub returns-clause-answered : goal.returns-clause-answered
returns-clause-answered g c = λ t h.
    let missing = c.in_ok-missing.ensures.answered t h in (missing.0, made_of (closed_by (part_model c.args.part.now)) _ _ _ _ missing.1 c.close.ensures)
