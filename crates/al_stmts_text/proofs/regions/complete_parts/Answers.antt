use Rattle.al_stmts.specs.Steps.{closed_by}
use Rattle.al_stmts.specs.WalkedViews.{part_model}
use Rattle.al_stmts_text.proofs.Read.{made_of}
use Rattle.al_stmts_text.proofs.regions.complete_parts.Goals as goal

pub returns-clause-answered : goal.returns-clause-answered
returns-clause-answered g c = λ t h.
    let incomplete = c.in_ok-incomplete.ensures.answered t h in (incomplete.0, made_of (closed_by (part_model c.args.part.now)) _ _ _ _ incomplete.1 c.close.ensures)
