use Rattle.al_stmts.specs.Views.{effects_model}
use Rattle.al_stmts.specs.WalkedViews.{part_model}
use Rattle.al_stmts_text.proofs.BodySteps.{object_made}
use Rattle.al_stmts_text.proofs.bodies.finish_object.Goals as goal

pub returns-in-Ok-clause-answered : goal.returns-in-Ok-clause-answered
returns-in-Ok-clause-answered g c = λ t h.
    let left = c.in-Ok.ensures.answered t h in
    (left.0, object_made (g.R.Analyzer.reading t) (effects_model c.args.effects) c.args.end _ _ (part_model c.args.operations) _ left.1 c.into_object.ensures)
