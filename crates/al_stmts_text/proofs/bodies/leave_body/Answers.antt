use Rattle.std.proofs.Common.{ap}
use Rattle.al_stmts.specs.WalkedViews.{part_model}
use Rattle.al_stmts.specs.Readings.{giving}
use Rattle.al_stmts_text.proofs.bodies.leave_body.Goals as goal

pub returns-in-Ok-clause-answered : goal.returns-in-Ok-clause-answered
returns-in-Ok-clause-answered g c = λ t h. let left = c.in-Ok.ensures.answered t h in (left.0, ap (λ (k : _). giving k (part_model c.args.part)) left.1)
