use Rattle.std.proofs.Common.{ap}
use Rattle.al_stmts.specs.WalkedViews.{one_model}
use Rattle.al_stmts.specs.Readings.{giving}
use Rattle.al_stmts_text.proofs.regions.left_region.Goals as goal

pub returns-in-Ok-clause-answered : goal.returns-in-Ok-clause-answered
returns-in-Ok-clause-answered g c = λ t h. let left = c.in-Ok.ensures.answered t h in (left.0, ap (λ (k : _). giving k (one_model c.args.walked)) left.1)
