use Rattle.std.proofs.Common.{ap}
use Rattle.al_view_typed.specs.UnitTrees.{BodyTree}
use Rattle.al_check_here.proofs.Lists.{if_ok}
use Rattle.al_stmts.specs.Readings.{giving}
use Rattle.al_check_reading.specs.Ada.{ada}
use Rattle.al_check_reading.proofs.analyzer.AdaAnalyzerAnalyzer.body.Goals as goal

pub returns-clause-answered : goal.returns-clause-answered
unfolding ada
returns-clause-answered g c = if_ok c.labelled.result _ _ (λ x e t h. (h, ap (λ (y : BodyTree). giving c.args.self.now.state y) e)) c.labelled.ensures
