use Rattle.std.proofs.Common.{ap}
use Rattle.al_view.specs.declared.types.Bounds.{Bounds}
use Rattle.al_check_here.proofs.Lists.{if_ok}
use Rattle.al_stmts.specs.Readings.{giving}
use Rattle.al_check_reading.specs.Ada.{ada}
use Rattle.al_check_reading.proofs.analyzer.AdaAnalyzerAnalyzer.whole.Goals as goal

pub returns-clause-answered : goal.returns-clause-answered
unfolding ada
returns-clause-answered g c = if_ok c.whole.result _ _ (λ x answered t h. let read = answered t h in (read.0, ap (λ (y : Bounds). giving c.args.self.now.state y) read.1)) c.whole.ensures.answered
