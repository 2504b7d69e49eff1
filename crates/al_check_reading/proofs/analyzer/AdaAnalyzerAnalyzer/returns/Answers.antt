use Rattle.std.proofs.Common.{ap}
use Rattle.al_stmts.specs.declared.simple.ReturnContext.{ReturnContext}
use Rattle.al_stmts.specs.Readings.{giving}
use Rattle.al_check_reading.specs.Ada.{ada}
use Rattle.al_check_reading.proofs.analyzer.AdaAnalyzerAnalyzer.returns.Goals as goal

pub returns-clause-answered : goal.returns-clause-answered
unfolding ada
returns-clause-answered g c = λ t h. (h, ap (λ (x : ReturnContext). giving c.args.self.now.state x) c.returns_in.ensures)
