use Rattle.std.proofs.Common.{Result, ap}
use Rattle.al_stmts.specs.declared.choice.Choice.{Choice}
use Rattle.al_base_fault.specs.declared.fault.Fault.{Fault}
use Rattle.al_check_here.proofs.Lists.{if_ok}
use Rattle.al_stmts.specs.Readings.{giving}
use Rattle.al_check_reading.specs.Ada.{ada}
use Rattle.al_check_reading.proofs.analyzer.AdaAnalyzerAnalyzer.choice.Goals as goal

pub returns-clause-answered : goal.returns-clause-answered
unfolding ada
returns-clause-answered g c = if_ok c.choice.result _ _ (λ x answered t h. let read = answered t h in (read.0, ap (λ (y : Result Choice Fault). giving c.args.self.now.state y) read.1)) c.choice.ensures.answered
