use Rattle.std.proofs.Common.{ℕ, ap}
use Rattle.al_stmts.specs.Readings.{giving}
use Rattle.al_check_reading.specs.Ada.{ada}
use Rattle.al_check_reading.proofs.analyzer.AdaAnalyzerAnalyzer.word.Goals as goal

pub returns-clause-answered : goal.returns-clause-answered
unfolding ada
returns-clause-answered g c = λ t h. (h, ap (λ (x : ℕ). giving c.args.self.now.state x) c.word.ensures)
