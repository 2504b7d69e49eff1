use Rattle.al_check_reading.specs.Ada.{ada}
use Rattle.al_check_reading.proofs.analyzer.AdaAnalyzerAnalyzer.object_left.Goals as goal

pub returns-clause-answered : goal.returns-clause-answered
unfolding ada
returns-clause-answered g c = λ t h. (h, c.leave_object.ensures)
