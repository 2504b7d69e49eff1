use Rattle.al_check_here.proofs.Lists.{on_ok}
use Rattle.al_check_reading.specs.Ada.{ada}
use Rattle.al_check_reading.proofs.analyzer.AdaAnalyzerAnalyzer.block_entered.Goals as goal

pub returns-clause-answered : goal.returns-clause-answered
unfolding ada
returns-clause-answered g c = on_ok c.enter_block.result _ _ (λ e t h. (h, e)) c.enter_block.ensures.entered
