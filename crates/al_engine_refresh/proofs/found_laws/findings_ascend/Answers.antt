use Rattle.al_engine_refresh.proofs.Ascending as ascending
use Rattle.al_engine_refresh.proofs.found_laws.findings_ascend.Goals as goal

pub returns : goal.returns
returns c = ascending.findings_ascend
