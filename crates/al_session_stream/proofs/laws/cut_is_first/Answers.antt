use Rattle.al_session_stream.proofs.Cuts.{cut_at-first}
use Rattle.al_session_stream.proofs.laws.cut_is_first.Goals as goal

pub returns : goal.returns
returns c = cut_at-first
