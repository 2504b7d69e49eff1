use Rattle.al_lex.proofs.Cutting.{tokens_are_cut, fault_ends_cut, end_is_after}
use Rattle.al_lex.proofs.laws.texts_are_cut.Goals as goal

pub returns : goal.returns
returns c = record { tokens = tokens_are_cut; fault = fault_ends_cut; end = end_is_after }
