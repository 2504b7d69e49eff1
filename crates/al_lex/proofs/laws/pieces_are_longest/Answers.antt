use Rattle.al_lex.proofs.Fronts.{pieces_are_longest}
use Rattle.al_lex.proofs.laws.pieces_are_longest.Goals as goal

pub returns : goal.returns
returns c = pieces_are_longest
