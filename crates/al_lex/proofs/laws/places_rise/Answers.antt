use Rattle.al_lex.proofs.Rising.{places_rise}
use Rattle.al_lex.proofs.laws.places_rise.Goals as goal

pub returns : goal.returns
returns c = places_rise
