use Rattle.al_meaning_code.proofs.InImages.{pieces_stand}
use Rattle.al_meaning_code.proofs.laws.pieces_stand.Goals as goal

pub returns : goal.returns
returns c = pieces_stand
