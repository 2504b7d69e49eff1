use Rattle.al_check_bounded.proofs.MadeLemmas.{sound_is}
use Rattle.al_check_bounded.proofs.made.sound.Goals as goal

pub returns : goal.returns
returns c = sound_is c.args.walked c.elaboration_of-elaboration.result c.elaboration_of-elaboration.ensures
