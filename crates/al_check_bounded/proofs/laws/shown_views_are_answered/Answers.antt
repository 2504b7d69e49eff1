use Rattle.al_check_bounded.proofs.ShownBy.{answered}
use Rattle.al_check_bounded.proofs.laws.shown_views_are_answered.Goals as goal

pub returns : goal.returns
returns c = answered
