use Rattle.al_base.proofs.FileLaws.{rename_moves_one}
use Rattle.al_base.proofs.laws.rename_moves_one.Goals as goal

pub returns : goal.returns
returns c = rename_moves_one
