use Rattle.al_base.proofs.FileLaws.{delete_changes_one}
use Rattle.al_base.proofs.laws.delete_changes_one.Goals as goal

pub returns : goal.returns
returns c = delete_changes_one
