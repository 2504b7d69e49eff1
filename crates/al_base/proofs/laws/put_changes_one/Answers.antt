use Rattle.al_base.proofs.FileLaws.{put_changes_one}
use Rattle.al_base.proofs.laws.put_changes_one.Goals as goal

pub returns : goal.returns
returns c = put_changes_one
