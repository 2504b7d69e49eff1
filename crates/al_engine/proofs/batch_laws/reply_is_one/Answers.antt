use Rattle.al_engine.proofs.Replies.{reply_is_one}
use Rattle.al_engine.proofs.batch_laws.reply_is_one.Goals as goal

pub returns : goal.returns
returns c = reply_is_one
