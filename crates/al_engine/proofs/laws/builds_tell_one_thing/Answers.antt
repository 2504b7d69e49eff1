use Rattle.al_engine.proofs.FromAnswers.{one_thing}
use Rattle.al_engine.proofs.laws.builds_tell_one_thing.Goals as goal

pub returns : goal.returns
returns g c = one_thing c.reply_is_one.ensures _ _ g.C.UnitCheck.meaning g.C.Text.ReadText.header g.C.UnitCheck.count (g.P.Answers.table c.args.predefined.now) g.R.ReadFiles.library
