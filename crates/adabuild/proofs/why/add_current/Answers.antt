use Rattle.adabuild.proofs.WhyWords.{current_several}
use Rattle.adabuild.proofs.why.add_current.Goals as goal

pub returns : goal.returns
returns c = rw (current_several c.args.count c.if-count-eq0.false c.if-count-eq1.false) c.add_several.ensures
