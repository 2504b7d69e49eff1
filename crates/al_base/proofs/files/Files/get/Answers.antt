use Rattle.std.proofs.Common.{arith}
use Rattle.al_base.proofs.PairLemmas.{text_of-pairs_of}
use Rattle.al_base.proofs.files.Files.get.Goals as goal

pub returns-in_err-get : goal.returns-in_err-get
returns-in_err-get c = let same = text_of-pairs_of c.self.inside.texts.entries c.args.name.now in grind (arith, same, c.self.view_is)

pub returns : goal.returns
returns c = let same = text_of-pairs_of c.self.inside.texts.entries c.args.name.now in grind (arith, same, c.self.view_is)
