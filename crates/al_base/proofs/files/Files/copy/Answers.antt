use Rattle.std.proofs.Common.{◌∙◌, sym, subst}
use Rattle.al_base.specs.Files.{AreFiles}
use Rattle.al_base.proofs.PairLemmas.{pairs_of-clone}
use Rattle.al_base.proofs.files.Files.copy.Goals as goal

pub returns-in-Ok : goal.returns-in-Ok
returns-in-Ok c = pairs_of-clone c.self.inside.texts.entries c.in-Ok.texts.entries c.in-Ok.ensures.cases ∙ c.self.view_is

pub invariant_of-result : goal.invariant_of-result
invariant_of-result c = subst AreFiles (sym (pairs_of-clone c.self.inside.texts.entries c.in-Ok.texts.entries c.in-Ok.ensures.cases)) c.self.invariant
