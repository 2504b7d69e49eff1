use Rattle.al_decl_judged.proofs.LayoutLemmas.{components_are_apart}
use Rattle.al_decl_judged.proofs.laws.components_are_apart.Goals as goal

pub returns : goal.returns
returns c = components_are_apart
