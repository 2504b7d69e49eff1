use Rattle.al_decl_judged.proofs.TypeDeclarationLemmas.{are_there}
use Rattle.al_decl_judged.proofs.laws.types_are_there.Goals as goal

pub returns : goal.returns
returns c = are_there
