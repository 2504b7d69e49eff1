use Rattle.al_decl_judged.proofs.TypeDeclarationLemmas.{stand_once}
use Rattle.al_decl_judged.proofs.laws.types_stand_once.Goals as goal

pub returns : goal.returns
returns c = stand_once
