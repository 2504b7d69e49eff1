use Rattle.al_decl_judged.proofs.NumberLemmas.{numbers_count_homonyms}
use Rattle.al_decl_judged.proofs.laws.numbers_count_homonyms.Goals as goal

pub returns : goal.returns
returns c = numbers_count_homonyms
