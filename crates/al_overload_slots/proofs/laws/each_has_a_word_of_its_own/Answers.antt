use Rattle.al_overload_slots.proofs.Runs.{each_has_a_word}
use Rattle.al_overload_slots.proofs.laws.each_has_a_word_of_its_own.Goals as goal

pub returns : goal.returns
returns c = each_has_a_word
