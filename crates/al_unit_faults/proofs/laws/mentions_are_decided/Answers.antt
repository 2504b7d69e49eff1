use Rattle.al_unit_faults.proofs.PrivateLemmas as lemmas
use Rattle.al_unit_faults.proofs.laws.mentions_are_decided.Goals as goal

pub returns : goal.returns
returns c = lemmas.mentions_are_decided
