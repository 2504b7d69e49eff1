use Rattle.al_query_store.proofs.CountLemmas.{both_count, fewer_count, one_count}
use Rattle.al_query_store.specs.Changes.{same_spot}
use Rattle.al_query_store.proofs.SpotLemmas.{spot_equiv, spot_one}
use Rattle.al_query_store.proofs.laws.counts_are_one.Goals as goal

pub returns-clause-one : goal.returns-clause-one
returns-clause-one c = one_count same_spot spot_equiv spot_one

pub returns-clause-fewer : goal.returns-clause-fewer
returns-clause-fewer c = fewer_count same_spot spot_equiv spot_one

pub returns-clause-both : goal.returns-clause-both
returns-clause-both c = both_count same_spot spot_equiv spot_one
