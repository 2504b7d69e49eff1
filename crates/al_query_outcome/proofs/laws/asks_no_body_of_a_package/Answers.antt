use Rattle.std.proofs.Common.{◌≡◌, true, false, refl}
use Rattle.al_query.specs.Answers.{units_named}
use Rattle.al_query_outcome.specs.ReadsLaw.{named_by}
use Rattle.al_query_outcome.proofs.laws.asks_no_body_of_a_package.Goals as goal

pub returns-clause-refused : goal.returns-clause-refused
unfolding named_by units_named
returns-clause-refused g grounded = let no_ : false ≡ true = grounded.1.0 in absurd (cc)

pub returns-clause-acting : goal.returns-clause-acting
unfolding named_by units_named
returns-clause-acting g = (refl, (refl, tt))
