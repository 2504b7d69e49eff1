use Rattle.std.proofs.Common.{◌≡◌, true, false}
use Rattle.al_query.specs.Answers.{units_named}
use Rattle.al_query_outcome.specs.ReadsLaw.{named_by}
use Rattle.al_check_example_laws.proofs.laws.a_child_names_no_body_of_its_parent.Goals as goal

pub returns : goal.returns
unfolding named_by units_named
returns g grounded = let no_ : false ≡ true = grounded.1.0 in absurd (cc)
