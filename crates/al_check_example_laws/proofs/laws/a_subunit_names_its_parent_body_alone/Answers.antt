use Rattle.std.proofs.Common.{◌≡◌, true, false, refl}
use Rattle.al_query_outcome.specs.ReadsLaw.{named_by}
use Rattle.al_check_example_laws.proofs.laws.a_subunit_names_its_parent_body_alone.Goals as goal

pub returns-clause-parent : goal.returns-clause-parent
unfolding named_by
returns-clause-parent g answer = (refl, tt)

pub returns-clause-other : goal.returns-clause-other
unfolding named_by
returns-clause-other g answer grounded = let no_ : false ≡ true = grounded.0 in absurd (cc)
