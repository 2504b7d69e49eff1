use Rattle.std.proofs.Common.{◌++◌, ◌∙◌, List, ap}
use Rattle.std.specs.List.{flat_map}
use Rattle.al_scope.specs.declared.seen_hiding.PrivateName.{PrivateName}
use Rattle.al_check_start.specs.UnitsAt.{private_names_of}
use Rattle.al_check_start.proofs.hidden.of_ancestors.Goals as goal

pub returns-clause-answered : goal.returns-clause-answered
returns-clause-answered g c t h =
    let answered = c.in_ok-add_units.ensures.answered t h in (
      answered.0,
      answered.1
          ∙ ap (λ (hs : List PrivateName). hs ++ flat_map (private_names_of t) c.as_slice.result.now) c.empty-hidden.ensures
          ∙ ap (flat_map (private_names_of t)) (c.as_slice.ensures.value ∙ c.in_ok-ancestors.ensures.is),
    )
