use Rattle.std.proofs.Common.{List, ap, ◌∙◌}
use Rattle.al_overload_lookup.specs.Lookups.{looked_up_all}
use Rattle.al_overload_lookup.specs.Pieces.{names_of}
use Rattle.al_overload_lookup.specs.declared.name.TextName.{TextName}
use Rattle.al_overload_lookup.proofs.lookup.names.Goals as goal

pub returns-clause-answered : goal.returns-clause-answered
returns-clause-answered g c t h =
    let answered = c.in_ok-names.ensures.answered t h in
    (answered.0, answered.1 ∙ ap (λ (ns : List TextName). looked_up_all t c.args.scope.now c.args.packages.now ns) (ap names_of c.deref.ensures.value ∙ c.in_ok-pieces.ensures))
