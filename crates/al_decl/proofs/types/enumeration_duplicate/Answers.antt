use Rattle.std.proofs.Common.{Option, ap, ◌∙◌}
use Rattle.al_decl.specs.TypeNames.{type_duplicate}
use Rattle.al_base_fault.specs.Faults.{earlier}
use Rattle.al_base_fault.specs.declared.fault.Fault.{Fault}
use Rattle.al_decl.proofs.types.enumeration_duplicate.Goals as goal

pub returns-clause-answered : goal.returns-clause-answered
returns-clause-answered g c t h =
    let literal = c.in_ok-literal.ensures.answered t h in
    let named = c.in_ok-named.ensures.answered t literal.0 in (
      named.0,
      c.earlier.ensures
          ∙ ap (λ (d : Option Fault). earlier d c.in_ok-literal.literal) named.1
          ∙ ap (λ (d : Option Fault). earlier (type_duplicate t c.args.scope.now c.args.name.now) d) literal.1,
    )
