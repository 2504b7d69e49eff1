use Rattle.std.proofs.Common.{[], Option, ap, ◌∙◌}
use Rattle.al_decl_judged.specs.DefiningNames.{repeated}
use Rattle.al_decl.specs.Declaring.{duplicates}
use Rattle.al_view.specs.declared.view.ViewKind.TheVariants.{OfComponent}
use Rattle.al_base_fault.specs.Faults.{earlier}
use Rattle.al_base_fault.specs.declared.fault.Fault.{Fault}
use Rattle.al_decl.proofs.components.names_fault.Goals as goal

pub returns-clause-answered : goal.returns-clause-answered
returns-clause-answered g c t h =
    let answered = c.in_ok-duplicate.ensures.answered t h in (
      answered.0,
      c.earlier.ensures
          ∙ ap (λ (d : Option Fault). earlier d c.in_ok-twice.twice) answered.1
          ∙ ap (λ (d : Option Fault). earlier (duplicates t c.args.scope.now OfComponent c.args.names.now) d) c.in_ok-twice.ensures,
    )
