use Rattle.std.proofs.Common.{Option, ap, ◌∙◌}
use Rattle.al_base_fault.specs.Faults.{earlier}
use Rattle.al_base_fault.specs.declared.fault.Fault.{Fault}
use Rattle.al_decl.specs.Declaring.{duplicate}
use Rattle.al_view.specs.declared.view.ViewKind.TheVariants.{OfComponent}
use Rattle.al_decl_protected.proofs.level.name_fault.Goals as goal

pub returns-clause-answered : goal.returns-clause-answered
returns-clause-answered g c t h =
    let homograph = c.in_ok-duplicate.ensures.answered t h in (
      homograph.0,
      c.earlier.ensures
          ∙ ap (λ (d : Option Fault). earlier d c.library_fault.result) homograph.1
          ∙ ap (λ (d : Option Fault). earlier (duplicate t c.args.env.now.scope OfComponent c.args.name.now) d) c.library_fault.ensures,
    )
