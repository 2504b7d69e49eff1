use Rattle.std.proofs.Common.{Option, refl, ap, ◌∙◌}
use Rattle.al_base_fault.specs.declared.fault.Fault.{Fault}
use Rattle.al_decl_judged.specs.Subprograms.{subprogram_declared}
use Rattle.al_decl.proofs.Outcomes.{if_ok}
use Rattle.al_decl.proofs.Waiting.{waits}
use Rattle.al_decl.proofs.subprogram.place_subprogram.Goals as goal

pub returns-clause-answered : goal.returns-clause-answered
returns-clause-answered g c =
    let h = c.args.env.now in
    if_ok c.finish.result _ _
    (λ checked made t agrees.
    let homograph = c.in_ok-duplicate.ensures.answered t agrees in (
      homograph.0,
      waits _ h _ _ _ made (c.in_ok-declared.ensures ∙ ap (λ (d : Option Fault). subprogram_declared h.progress h.uncompleted c.args.line d c.args.heading.now) homograph.1) refl,
    ))
    c.finish.ensures.made
