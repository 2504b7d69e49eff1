use Rattle.std.proofs.Common.{Option, ap, ◌∙◌}
use Rattle.al_check_here.specs.declared.state.AnalyzedHeading.{AnalyzedHeading}
use Rattle.al_check_declared.specs.EnteredHere.{read_entered}
use Rattle.al_check_declared.proofs.Composed.{on_ok}
use Rattle.al_check_declared.proofs.bodies.enter_body.Goals as goal

pub returns-in-Some-clause-answered : goal.returns-in-Some-clause-answered
returns-in-Some-clause-answered g c =
    let s = c.args.state.now in
    on_ok c.enter_read.result _ _
    (λ answered t h. let read = answered t h in (read.0, read.1 ∙ ap (λ (p : Option AnalyzedHeading). read_entered t (record s { pending = p }) p) c.in-Some.ensures.value))
    c.enter_read.ensures.answered

pub returns-in-None-clause-answered : goal.returns-in-None-clause-answered
returns-in-None-clause-answered g c t h =
    let s = c.args.state.now in (
      h,
      ap (λ (p : Option AnalyzedHeading). record s { pending = p }) (c.in-None.ensures.after ∙ c.in-None.ensures.value)
          ∙ ap (λ (p : Option AnalyzedHeading). read_entered t s p) c.in-None.ensures.value,
    )
