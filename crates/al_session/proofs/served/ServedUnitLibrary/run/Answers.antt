use Rattle.al_session.proofs.FromAnswers.{run_answers}
use Rattle.al_session.proofs.served.ServedUnitLibrary.run.Goals as goal

pub returns-in-Ok : goal.returns-in-Ok
returns-in-Ok g c =
    run_answers g.C.UnitCheck.meaning g.C.Text.ReadText.header g.P.FixedAnswers.answers g.R.ReadFiles.library
    c.self.inside.engine.files c.self.inside.engine.built c.args.self.now c.args.tick c.args.steps c.in-Ok.ran c.end_of.result
    c.self.view_is c.self.invariant c.end_of.ensures c.in-Ok.ensures.0 c.in-Ok.ensures.1 c.in-Ok.ensures.2
