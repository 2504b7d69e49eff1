use Rattle.al_session.proofs.Building.{built_from, last_only, still_only}
use Rattle.al_session.proofs.served.ServedUnitLibrary.build.Goals as goal

pub invariant_of-self : goal.invariant_of-self
invariant_of-self g c =
    still_only g.C.UnitCheck.meaning g.C.Text.ReadText.header g.P.FixedAnswers.answers g.R.ReadFiles.library
    c.self.inside.engine.built c.build.new.self.built c.in_err-build.ensures.err.1 c.self.invariant

pub invariant_of-self-2 : goal.invariant_of-self-2
invariant_of-self-2 g c =
    let predefined = c.self.inside.engine.predefined in
    last_only g.C.UnitCheck.meaning g.C.Text.ReadText.header g.P.FixedAnswers.answers g.R.ReadFiles.library
    g.C.UnitCheck.count (g.P.Answers.table predefined) (g.met.P.FixedAnswers.alike predefined) c.args.unit.now c.self.inside.engine c.build.new.self c.in_ok-build.ensures.ok

pub returns-clause-ok : goal.returns-clause-ok
returns-clause-ok g c =
    let predefined = c.self.inside.engine.predefined in
    built_from g.C.UnitCheck.meaning g.C.Text.ReadText.header g.P.FixedAnswers.answers g.R.ReadFiles.library
    g.C.UnitCheck.count (g.P.Answers.table predefined) (g.met.P.FixedAnswers.alike predefined) c.args.unit.now c.self.inside.engine c.build.new.self c.in_ok-build.ensures.ok c.args.self.now c.self.view_is c.build.ensures.files.0
