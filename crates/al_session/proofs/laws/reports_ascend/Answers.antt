use Rattle.std.proofs.Common.{subst}
use Rattle.std.specs.Prelude.{IfSome}
use Rattle.al_base.specs.FileLaws.{Ascend}
use Rattle.al_unit.specs.Libraries.{library_of}
use Rattle.al_engine_files.specs.PredefinedUnits.{predefined_answer}
use Rattle.al_session.specs.EngineMeanings.{Compiles}
use Rattle.al_session.proofs.Reports.{gave_ascend}
use Rattle.al_session.proofs.laws.reports_ascend.Goals as goal

pub returns : goal.returns
returns g c = λ tick at_end commands marks bytes all last findings session built faulty.
    let meaning = g.C.UnitCheck.meaning in
    let header = g.C.Text.ReadText.header in
    let ordered = c.sessions_are_ordered.ensures tick at_end commands marks bytes all session in
    let right = c.builds_are_right.ensures tick at_end commands marks bytes all session in
    let ascend = subst (λ b. IfSome b (λ l. Ascend l.files)) built ordered.built in
    let compiled = subst (λ b. IfSome b (λ l. Compiles meaning header predefined_answer library_of l.files l.main l.gave)) built right in
    gave_ascend c.findings_ascend.ensures meaning header last.files last.main ascend findings last.gave compiled faulty
