use Rattle.std.proofs.Common.{refl}
use Rattle.al_session_served.proofs.answering.answer.Goals as goal

pub returns-in-Delete : goal.returns-in-Delete
returns-in-Delete g c = rw c.in-Delete.is (refl, c.delete.ensures c.args.tick)

pub returns-in-Rename : goal.returns-in-Rename
returns-in-Rename g c = rw c.in-Rename.is (refl, c.rename.ensures c.args.tick)

pub returns-in-Build : goal.returns-in-Build
returns-in-Build g c = rw c.in-Build.is (refl, c.build.ensures c.args.tick)

pub returns-in-ReportUnits : goal.returns-in-ReportUnits
returns-in-ReportUnits g c = rw c.in-ReportUnits.is (refl, c.report_units.ensures c.args.tick)

pub returns-in-ReportObsolete : goal.returns-in-ReportObsolete
returns-in-ReportObsolete g c = rw c.in-ReportObsolete.is (refl, c.report_obsolete.ensures c.args.tick)
