use Rattle.std.proofs.Common.{[], refl}
use Rattle.al_session_stream.specs.Output.{sink_moment}
use Rattle.al_session_stream.proofs.Moments.{appends_none}
use Rattle.al_session_served.proofs.Builds.{build_reply_some, report_some, report_none}
use Rattle.al_session_served.proofs.reports.emit_reply.Goals as goal

pub returns-in-Done : goal.returns-in-Done
returns-in-Done g c = rw c.in-Done.is (c.emit.ensures.adds _ [] (appends_none _, refl, λ none passed. passed))

pub returns-in-Refused : goal.returns-in-Refused
returns-in-Refused g c = rw c.in-Refused.is (c.emit_refusal.ensures.adds _ [] (appends_none _, refl, λ none passed. passed))

pub returns-in-Some : goal.returns-in-Some
returns-in-Some g c =
    let same = build_reply_some (g.L.UnitLibrary.state c.args.library.now).built _ c.in-Some.ensures in
    rw (c.in-LastBuild.is, same) (c.emit_outcome.ensures.adds _ [] (appends_none _, refl, λ none passed. passed))

pub returns-in-None-last : goal.returns-in-None-last
returns-in-None-last g c =
    let same = report_none c.in-Report.subject (g.L.UnitLibrary.state c.args.library.now).built c.in-None-last.ensures in
    rw (c.in-Report.is, same) (c.emit_refusal-in-None-last.ensures.adds _ [] (appends_none _, refl, λ none passed. passed))

pub returns-in-Some-last : goal.returns-in-Some-last
returns-in-Some-last g c =
    let same = report_some c.in-Report.subject (g.L.UnitLibrary.state c.args.library.now).built _ c.in-Some-last.ensures in
    rw (c.in-Report.is, same) (c.emit_report.ensures.adds _ [] (appends_none _, refl, λ none passed. passed))

pub returns-in-Units : goal.returns-in-Units
returns-in-Units g c =
    let wrote = c.emit_units.ensures.adds (sink_moment g.K.Sink.written g.K.Sink.faults g.K.Sink.waits c.args.writer.now) [] (appends_none _, refl, λ none passed. passed) in
    rw c.in-Units.is (rw c.as_slice.ensures.value at wrote)

pub returns-in-Obsolete : goal.returns-in-Obsolete
returns-in-Obsolete g c =
    let wrote = c.emit_order.ensures.adds (sink_moment g.K.Sink.written g.K.Sink.faults g.K.Sink.waits c.args.writer.now) [] (appends_none _, refl, λ none passed. passed) in
    rw c.in-Obsolete.is (rw c.as_slice-in-Obsolete.ensures.value at wrote)

pub returns-in-RunReport : goal.returns-in-RunReport
returns-in-RunReport g c = rw c.in-RunReport.is (c.emit_ran.ensures.adds _ [] (appends_none _, refl, λ none passed. passed))
