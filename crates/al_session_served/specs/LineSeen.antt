-- A line of the code, as the definitions see it.
use Rattle.std.specs.Prelude.{map}
use Rattle.std.specs.Char.{to_ascii_lowercase}
use Rattle.al_session_served.specs.Lines.{LineKind, PutLine, BadPutLine, WholeLine}
use Rattle.al_session_served.specs.Lines.{Command, Delete, Rename, Build, Run, Report, ReportUnits, ReportObsolete, Quit, Bad}
use Rattle.al_session_served.specs.declared.line.Line.{Line}
use Rattle.al_session_served.specs.declared.line.Line.TheVariants as line
use Rattle.al_session_served.specs.declared.line.OneLine.{OneLine}
use Rattle.al_session_served.specs.declared.line.OneLine.TheVariants as simple

abbrev pub simple_model : OneLine → Command
simple_model (simple.Delete name) = Delete name.now
simple_model (simple.Rename old new) = Rename old.now new.now
simple_model (simple.Build unit) = Build (map to_ascii_lowercase unit.now)
simple_model (simple.Run steps) = Run steps
simple_model (simple.Report subject) = Report subject
simple_model simple.ReportUnits = ReportUnits
simple_model simple.ReportObsolete = ReportObsolete
simple_model simple.Quit = Quit
simple_model simple.Bad = Bad

abbrev pub line_model : Line → LineKind
line_model (line.Put name len) = PutLine name.now len
line_model line.BadPut = BadPutLine
line_model (line.Whole command) = WholeLine (simple_model command)
