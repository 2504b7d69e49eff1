use Rattle.std.proofs.Common.{◌≡◌}
use Rattle.al_folder_served.proofs.explaining.report_lines.Given as goal

abbrev pub invariant-loop-noted : goal.invariant-loop-noted
invariant-loop-noted g l = l.screen.output ≡ l.fn.screen.output
