use Rattle.std.proofs.Common.{◌≡◌, ◌≤◌, length, drop, reverse}
use Rattle.al_instr.specs.Lines.{first_place, line_table}
use Rattle.al_instr.proofs.lines.line_table.Given as goal

abbrev pub invariant-marks : goal.invariant-marks
invariant-marks l = record {
  left : l.left ≤ length l.marks;
  lines : reverse l.lines.items ≡ line_table l.end (drop l.left l.marks);
  front : l.front ≡ first_place l.end (line_table l.end (drop l.left l.marks));
}

abbrev pub decreases-marks : goal.decreases-marks
decreases-marks l = l.left
