use Rattle.std.proofs.Common.{◌≤◌, ◌<◌, ◌-◌, length, get_or}
use Rattle.al_instr.specs.declared.lines.LineEntry.{LineEntry}
use Rattle.al_instr.proofs.lines.line_at.Given as goal

abbrev pub invariant-halves : goal.invariant-halves
invariant-halves l = record {
  low : l.low ≤ l.high;
  high : l.high ≤ length l.lines;
  below : (d : LineEntry) → 0 < l.low → (get_or l.lines (l.low - 1) d).place ≤ l.place;
  above : (d : LineEntry) → l.high < length l.lines → l.place < (get_or l.lines l.high d).place;
}

abbrev pub decreases-halves : goal.decreases-halves
decreases-halves l = l.high - l.low
