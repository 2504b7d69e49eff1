use Rattle.std.proofs.Common.{◌≡◌}
use Rattle.al_folder.specs.Lines.{after_lines}
use Rattle.al_folder.proofs.lines.after_lines.Given as goal

abbrev pub invariant-loop-line : goal.invariant-loop-line
invariant-loop-line l = l.rest ≡ after_lines l._line l.fn.text
