use Rattle.std.proofs.Common.{◌≡◌, ◌≤◌, drop}
use Rattle.al_instr.specs.Lines.{rise}
use Rattle.al_instr.proofs.lines.are_lines.Given as goal

abbrev pub invariant-loop-one : goal.invariant-loop-one
invariant-loop-one l = (rise l.lowest l.end (drop l.one-index l.lines) ≡ rise 0 l.end l.lines) × (l.lowest ≤ 4294967296)
