use Rattle.std.proofs.Common.{◌≡◌, ◌+◌, ◌<◌, ◌≤◌, length, Some}
use Rattle.al_machine.specs.Machine.{machine}
use Rattle.al_machine.specs.Frames.{followed}
use Rattle.al_machine.proofs.frames.follow.Given as goal

-- the links that are left lead where all did, and the frame that was passed leads here
abbrev pub invariant-loop-left : goal.invariant-loop-left
invariant-loop-left l = record {
  within : l.frame < length l.memory;
  bound : l.ago + l.left ≤ l.links;
  most : l.most ≤ l.links + l.links + 1;
  leads : followed l.left (machine l.memory l.registers) l.frame ≡ followed l.links (machine l.memory l.registers) l.registers.frame;
  passed : followed l.ago (machine l.memory l.registers) l.passed ≡ Some l.frame;
}

abbrev pub decreases-loop-left : goal.decreases-loop-left
decreases-loop-left l = l.left
