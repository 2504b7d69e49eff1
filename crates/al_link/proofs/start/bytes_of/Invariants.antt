use Rattle.std.proofs.Common.{◌≡◌, take}
use Rattle.al_instr.specs.Codes.{code_bytes}
use Rattle.al_link.proofs.start.bytes_of.Given as goal

abbrev pub invariant-loop-instruction : goal.invariant-loop-instruction
invariant-loop-instruction l = l.bytes.items ≡ code_bytes (take l.instruction-index l.code)
