use Rattle.al_instr.proofs.NameFields.{NamesSoFar}
use Rattle.al_instr.proofs.reading.many_names.Given as goal

abbrev pub invariant-loop-index : goal.invariant-loop-index
invariant-loop-index l = NamesSoFar l.names l.index l.count l.rest l.fn.bytes
