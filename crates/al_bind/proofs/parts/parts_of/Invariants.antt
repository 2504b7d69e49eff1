use Rattle.std.proofs.Common.{map}
use Rattle.al_base.specs.Batch.{key_of}
use Rattle.al_bind.proofs.PartLemmas.{ArePartsUpto}
use Rattle.al_bind.proofs.parts.parts_of.Given as goal

abbrev pub invariant-loop-i : goal.invariant-loop-i
invariant-loop-i l = ArePartsUpto l.sources (key_of l.key) (map key_of l.parts.items) l.i
