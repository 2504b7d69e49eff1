use Rattle.std.proofs.Common.{◌≡◌, take}
use Rattle.al_decl_judged.specs.Types.{part_types}
use Rattle.al_decl_judged.proofs.record.part_types.Given as goal

abbrev pub invariant-loop-part : goal.invariant-loop-part
invariant-loop-part l = l.types ≡ part_types (take l.part-index l.parts)
