use Rattle.std.proofs.Common.{◌≡◌, take}
use Rattle.al_decl_judged.specs.Types.{components_of}
use Rattle.al_decl_judged.proofs.record.components_of.Given as goal

abbrev pub invariant-loop-part : goal.invariant-loop-part
invariant-loop-part l = l.components ≡ components_of (take l.part-index l.parts)
