use Rattle.std.proofs.Common.{◌≡◌, map, take}
use Rattle.al_decl_judged.specs.Types.{words_of}
use Rattle.al_decl_judged.proofs.record.words_of_parts.Given as goal

abbrev pub invariant-loop-part : goal.invariant-loop-part
invariant-loop-part l = l.words.items ≡ map (λ p. words_of p.of) (take l.part-index l.parts)
