use Rattle.std.proofs.Common.{◌≡◌, length, map, take}
use Rattle.std.specs.Char.{to_ascii_lowercase}
use Rattle.al_base.proofs.name.short_folded.Given as goal

abbrev pub invariant-loop-i : goal.invariant-loop-i
invariant-loop-i l = record {
  whole : length l.bytes ≡ 22;
  done : take l.i l.bytes ≡ map to_ascii_lowercase (take l.i l.word);
}
