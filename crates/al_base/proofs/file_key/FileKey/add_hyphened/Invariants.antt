use Rattle.std.proofs.Common.{◌≡◌, ◌++◌, map, take}
use Rattle.al_base.specs.FileNames.{hyphen_for_dot}
use Rattle.al_base.proofs.file_key.FileKey.add_hyphened.Given as goal

abbrev pub invariant-loop-byte : goal.invariant-loop-byte
invariant-loop-byte l = l.self ≡ l.initial.self ++ map hyphen_for_dot (take l.byte-index l.name)
