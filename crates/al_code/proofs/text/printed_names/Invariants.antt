use Rattle.std.proofs.Common.{◌≡◌, All, map, take}
use Rattle.al_instr.specs.Codes.{IsName}
use Rattle.al_code.specs.Pieces.{printed}
use Rattle.al_code.proofs.text.printed_names.Given as goal

abbrev pub invariant-loop-name : goal.invariant-loop-name
invariant-loop-name l = record { value : l.words ≡ map printed (take l.name-index l.names); fits : All IsName l.words }
