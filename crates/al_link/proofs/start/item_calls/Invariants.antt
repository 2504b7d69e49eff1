use Rattle.std.proofs.Common.{◌≡◌, take, map}
use Rattle.std.specs.List.{All, flat_map}
use Rattle.al_instr.specs.Codes.{IsInstr}
use Rattle.al_link.specs.Images.{calls_of}
use Rattle.al_link.specs.Units.{located_model}
use Rattle.al_link.proofs.start.item_calls.Given as goal

abbrev pub invariant-loop-unit : goal.invariant-loop-unit
invariant-loop-unit l = record {
  code : l.code.items ≡ flat_map calls_of (map located_model (take l.unit-index l.units));
  fits : All IsInstr l.code.items;
}
