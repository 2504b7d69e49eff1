use Rattle.std.proofs.Common.{◌≡◌, length, take, map}
use Rattle.std.specs.List.{All, flat_map}
use Rattle.al_instr.specs.Lines.{AreLines}
use Rattle.al_link.specs.Images.{lines_of}
use Rattle.al_link.specs.Units.{located_model}
use Rattle.al_link.proofs.image.lines_of.Given as goal

abbrev pub invariant-loop-unit : goal.invariant-loop-unit
invariant-loop-unit l = record {
  value : l.lines.items ≡ flat_map lines_of (map located_model (take l.unit-index l.units));
  each : All (λ k. AreLines (length k.object.now.code) k.object.now.lines) (take l.unit-index l.units);
}
