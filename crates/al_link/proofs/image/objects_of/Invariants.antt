use Rattle.std.proofs.Common.{◌≡◌, take, map}
use Rattle.std.specs.List.{All}
use Rattle.al_link_image.specs.Images.{IsObject}
use Rattle.al_link.specs.Images.{object_of}
use Rattle.al_link.specs.Units.{located_model}
use Rattle.al_link.proofs.image.objects_of.Given as goal

abbrev pub invariant-loop-unit : goal.invariant-loop-unit
invariant-loop-unit l = record {
  value : l.objects.items ≡ map object_of (map located_model (take l.unit-index l.units));
  fit : All IsObject l.objects.items;
}
