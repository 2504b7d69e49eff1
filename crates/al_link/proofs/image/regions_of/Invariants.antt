use Rattle.std.proofs.Common.{◌≡◌, length, take, map, sum_by}
use Rattle.std.specs.List.{All, flat_map}
use Rattle.al_link_image.specs.Images.{IsRegion}
use Rattle.al_link.specs.Images.{regions_of}
use Rattle.al_link.specs.Units.{located_model}
use Rattle.al_link.proofs.image.regions_of.Given as goal

abbrev pub invariant-loop-unit : goal.invariant-loop-unit
invariant-loop-unit l = record {
  value : l.regions.items ≡ flat_map regions_of (map located_model (take l.unit-index l.units));
  fit : All (IsRegion l.total) l.regions.items;
  count : length l.regions.items ≡ sum_by (λ k. length k.object.now.protected) (take l.unit-index l.units);
}
