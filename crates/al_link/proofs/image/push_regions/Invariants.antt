use Rattle.std.proofs.Common.{◌≡◌, ◌++◌, take, map}
use Rattle.std.specs.List.{All}
use Rattle.al_link_image.specs.Images.{IsRegion}
use Rattle.al_link.specs.Images.{region_at}
use Rattle.al_link.proofs.image.push_regions.Given as goal

abbrev pub invariant-loop-one : goal.invariant-loop-one
invariant-loop-one l = record {
  value : l.regions.items ≡ l.initial.regions.items ++ map (region_at l.unit.before.words) (take l.one-index l.one-items);
  fit : All (IsRegion l.total) l.regions.items;
}
