use Rattle.std.proofs.Common.{◌≡◌, ◌≤◌, ◌+◌, ◌++◌, length, take, map, vec_capacity}
use Rattle.std.specs.List.{All}
use Rattle.al_link_image.specs.Images.{IsRegion}
use Rattle.al_link.specs.Images.{region_at}
use Rattle.al_link.proofs.refilling.push_regions_at.Given as goal

abbrev pub invariant-loop-one : goal.invariant-loop-one
invariant-loop-one l = record {
  value : l.regions.items ≡ l.initial.regions.items ++ map (region_at l.words) (take l.one-index l.one-items);
  fit : All (IsRegion l.total) l.regions.items;
  capacity : vec_capacity l.initial.regions ≤ vec_capacity l.regions;
  size : length l.regions.items ≡ length l.initial.regions.items + l.one-index;
}
