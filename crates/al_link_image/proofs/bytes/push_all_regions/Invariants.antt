use Rattle.std.proofs.Common.{◌≡◌, ◌≤◌, ◌+◌, ◌++◌, length, take, drop, vec_capacity}
use Rattle.std.specs.List.{flat_map}
use Rattle.al_link_image.specs.Images.{region_bytes}
use Rattle.al_link_image.proofs.bytes.push_all_regions.Given as goal

abbrev pub invariant-loop-region : goal.invariant-loop-region
invariant-loop-region l = record {
  value : l.out.items ≡ l.initial.out.items ++ flat_map region_bytes (take l.region-index l.regions);
  capacity : vec_capacity l.initial.out ≤ vec_capacity l.out;
  room : length l.out.items + length (flat_map region_bytes (drop l.region-index l.regions)) ≡ length l.initial.out.items + length (flat_map region_bytes l.regions);
}
