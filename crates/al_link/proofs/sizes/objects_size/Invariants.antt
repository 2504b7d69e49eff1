use Rattle.std.proofs.Common.{◌≡◌, ◌*◌, ◌+◌, ◌≤◌, length, drop}
use Rattle.std.specs.List.{flat_map}
use Rattle.al_link_image.specs.Images.{object_bytes}
use Rattle.al_link.proofs.sizes.objects_size.Given as goal

abbrev pub invariant-loop-object : goal.invariant-loop-object
invariant-loop-object l = record {
  size : l.size + length (flat_map object_bytes (drop l.object-index l.objects)) ≡ length (flat_map object_bytes l.objects);
  small : l.size ≤ 261 * l.object-index;
}
