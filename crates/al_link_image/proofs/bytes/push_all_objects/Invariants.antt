use Rattle.std.proofs.Common.{◌≡◌, ◌≤◌, ◌+◌, ◌++◌, length, take, drop, vec_capacity}
use Rattle.std.specs.List.{flat_map}
use Rattle.al_link_image.specs.Images.{object_bytes}
use Rattle.al_link_image.proofs.bytes.push_all_objects.Given as goal

abbrev pub invariant-loop-object : goal.invariant-loop-object
invariant-loop-object l = record {
  value : l.out.items ≡ l.initial.out.items ++ flat_map object_bytes (take l.object-index l.objects);
  capacity : vec_capacity l.initial.out ≤ vec_capacity l.out;
  room : length l.out.items + length (flat_map object_bytes (drop l.object-index l.objects)) ≡ length l.initial.out.items + length (flat_map object_bytes l.objects);
}
