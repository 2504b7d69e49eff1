use Rattle.std.proofs.Common.{◌≡◌, ◌≤◌, ◌+◌, ◌++◌, length, take, drop, vec_capacity}
use Rattle.std.specs.List.{flat_map}
use Rattle.al_link_image.specs.Lines.{entry_bytes}
use Rattle.al_link_image.proofs.bytes.push_all_entries.Given as goal

abbrev pub invariant-loop-entry : goal.invariant-loop-entry
invariant-loop-entry l = record {
  value : l.out.items ≡ l.initial.out.items ++ flat_map entry_bytes (take l.entry-index l.entries);
  capacity : vec_capacity l.initial.out ≤ vec_capacity l.out;
  room : length l.out.items + length (flat_map entry_bytes (drop l.entry-index l.entries)) ≡ length l.initial.out.items + length (flat_map entry_bytes l.entries);
}
