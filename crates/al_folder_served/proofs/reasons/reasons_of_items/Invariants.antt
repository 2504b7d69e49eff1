use Rattle.std.proofs.Common.{◌≡◌, map, take}
use Rattle.std.specs.List.{All}
use Rattle.al_base.specs.Batch.{key_of}
use Rattle.al_folder_served.specs.Reasons.{AreRight}
use Rattle.al_folder_served.proofs.reasons.reasons_of_items.Given as goal

abbrev pub invariant-loop-item : goal.invariant-loop-item
invariant-loop-item l = record {
  each : All (AreRight l.sources) l.reasons.items;
  items : map (λ r. key_of r.item) l.reasons.items ≡ map key_of (take l.item-index l.items);
}
