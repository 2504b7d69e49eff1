use Rattle.std.proofs.Common.{◌≡◌, [], map, take}
use Rattle.std.specs.List.{filter, fold}
use Rattle.std.specs.BTreeSet.{insert_key}
use Rattle.al_base.specs.Batch.{key_of}
use Rattle.al_unit_graph.specs.Library.{is_unit}
use Rattle.al_unit_graph.specs.Orders.{key_cmp}
use Rattle.al_unit_graph.proofs.source.Sources.units_among.Given as goal

abbrev pub invariant-loop-key : goal.invariant-loop-key
invariant-loop-key l = l.units ≡ fold (insert_key key_cmp) [] (filter (is_unit l.self) (map key_of (take l.key-index l.keys)))
