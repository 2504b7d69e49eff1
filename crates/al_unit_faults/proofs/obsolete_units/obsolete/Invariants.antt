use Rattle.std.proofs.Common.{◌≡◌, [], map, take}
use Rattle.std.specs.List.{flat_map, fold}
use Rattle.std.specs.BTreeSet.{insert_key}
use Rattle.al_unit_graph.specs.Traces.{AreReadAlike}
use Rattle.al_unit_graph.specs.Orders.{key_cmp, names_model}
use Rattle.al_unit_faults.specs.Wanted.{obsolete_in}
use Rattle.al_unit_faults.proofs.obsolete_units.obsolete.Given as goal

abbrev pub invariant-loop-i : goal.invariant-loop-i
invariant-loop-i l = AreReadAlike l.built l.now → l.keys ≡ fold (insert_key key_cmp) [] (flat_map (obsolete_in l.built (names_model l.faulty.keys) l.now) (take l.i (map (λ f. f.now) l.file-items)))
