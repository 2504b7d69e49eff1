use Rattle.std.proofs.Common.{◌≡◌, [], map, take}
use Rattle.std.specs.List.{flat_map, fold}
use Rattle.std.specs.BTreeSet.{insert_key}
use Rattle.al_unit_graph.specs.Orders.{key_cmp}
use Rattle.al_unit_faults.specs.FilesSeen.{file_faults_model}
use Rattle.al_unit_faults.specs.Steps.{reachable_in}
use Rattle.al_unit_faults.proofs.reaching.units_on_sound.Given as goal

abbrev pub invariant-loop-file : goal.invariant-loop-file
invariant-loop-file l = l.units ≡ fold (insert_key key_cmp) [] (flat_map (reachable_in l.sources l.dependents) (map file_faults_model (take l.file-index l.faults)))
