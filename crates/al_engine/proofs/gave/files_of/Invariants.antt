use Rattle.std.proofs.Common.{◌≡◌, [], map, take}
use Rattle.std.specs.List.{fold}
use Rattle.std.specs.BTreeSet.{insert_key}
use Rattle.al_base.specs.Files.{name_cmp}
use Rattle.al_unit_graph.specs.Orders.{names_model}
use Rattle.al_engine.proofs.gave.files_of.Given as goal

abbrev pub invariant-loop-d : goal.invariant-loop-d
invariant-loop-d l = names_model l.files.keys ≡ fold (insert_key name_cmp) [] (map (λ d. d.file) (take l.d-index l.found))
