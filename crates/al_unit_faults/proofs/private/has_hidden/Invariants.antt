use Rattle.std.proofs.Common.{◌≡◌, false, map, take}
use Rattle.std.specs.List.{list_any}
use Rattle.al_unit_graph.specs.Views.{header_model}
use Rattle.al_unit_faults.specs.Private.{is_hidden}
use Rattle.al_unit_faults.proofs.private.has_hidden.Given as goal

abbrev pub invariant-loop-name : goal.invariant-loop-name
invariant-loop-name l = list_any (is_hidden l.sources (header_model l.header)) (map (λ n. n.now) (take l.name-index l.names)) ≡ false
