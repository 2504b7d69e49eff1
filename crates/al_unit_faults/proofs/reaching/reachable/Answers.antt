use Rattle.std.proofs.Common.{◌≡◌, map, ◌∙◌}
use Rattle.al_unit_faults.specs.FilesSeen.{file_faults_model}
use Rattle.al_unit_graph.proofs.Lists.{map_twice}
use Rattle.al_unit_faults.specs.Reached.{has_fault}
use Rattle.al_unit_faults.proofs.FaultlessLemmas.{flags_marked, lists_reachable, marked}
use Rattle.al_unit_faults.proofs.reaching.reachable.Goals as goal

pub returns : goal.returns
returns c =
    let lib = c.args.sources.now in
    let faults = map file_faults_model c.args.faults.now in
    let flags = c.as_slice.ensures.value ∙ c.in_ok-flags.ensures ∙ map_twice has_fault file_faults_model c.args.faults.now ∙ flags_marked lib faults c.requires in
    let tells = c.in_ok-dependents.ensures (marked lib) flags in
    lists_reachable lib c.in_ok-dependents.dependents tells faults _ c.requires c.in_ok-units.ensures
