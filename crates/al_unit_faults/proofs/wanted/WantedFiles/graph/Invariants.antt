use Rattle.std.proofs.Common.{◌≡◌, length, take}
use Rattle.al_unit_faults.proofs.ObsoleteStepLemmas.{HasSteps}
use Rattle.al_unit_faults.proofs.wanted.WantedFiles.graph.Given as goal

abbrev pub invariant-loop-from : goal.invariant-loop-from
invariant-loop-from l = record {
  count : length l.graph ≡ length l.self.names.items;
  steps : HasSteps l.graph (take l.from-index l.self.steps.items);
}
