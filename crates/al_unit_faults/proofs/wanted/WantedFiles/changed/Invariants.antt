use Rattle.std.proofs.Common.{[], get_or}
use Rattle.al_unit_graph.specs.Traces.{is_changed}
use Rattle.al_unit_faults.proofs.ObsoleteStepLemmas.{AreThose}
use Rattle.al_unit_faults.proofs.wanted.WantedFiles.changed.Given as goal

abbrev pub invariant-loop-number : goal.invariant-loop-number
invariant-loop-number l = AreThose (λ a. is_changed l.built l.now (get_or l.self.names.items a [])) l.number l.numbers.items
