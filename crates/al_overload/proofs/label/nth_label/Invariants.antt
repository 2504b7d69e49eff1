use Rattle.std.proofs.Common.{◌≡◌}
use Rattle.al_overload.specs.Counts.{labels_of}
use Rattle.al_overload.specs.Labels.{nth_label}
use Rattle.al_overload.proofs.label.nth_label.Given as goal

abbrev pub invariant-loop-rest : goal.invariant-loop-rest
invariant-loop-rest l = nth_label l.left (labels_of l.rest) ≡ nth_label l.fn.position (labels_of l.fn.labels)
