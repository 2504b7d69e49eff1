use Rattle.std.proofs.Common.{◌≡◌, ◌≤◌, map, drop}
use Rattle.al_overload.specs.Counts.{label_of, labels_of}
use Rattle.al_overload.specs.Places.{first_place}
use Rattle.al_overload.specs.TermViews.{term_model, terms_of}
use Rattle.al_overload.specs.declared.heads_term.Term.{size-Term}
use Rattle.al_overload_nodes.specs.Gathering.{no_parts}
use Rattle.al_overload_nodes.specs.Views.{actuals_model, values_model}
use Rattle.al_overload.specs.Universal.{is_universal}
use Rattle.al_overload_nodes.specs.Chains.{chained_node}
use Rattle.al_overload_nodes.specs.Known.{IsKnown}
use Rattle.al_overload_nodes.specs.OperandLabels.{labels_from, operand_labels}
use Rattle.al_overload_nodes.specs.Readings.{actuals_read, reading, values_read}
use Rattle.al_overload_nodes.proofs.reading.+reading.Given as goal

abbrev pub invariant-read_actuals-loop-position : goal.invariant-read_actuals-loop-position
invariant-read_actuals-loop-position l =
    (actuals_read l.labeller.predefined l.labeller.own l.subprogram (label_of l.label) l.position (actuals_model l.actuals) (terms_of (map term_model (drop l.position l.arguments)))
    ≡ actuals_read l.labeller.predefined l.labeller.own l.subprogram (label_of l.label) 0 no_parts (terms_of (map term_model l.arguments)))
    × (labels_of l.labels ≡ labels_from l.position (operand_labels (label_of l.label)))

abbrev pub invariant-read_values-loop-position : goal.invariant-read_values-loop-position
invariant-read_values-loop-position l =
    (values_read l.labeller.predefined l.labeller.own l.types l.at (label_of l.label) l.position (values_model l.values) (terms_of (map term_model (drop l.position l.components)))
    ≡ values_read l.labeller.predefined l.labeller.own l.types l.at (label_of l.label) 0 no_parts (terms_of (map term_model l.components)))
    × (labels_of l.labels ≡ labels_from l.position (operand_labels (label_of l.label)))

abbrev pub invariant-read_boxed-loop-joints : goal.invariant-read_boxed-loop-joints
invariant-read_boxed-loop-joints l =
    (chained_node l.labeller.predefined l.place l.joints.items (reading l.labeller.predefined l.labeller.own (term_model l.rest) (label_of l.label) l.types l.at)
    ≡ reading l.labeller.predefined l.labeller.own (term_model l.fn.term) (label_of l.fn.label) l.fn.types l.fn.at)
    × (l.place ≡ first_place (term_model l.rest))
    × (size-Term l.rest ≤ size-Term l.fn.term)
    × IsKnown l.known (is_universal (term_model l.rest))

abbrev pub decreases-read_boxed-loop-joints : goal.decreases-read_boxed-loop-joints
decreases-read_boxed-loop-joints l = size-Term l.rest
